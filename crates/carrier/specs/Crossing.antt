-- A crossing of the address lines, and a chip as it is seen through one.
use Rattle.std.specs.Prelude.{◌≡◌, ℕ, ◌%◌, ◌<◌}
use Rattle.chip.specs.Rules.{Cycle, write, read, sign, wait, supply, Meaning, Register}
use Rattle.chip.specs.declared.state.Mode.{Mode}
use Rattle.chip.specs.declared.state.Mode.TheVariants.{Read, Sign, Idle, ProgramSetup, Programming, ProgramVerify, EraseSetup, Erasing, EraseVerify}
use Rattle.chip.specs.declared.state.Marks.{Marks}

-- In a chip of n places, there and back each take places to places, and each undoes the other.
pub record Crosses (there back : ℕ → ℕ) (n : ℕ) : Type 0 where
  pub there_inside : (a : ℕ) → a < n → there a < n
  pub back_inside : (p : ℕ) → p < n → back p < n
  pub there_back : (p : ℕ) → p < n → there (back p) ≡ p
  pub back_there : (a : ℕ) → a < n → back (there a) ≡ a

-- Where a crossing takes an address, in a chip of n places.
abbrev pub across : (ℕ → ℕ → ℕ) → ℕ → ℕ → ℕ
across f n a = f n (a % n)

-- The cycle that the chip below takes: reading and writing are crossed, all else has no address.
abbrev pub crossed : (ℕ → ℕ → ℕ) → ℕ → Cycle → Cycle
crossed there n (write a b) = write (across there n a) b
crossed there n (read a v) = read (across there n a) v
crossed there n (sign c v) = sign c v
crossed there n (wait w) = wait w
crossed there n (supply v) = supply v

abbrev pub mode_seen : (ℕ → ℕ → ℕ) → ℕ → Mode → Mode
mode_seen back n Read = Read
mode_seen back n Sign = Sign
mode_seen back n Idle = Idle
mode_seen back n ProgramSetup = ProgramSetup
mode_seen back n (Programming p d t) = Programming (across back n p) d t
mode_seen back n (ProgramVerify p t) = ProgramVerify (across back n p) t
mode_seen back n EraseSetup = EraseSetup
mode_seen back n (Erasing t) = Erasing t
mode_seen back n (EraseVerify p t) = EraseVerify (across back n p) t

abbrev pub marks_seen : (ℕ → ℕ → ℕ) → ℕ → Marks → Marks
marks_seen back n k = record {
  tallies = k.tallies;
  turn = record { place = across back n k.turn.place; length = k.turn.length; longest = k.turn.longest };
  run = k.run;
}

abbrev pub register_seen : (ℕ → ℕ → ℕ) → ℕ → Register → Register
register_seen back n r = record {
  marks = marks_seen back n r.marks;
  voltage = r.voltage;
  mode = mode_seen back n r.mode;
}

-- The chip below as the carrier shows it: the same cells, each at its place in the carrier.
abbrev pub seen : (ℕ → ℕ → ℕ) → (ℕ → ℕ → ℕ) → Meaning → Meaning
seen there back m = record {
  size = m.size;
  maker = m.maker;
  device = m.device;
  E = λ a. m.E (there m.size a);
  R = λ a. m.R (there m.size a);
  P = λ a. m.P (there m.size a);
  register = register_seen back m.size m.register;
}
