-- The rules of a chip: what one bus cycle may do. docs/CHIP.md tells the same in words, in this order.
use Rattle.std.specs.Prelude.{◌≡◌, ℕ, ◌+◌, ◌/◌, ◌%◌, ◌^◌, ◌<◌, ◌≤◌, min, max, Bool, true, false, cond, ◌==◌, ◌≢◌, nat_lt}
use Rattle.chip.specs.declared.state.Voltage.{Voltage}
use Rattle.chip.specs.declared.state.Voltage.TheVariants.{Low, High}
use Rattle.chip.specs.declared.state.Code.{Code}
use Rattle.chip.specs.declared.state.Code.TheVariants.{Maker, Device}
use Rattle.chip.specs.declared.state.Mode.{Mode}
use Rattle.chip.specs.declared.state.Mode.TheVariants.{Read, Sign, Idle, ProgramSetup, Programming, ProgramVerify, EraseSetup, Erasing, EraseVerify}
use Rattle.chip.specs.declared.state.Marks.{Marks}

-- CYCLES AND CHIPS

-- What happens on the bus: a write of a byte at an address, a reading at an address or of a code with the byte that came, a wait in microseconds, a change of voltage.
pub data Cycle : Type 0 where
  write : ℕ → ℕ → Cycle
  read : ℕ → ℕ → Cycle
  sign : Code → ℕ → Cycle
  wait : ℕ → Cycle
  supply : Voltage → Cycle

pub record Register : Type 0 where
  pub marks : Marks
  pub voltage : Voltage
  pub mode : Mode

-- All that the rules speak of. E, R and P give the byte of a place under erase margin, in ordinary reading and under program margin.
pub record Meaning : Type 0 where
  pub size : ℕ
  pub maker : ℕ
  pub device : ℕ
  pub E : ℕ → ℕ
  pub R : ℕ → ℕ
  pub P : ℕ → ℕ
  pub register : Register

-- SIZE

-- The size is a power of two from 2 to 32,768.
pub record Sized (n : ℕ) : Type 0 where
  pub lines : ℕ
  pub least : 1 ≤ lines
  pub most : lines ≤ 15
  pub power : n ≡ 2 ^ lines

-- CELLS

abbrev pub bit : ℕ → ℕ → ℕ
bit k x = x / 2 ^ k % 2

-- Every bit that is 1 in x is 1 in y.
abbrev pub Within : ℕ → ℕ → Type 0
Within x y = (k : ℕ) → bit k x ≤ bit k y

-- The three bytes of a place: a cell that passes the harder test passes the easier one.
pub record Nested (e r p : ℕ) : Type 0 where
  pub inner : Within e r
  pub outer : Within r p
  pub byte_e : e < 256
  pub byte_r : r < 256
  pub byte_p : p < 256

pub record Ordered (s : Meaning) : Type 0 where
  pub nested : (a : ℕ) → a < s.size → Nested (s.E a) (s.R a) (s.P a)

-- Is the chip wholly at zero?
abbrev pub Zeroed : Bool → Meaning → Type 0
Zeroed true s = (a : ℕ) → a < s.size → s.P a ≡ 0
Zeroed false s = (a : ℕ) × (a < s.size) × (0 < s.P a)

-- STRIKES

-- What the end of a pulse does to the cells: nothing, a program strike at a place with its data, or an erase strike.
pub data Strike : Type 0 where
  none : Strike
  program : ℕ → ℕ → Strike
  erase : Strike

-- What a strike may make of the byte x at place a: y.
abbrev pub May : Strike → ℕ → ℕ → ℕ → Type 0
May none a x y = y ≡ x
May (program p d) a x y = (a ≡ p → Within y x × ((k : ℕ) → bit k d ≡ 1 → bit k y ≡ bit k x)) × ((a ≢ p) → y ≡ x)
May erase a x y = Within x y

pub record Moves (f : Strike) (s t : Meaning) (a : ℕ) : Type 0 where
  pub E : May f a (s.E a) (t.E a)
  pub R : May f a (s.R a) (t.R a)
  pub P : May f a (s.P a) (t.P a)
  pub nested : Nested (s.E a) (s.R a) (s.P a) → Nested (t.E a) (t.R a) (t.P a)

-- The strike that ends a mode in a chip of n places.
abbrev pub pulse : ℕ → Mode → Strike
pulse n Read = none
pulse n Sign = none
pulse n Idle = none
pulse n ProgramSetup = none
pulse n (Programming p d t) = program (p % n) d
pulse n (ProgramVerify p t) = none
pulse n EraseSetup = none
pulse n (Erasing t) = erase
pulse n (EraseVerify p t) = none

-- A write at high voltage ends a pulse, and so does setting the voltage.
abbrev pub strike : ℕ → Cycle → Voltage → Mode → Strike
strike n (write a b) Low m = none
strike n (write a b) High m = pulse n m
strike n (read a v) u m = none
strike n (sign c v) u m = none
strike n (wait w) u m = none
strike n (supply v) u m = pulse n m

-- MARKS

-- One more: a tally counts modulo 2^64, a length stops at 65,535.
abbrev pub tally : ℕ → ℕ
tally n = (n + 1) % 2 ^ 64

abbrev pub longer : ℕ → ℕ
longer n = min (n + 1) 65535

abbrev pub after_short : Marks → Marks
after_short k = record {
  tallies = record { program = k.tallies.program; erase = k.tallies.erase; short = tally k.tallies.short; hard = k.tallies.hard };
  turn = k.turn;
  run = k.run;
}

-- At the turn's own place the turn grows by one, elsewhere it begins anew.
abbrev pub turned : ℕ → ℕ → Marks → ℕ
turned n p k = cond (p % n == k.turn.place % n) (longer k.turn.length) 1

abbrev pub after_program : ℕ → ℕ → Marks → Marks
after_program n p k = record {
  tallies = record { program = tally k.tallies.program; erase = k.tallies.erase; short = k.tallies.short; hard = k.tallies.hard };
  turn = record { place = p % n; length = turned n p k; longest = max k.turn.longest (turned n p k) };
  run = record { length = 0; longest = k.run.longest };
}

-- An erase is hard where it opens a run on a chip not wholly at zero.
abbrev pub hardened : Bool → Marks → ℕ
hardened zeroed k = cond (k.run.length == 0) (cond zeroed k.tallies.hard (tally k.tallies.hard)) k.tallies.hard

abbrev pub after_erase : Bool → Marks → Marks
after_erase zeroed k = record {
  tallies = record { program = k.tallies.program; erase = tally k.tallies.erase; short = k.tallies.short; hard = hardened zeroed k };
  turn = record { place = k.turn.place; length = 0; longest = k.turn.longest };
  run = record { length = longer k.run.length; longest = max k.run.longest (longer k.run.length) };
}

-- A program pulse lasts at least 10 microseconds, an erase pulse at least 10,000.
abbrev pub ended : ℕ → Bool → Mode → Marks → Marks
ended n zeroed Read k = k
ended n zeroed Sign k = k
ended n zeroed Idle k = k
ended n zeroed ProgramSetup k = k
ended n zeroed (Programming p d t) k = cond (nat_lt t 10) (after_short k) (after_program n p k)
ended n zeroed (ProgramVerify p t) k = k
ended n zeroed EraseSetup k = k
ended n zeroed (Erasing t) k = cond (nat_lt t 10000) (after_short k) (after_erase zeroed k)
ended n zeroed (EraseVerify p t) k = k

-- FFh, written where no setup awaits its second byte, is a reset and ends the turn.
abbrev pub resets : Mode → ℕ → Bool
resets Read b = b == 0xFF
resets Sign b = b == 0xFF
resets Idle b = b == 0xFF
resets ProgramSetup b = false
resets (Programming p d t) b = b == 0xFF
resets (ProgramVerify p t) b = b == 0xFF
resets EraseSetup b = false
resets (Erasing t) b = b == 0xFF
resets (EraseVerify p t) b = b == 0xFF

abbrev pub after_reset : Bool → Marks → Marks
after_reset reset k = record {
  tallies = k.tallies;
  turn = record { place = k.turn.place; length = cond reset 0 k.turn.length; longest = k.turn.longest };
  run = k.run;
}

abbrev pub marks_after : ℕ → Bool → Cycle → Voltage → Mode → Marks → Marks
marks_after n zeroed (write a b) Low m k = k
marks_after n zeroed (write a b) High m k = after_reset (resets m b) (ended n zeroed m k)
marks_after n zeroed (read a v) u m k = k
marks_after n zeroed (sign c v) u m k = k
marks_after n zeroed (wait w) u m k = k
marks_after n zeroed (supply v) u m k = ended n zeroed m k

-- MODES

-- The commands, where no setup awaits its second byte; program_verify is what C0h gives.
abbrev pub commanded : ℕ → ℕ → ℕ → Mode → Mode
commanded n a b program_verify =
    cond (b == 0x00) Read
    (cond (b == 0x90) Sign
    (cond (b == 0x20) EraseSetup
    (cond (b == 0x40) ProgramSetup
    (cond (b == 0xA0) (EraseVerify (a % n) 0)
    (cond (b == 0xC0) program_verify Idle)))))

-- What a byte written at high voltage makes of each mode.
abbrev pub chosen : ℕ → ℕ → ℕ → Mode → Mode
chosen n a b Read = commanded n a b Idle
chosen n a b Sign = commanded n a b Idle
chosen n a b Idle = commanded n a b Idle
chosen n a b ProgramSetup = Programming (a % n) b 0
chosen n a b (Programming p d t) = commanded n a b (ProgramVerify p 0)
chosen n a b (ProgramVerify p t) = commanded n a b Idle
chosen n a b EraseSetup = cond (b == 0x20) (Erasing 0) Idle
chosen n a b (Erasing t) = commanded n a b Idle
chosen n a b (EraseVerify p t) = commanded n a b Idle

-- Time stops at 65,535 microseconds.
abbrev pub later : ℕ → ℕ → ℕ
later w t = min (t + w) 65535

abbrev pub timed : ℕ → Mode → Mode
timed w Read = Read
timed w Sign = Sign
timed w Idle = Idle
timed w ProgramSetup = ProgramSetup
timed w (Programming p d t) = Programming p d (later w t)
timed w (ProgramVerify p t) = ProgramVerify p (later w t)
timed w EraseSetup = EraseSetup
timed w (Erasing t) = Erasing (later w t)
timed w (EraseVerify p t) = EraseVerify p (later w t)

abbrev pub mode_after : ℕ → Cycle → Voltage → Mode → Mode
mode_after n (write a b) Low m = m
mode_after n (write a b) High m = chosen n a b m
mode_after n (read a v) u m = m
mode_after n (sign c v) u m = m
mode_after n (wait w) u m = timed w m
mode_after n (supply v) u m = Read

-- VOLTAGE

abbrev pub voltage_after : Cycle → Voltage → Voltage
voltage_after (write a b) u = u
voltage_after (read a v) u = u
voltage_after (sign c v) u = u
voltage_after (wait w) u = u
voltage_after (supply v) u = v

abbrev pub after : ℕ → Bool → Cycle → Register → Register
after n zeroed c r = record {
  marks = marks_after n zeroed c r.voltage r.mode r.marks;
  voltage = voltage_after c r.voltage;
  mode = mode_after n c r.voltage r.mode;
}

-- READINGS

-- Verifying needs 6 microseconds of settling. What no clause fixes is free.
abbrev pub Shown : Mode → Meaning → ℕ → ℕ → Type 0
Shown Read s a v = v ≡ s.R (a % s.size)
Shown Sign s a v = Unit {0}
Shown Idle s a v = Unit {0}
Shown ProgramSetup s a v = Unit {0}
Shown (Programming p d t) s a v = Unit {0}
Shown (ProgramVerify p t) s a v = 6 ≤ t → v ≡ s.P (p % s.size)
Shown EraseSetup s a v = Unit {0}
Shown (Erasing t) s a v = Unit {0}
Shown (EraseVerify p t) s a v = 6 ≤ t → v ≡ s.E (p % s.size)

abbrev pub code : Code → Meaning → ℕ
code Maker s = s.maker
code Device s = s.device

abbrev pub Signed : Mode → Meaning → Code → ℕ → Type 0
Signed Read s c v = Unit {0}
Signed Sign s c v = v ≡ code c s
Signed Idle s c v = Unit {0}
Signed ProgramSetup s c v = Unit {0}
Signed (Programming p d t) s c v = Unit {0}
Signed (ProgramVerify p t) s c v = Unit {0}
Signed EraseSetup s c v = Unit {0}
Signed (Erasing t) s c v = Unit {0}
Signed (EraseVerify p t) s c v = Unit {0}

-- Every reading is a byte.
abbrev pub Answers : Meaning → Cycle → Type 0
Answers s (write a b) = Unit {0}
Answers s (read a v) = (v < 256) × Shown s.register.mode s a v
Answers s (sign c v) = (v < 256) × Signed s.register.mode s c v
Answers s (wait w) = Unit {0}
Answers s (supply v) = Unit {0}

-- THE STEP

-- The cycle c may take a chip that is as s says to one that is as t says.
pub record Step (s : Meaning) (c : Cycle) (t : Meaning) : Type 0 where
  pub size : t.size ≡ s.size
  pub maker : t.maker ≡ s.maker
  pub device : t.device ≡ s.device
  pub zeroed : Bool
  pub told : Zeroed zeroed s
  pub register : t.register ≡ after s.size zeroed c s.register
  pub cells : (a : ℕ) → a < s.size → Moves (strike s.size c s.register.voltage s.register.mode) s t a
  pub answers : Answers s c
