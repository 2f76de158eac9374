-- What a slow chip does, exactly.
use Rattle.std.specs.Prelude.{◌≡◌, ℕ, ◌%◌, ◌<◌, Bool, true, false, cond, List, map, length, get_or, Some, None, Option, nat_lt, slice_index_or, slice_set}
use Rattle.chip.specs.Rules.{Cycle, write, read, sign, wait, supply, Meaning, Register, Strike, none, program, erase, pulse, strike, after}
use Rattle.chip.specs.declared.state.Code.{Code}
use Rattle.chip.specs.declared.state.Code.TheVariants.{Maker, Device}
use Rattle.chip.specs.declared.state.Mode.{Mode}
use Rattle.chip.specs.declared.state.Mode.TheVariants.{Read, Sign, Idle, ProgramSetup, Programming, ProgramVerify, EraseSetup, Erasing, EraseVerify}
use Rattle.places.specs.Cells.{Cell, beyond, cells, programmed, erased, zeroed}
use Rattle.places.specs.Lengths.{fits}
use Rattle.socket.specs.Registers.{kept, pulse_ended}
use Rattle.socket.specs.Sockets.{vacant}
use Rattle.places.specs.declared.place.Place.{Place}
use Rattle.sim.specs.declared.slow.TableChip.{TableChip}

abbrev pub Works : List Cell → Option ℕ → Type 0
Works cs (Some n) = (fits (length cs) ≡ true) × (n ≡ length cs) × (0 < n)
Works cs None = fits (length cs) ≡ false

pub record State : Type 0 where
  pub cells : List Cell
  pub maker : ℕ
  pub device : ℕ
  pub register : Register

-- What a chip over a table holds, the places of the table given.
abbrev pub state : {T : Type 0} → (T → List Place) → TableChip T → State
state places c = record { cells = cells (places c.table); maker = c.signature.maker; device = c.signature.device; register = kept c.register }

-- A chip with the table's places, or else an empty socket.
abbrev pub meant : State → Meaning
meant s = cond (fits (length s.cells))
    (record {
      size = length s.cells;
      maker = s.maker;
      device = s.device;
      E = λ a. (get_or s.cells a beyond).E;
      R = λ a. (get_or s.cells a beyond).R;
      P = λ a. (get_or s.cells a beyond).P;
      register = s.register;
    })
    (vacant s.register)

-- CYCLES

abbrev pub struck : Strike → List Cell → List Cell
struck none cs = cs
struck (program p d) cs = slice_set cs p (programmed d (slice_index_or cs p beyond))
struck erase cs = map erased cs

-- The size, the strikes and the test for zero of a chip, or of an empty socket, which nothing moves.
abbrev pub size_of : List Cell → ℕ
size_of cs = cond (fits (length cs)) (length cs) 32768

abbrev pub hit : Strike → List Cell → List Cell
hit f cs = cond (fits (length cs)) (struck f cs) cs

abbrev pub all_zero : List Cell → Bool
all_zero cs = cond (fits (length cs)) (zeroed cs) false

abbrev pub next : Cycle → State → State
next c s = record {
  cells = hit (strike (size_of s.cells) c s.register.voltage s.register.mode) s.cells;
  maker = s.maker;
  device = s.device;
  register = after (size_of s.cells) (all_zero s.cells) c s.register;
}

-- the first half of a write at high voltage, or of setting the voltage: an open pulse ends
abbrev pub pulsed : State → State
pulsed s = record {
  cells = hit (pulse (size_of s.cells) s.register.mode) s.cells;
  maker = s.maker;
  device = s.device;
  register = pulse_ended (size_of s.cells) (all_zero s.cells) s.register;
}

-- READINGS: what the rules leave free is FFh.

abbrev pub shows : Mode → List Cell → ℕ → ℕ
shows Read cs a = (get_or cs (a % length cs) beyond).R
shows Sign cs a = 0xFF
shows Idle cs a = 0xFF
shows ProgramSetup cs a = 0xFF
shows (Programming p d t) cs a = 0xFF
shows (ProgramVerify p t) cs a = cond (nat_lt t 6) 0xFF (get_or cs (p % length cs) beyond).P
shows EraseSetup cs a = 0xFF
shows (Erasing t) cs a = 0xFF
shows (EraseVerify p t) cs a = cond (nat_lt t 6) 0xFF (get_or cs (p % length cs) beyond).E

abbrev pub reading : State → ℕ → ℕ
reading s a = cond (fits (length s.cells)) (shows s.register.mode s.cells a) 0xFF

abbrev pub signs : Mode → ℕ → ℕ
signs Read v = 0xFF
signs Sign v = v
signs Idle v = 0xFF
signs ProgramSetup v = 0xFF
signs (Programming p d t) v = 0xFF
signs (ProgramVerify p t) v = 0xFF
signs EraseSetup v = 0xFF
signs (Erasing t) v = 0xFF
signs (EraseVerify p t) v = 0xFF

abbrev pub code_of : Code → State → ℕ
code_of Maker s = s.maker
code_of Device s = s.device

abbrev pub signature : State → Code → ℕ
signature s c = cond (fits (length s.cells)) (signs s.register.mode (code_of c s)) 0xFF

abbrev pub Says : State → Cycle → Type 0
Says s (write a b) = Unit {0}
Says s (read a v) = v ≡ reading s a
Says s (sign c v) = (v ≡ signature s c) × (v < 256)
Says s (wait w) = Unit {0}
Says s (supply v) = Unit {0}
