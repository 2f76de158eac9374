-- A socket with no chip in it.
use Rattle.std.specs.Prelude.{◌≡◌, false}
use Rattle.chip.specs.Rules.{Cycle, write, read, sign, wait, supply, Meaning, Register, after}

-- It is to the rules a chip of 32,768 places at FFh that no pulse moves.
abbrev pub vacant : Register → Meaning
vacant r = record { size = 32768; maker = 0xFF; device = 0xFF; E = λ a. 0xFF; R = λ a. 0xFF; P = λ a. 0xFF; register = r }

-- Every reading is FFh.
abbrev pub Floats : Cycle → Type 0
Floats (write a b) = Unit {0}
Floats (read a v) = v ≡ 0xFF
Floats (sign c v) = v ≡ 0xFF
Floats (wait w) = Unit {0}
Floats (supply v) = Unit {0}

-- It is never wholly at zero.
abbrev pub vacant_after : Cycle → Register → Register
vacant_after c r = after 32768 false c r
