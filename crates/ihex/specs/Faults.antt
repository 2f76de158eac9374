-- Each refusal: its number, and the line and position that it names.
use Rattle.std.specs.Prelude.{ℕ, suc, ◌+◌, List}
use Rattle.hextext.specs.Lines.{line, start}
use Rattle.ihex.specs.declared.fault.Reason.{Reason}
use Rattle.ihex.specs.declared.fault.Reason.TheVariants.{MissingColon, NotADigit, WrongLength, WrongSum, UnknownType, OutOfRange, OutOfOrder, MissingEnd, AfterEnd, TooLong}
use Rattle.ihex.specs.declared.fault.HexFault.{HexFault}
use Rattle.ihex.specs.Rules.{offset}

abbrev pub fault_at : Reason → ℕ → ℕ → HexFault
fault_at r n p = record { reason = r; line = n; position = p }

abbrev pub refusal_number : Reason → ℕ
refusal_number MissingColon = 30
refusal_number NotADigit = 31
refusal_number WrongLength = 32
refusal_number WrongSum = 33
refusal_number UnknownType = 34
refusal_number OutOfRange = 35
refusal_number OutOfOrder = 36
refusal_number MissingEnd = 37
refusal_number AfterEnd = 38
refusal_number TooLong = 39

-- The refusal of a text for a reason that shows at its line n, counted from 0. It names that line, counted from 1, and
-- where the line starts, or the byte in it that is no digit; past the end line, the line after that; and of what is too
-- long, neither.
abbrev pub fault : Reason → List ℕ → ℕ → HexFault
fault MissingColon text n = fault_at MissingColon (n + 1) (start text n)
fault NotADigit text n = fault_at NotADigit (n + 1) (start text n + offset NotADigit (line text n))
fault WrongLength text n = fault_at WrongLength (n + 1) (start text n)
fault WrongSum text n = fault_at WrongSum (n + 1) (start text n)
fault UnknownType text n = fault_at UnknownType (n + 1) (start text n)
fault OutOfRange text n = fault_at OutOfRange (n + 1) (start text n)
fault OutOfOrder text n = fault_at OutOfOrder (n + 1) (start text n)
fault MissingEnd text n = fault_at MissingEnd (n + 1) (start text n)
fault AfterEnd text n = fault_at AfterEnd (n + 2) (start text (suc n))
fault TooLong text n = fault_at TooLong 0 0
