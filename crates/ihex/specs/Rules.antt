-- One line of Intel HEX: what it holds, and the rules that it keeps or breaks, in the order in which they are judged.
use Rattle.std.specs.Prelude.{◌≡◌, ℕ, ◌+◌, ◌*◌, ◌%◌, ◌≤◌, List, length, take, drop, sum, slice_index}
use Rattle.std.specs.List.{prefix_len}
use Rattle.hextext.specs.Digits.{is_digit, Digits, bytes_of}
use Rattle.ihex.specs.declared.fault.Reason.{Reason}
use Rattle.ihex.specs.declared.fault.Reason.TheVariants.{MissingColon, NotADigit, WrongLength, WrongSum, UnknownType, OutOfRange, OutOfOrder, MissingEnd, AfterEnd, TooLong}

-- the bytes that a line's digits write, which follow its colon
abbrev pub bytes : List ℕ → List ℕ
bytes line = bytes_of (drop 1 line)

-- the first byte is the count of data bytes, then two bytes of place, the type, and the data
abbrev pub count : List ℕ → ℕ
count line = slice_index (bytes line) 0

abbrev pub place : List ℕ → ℕ
place line = slice_index (bytes line) 1 * 256 + slice_index (bytes line) 2

abbrev pub kind : List ℕ → ℕ
kind line = slice_index (bytes line) 3

abbrev pub payload : List ℕ → List ℕ
payload line = take (count line) (drop 4 (bytes line))

-- the line begins with a colon
abbrev pub Colon : List ℕ → Type 0
Colon line = slice_index line 0 ≡ 58

-- only digits follow it
abbrev pub Spelt : List ℕ → Type 0
Spelt line = Digits (drop 1 line)

-- at least ten of them, and two more for each byte that is counted
abbrev pub Sized : List ℕ → Type 0
Sized line = (10 ≤ length (drop 1 line)) × (length (drop 1 line) ≡ 10 + 2 * count line)

-- all bytes, with the last, add up to 0 modulo 256
abbrev pub Summed : List ℕ → Type 0
Summed line = sum (bytes line) % 256 ≡ 0

pub record Formed (line : List ℕ) : Type 0 where
  pub colon : Colon line
  pub spelt : Spelt line
  pub sized : Sized line
  pub summed : Summed line

-- type 0 is data
pub record DataLine (line : List ℕ) : Type 0 where
  pub formed : Formed line
  pub typed : kind line ≡ 0

-- type 1 is the end, and holds no data
pub record EndLine (line : List ℕ) : Type 0 where
  pub formed : Formed line
  pub typed : kind line ≡ 1
  pub empty : count line ≡ 0

-- the line breaks the rule that a reason names, and keeps those that come before it
abbrev pub Broken : Reason → List ℕ → Type 0
Broken MissingColon line = Colon line → ⊥
Broken NotADigit line = Colon line × (Spelt line → ⊥)
Broken WrongLength line = Colon line × Spelt line × (Sized line → ⊥)
Broken WrongSum line = Colon line × Spelt line × Sized line × (Summed line → ⊥)
Broken UnknownType line = Formed line × (DataLine line → ⊥) × (EndLine line → ⊥)
Broken OutOfRange line = ⊥
Broken OutOfOrder line = ⊥
Broken MissingEnd line = ⊥
Broken AfterEnd line = ⊥
Broken TooLong line = ⊥

-- where in the line a reason points: at the first byte that is no digit, else at the line's start
abbrev pub offset : Reason → List ℕ → ℕ
offset NotADigit line = 1 + prefix_len is_digit (drop 1 line)
offset MissingColon line = 0
offset WrongLength line = 0
offset WrongSum line = 0
offset UnknownType line = 0
offset OutOfRange line = 0
offset OutOfOrder line = 0
offset MissingEnd line = 0
offset AfterEnd line = 0
offset TooLong line = 0
