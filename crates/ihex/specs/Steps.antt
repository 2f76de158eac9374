-- What the functions on the way to a record and to an image answer. No public contract speaks of these.
use Rattle.std.specs.Prelude.{◌≡◌, ℕ, ◌+◌, ◌-◌, ◌*◌, ◌/◌, ◌%◌, ◌<◌, ◌≤◌, ◌⊎◌, List, ◌∷◌, length, take, drop, Some, None, Ok, Err, Option, Result, slice_index}
use Rattle.std.specs.List.{prefix_len}
use Rattle.hextext.specs.Digits.{is_digit, Digits, bytes_of}
use Rattle.hextext.specs.Lines.{start}
use Rattle.ihex.specs.declared.fault.Reason.TheVariants.{NotADigit, WrongLength, OutOfRange, OutOfOrder}
use Rattle.ihex.specs.declared.fault.HexFault.{HexFault}
use Rattle.ihex.specs.declared.record.Header.{Header}
use Rattle.ihex.specs.declared.record.Record.{Record}
use Rattle.ihex.specs.declared.record.Record.TheVariants.{Data, End}
use Rattle.ihex.specs.declared.survey.Span.{Span}
use Rattle.ihex.specs.declared.survey.Survey.{Survey}
use Rattle.ihex.specs.Rules.{count, place, DataLine, EndLine, Broken, offset}
use Rattle.ihex.specs.Faults.{fault_at}
use Rattle.ihex.specs.Reads.{Next}

-- the first four bytes, and the digits after them
pub record Headed (digits : List ℕ) (header : Header) (rest : List ℕ) : Type 0 where
  pub bytes : (high : ℕ) × (low : ℕ) × (bytes_of digits ≡ header.count ∷ (high ∷ (low ∷ (header.kind ∷ bytes_of rest)))) × (header.place ≡ high * 256 + low)
  pub long : 8 ≤ length digits
  pub rest_is : rest ≡ drop 8 digits

-- the rule that digits break which are not pairs throughout
abbrev pub Unpaired : List ℕ → ℕ → ℕ → HexFault → Type 0
Unpaired digits n p e =
    ((Digits digits → ⊥) × (e ≡ fault_at NotADigit n (p + (1 + prefix_len is_digit digits)))) ⊎ (Digits digits × (length digits % 2 ≡ 1) × (e ≡ fault_at WrongLength n p))

-- what reading a line answers, where it is line n and starts at position p
abbrev pub LineRead : List ℕ → ℕ → ℕ → Result Record HexFault → Type 0
LineRead line n p (Ok (Data q pairs)) = DataLine line × (q ≡ place line) × (pairs.digits.now ≡ take (2 * count line) (drop 9 line))
LineRead line n p (Ok End) = EndLine line
LineRead line n p (Err e) = Broken e.reason line × (e.line ≡ n) × (e.position ≡ p + offset e.reason line)

-- what the reader finds at line n, with where the line after it starts
abbrev pub Current : List ℕ → ℕ → Result (Option (Record × ℕ)) HexFault → Type 0
Current text n (Ok None) = Next text n (Ok None)
Current text n (Ok (Some p)) = Next text n (Ok (Some p.0)) × (p.1 ≡ start text (n + 1)) × (start text n < p.1) × (p.1 ≤ length text)
Current text n (Err e) = Next text n (Err e)

-- the bytes that the digits write stand from `from` on, and every other place is as it was
pub record Put (image : List ℕ) (from : ℕ) (digits after : List ℕ) : Type 0 where
  pub here : (j : ℕ) → j < length digits / 2 → slice_index after (from + j) ≡ slice_index (bytes_of digits) j
  pub elsewhere : (a : ℕ) → (a < from) ⊎ (from + length digits / 2 ≤ a) → slice_index after a ≡ slice_index image a

-- the data of a line of this number and position, put into an image
abbrev pub PutIn : List ℕ → ℕ → ℕ → ℕ → ℕ → List ℕ → Result ℕ HexFault → List ℕ → Type 0
PutIn image floor n p from digits (Ok end) after =
    (end ≡ from + length digits / 2) × (end ≤ length image) × (floor ≤ from) × Put image from digits after
PutIn image floor n p from digits (Err e) after =
    ((e ≡ fault_at OutOfRange n p) × (length image < from + length digits / 2)) ⊎ ((e ≡ fault_at OutOfOrder n p) × (from + length digits / 2 ≤ length image) × (from < floor))

-- a survey that has grown by a record
abbrev pub lowest_of : Option Span → ℕ → ℕ
lowest_of (Some s) place = s.lowest
lowest_of None place = place

pub record Noted (s : Survey) (place count : ℕ) (t : Survey) : Type 0 where
  pub records : t.records ≡ s.records + 1
  pub bytes : t.bytes ≡ s.bytes + count
  pub empty : count ≡ 0 → t.span ≡ s.span
  pub some : 0 < count → t.span ≡ Some (record { lowest = lowest_of s.span place; highest = place + count - 1 })
