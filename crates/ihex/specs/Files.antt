-- A whole text: when it is accepted, what the image then shows, and which refusal is the text's. These are the laws that
-- the contract of `fill` states. Lines are counted from 0 here.
use Rattle.std.specs.Prelude.{◌≡◌, ℕ, zero, suc, ◌+◌, ◌-◌, ◌<◌, ◌≤◌, List, [], length, replicate, Some, None, Ok, Err, Option, Result, slice_index}
use Rattle.hextext.specs.Lines.{from_line, line, Split}
use Rattle.ihex.specs.declared.fault.Reason.{Reason}
use Rattle.ihex.specs.declared.fault.Reason.TheVariants.{MissingColon, NotADigit, WrongLength, WrongSum, UnknownType, OutOfRange, OutOfOrder, MissingEnd, AfterEnd, TooLong}
use Rattle.ihex.specs.declared.fault.HexFault.{HexFault}
use Rattle.ihex.specs.declared.survey.Span.{Span}
use Rattle.ihex.specs.declared.survey.Survey.{Survey}
use Rattle.ihex.specs.Rules.{count, place, payload, DataLine, EndLine, Broken}
use Rattle.ihex.specs.Faults.{fault, refusal_number}
use Rattle.ihex.specs.Reads.{There}

-- where the data of the line before line n ended
abbrev pub floor : List ℕ → ℕ → ℕ
floor text zero = 0
floor text (suc k) = place (line text k) + count (line text k)

-- line k is a well-formed data line, inside the image, and not below where the one before ended
pub record Placed (text : List ℕ) (size k : ℕ) : Type 0 where
  pub there : There text k
  pub formed : DataLine (line text k)
  pub inside : place (line text k) + count (line text k) ≤ size
  pub upward : floor text k ≤ place (line text k)

-- line k is a well-formed end line
pub record Closes (text : List ℕ) (k : ℕ) : Type 0 where
  pub there : There text k
  pub formed : EndLine (line text k)

-- line k has a byte for place a
abbrev pub Covers : List ℕ → ℕ → ℕ → Type 0
Covers text k a = (place (line text k) ≤ a) × (a < place (line text k) + count (line text k))

-- the image shows at each place the byte of the one line of the first n that covers it, and FFh where none does
pub record Shows (text : List ℕ) (n : ℕ) (image : List ℕ) : Type 0 where
  pub given : (k a : ℕ) → k < n → Covers text k a → slice_index image a ≡ slice_index (payload (line text k)) (a - place (line text k))
  pub alone : (j k a : ℕ) → j < n → k < n → Covers text j a → Covers text k a → j ≡ k
  pub blank : (a : ℕ) → a < length image → ((k : ℕ) → k < n → Covers text k a → ⊥) → slice_index image a ≡ 255

-- some line of the first n has a byte for place a
abbrev pub Given : List ℕ → ℕ → ℕ → Type 0
Given text n a = (k : ℕ) × (k < n) × Covers text k a

-- how many bytes the first n lines hold
abbrev pub total : List ℕ → ℕ → ℕ
total text zero = 0
total text (suc k) = total text k + count (line text k)

-- the least and the greatest place that is given
abbrev pub Spans : List ℕ → ℕ → Option Span → Type 0
Spans text n None = (a : ℕ) → Given text n a → ⊥
Spans text n (Some s) = Given text n s.lowest × Given text n s.highest × ((a : ℕ) → Given text n a → (s.lowest ≤ a) × (a ≤ s.highest))

pub record Surveyed (text : List ℕ) (n : ℕ) (s : Survey) : Type 0 where
  pub records : s.records ≡ n
  pub bytes : s.bytes ≡ total text n
  pub span : Spans text n s.span

-- An accepted text: data lines, an end line, and nothing after it.
pub record Accepted (text : List ℕ) (size : ℕ) (s : Survey) (image : List ℕ) : Type 0 where
  pub lines : ℕ
  pub before : (k : ℕ) → k < lines → Placed text size k
  pub closes : Closes text lines
  pub last : from_line text (suc lines) ≡ []
  pub long : length image ≡ size
  pub shows : Shows text lines image
  pub surveyed : Surveyed text lines s

-- Line n breaks the rule that a reason names, and none that is judged before it. 37 is for a text with no line n, and 38
-- for one that goes on past an end line.
abbrev pub Stops : Reason → List ℕ → ℕ → ℕ → Type 0
Stops MissingColon text size n = There text n × Broken MissingColon (line text n)
Stops NotADigit text size n = There text n × Broken NotADigit (line text n)
Stops WrongLength text size n = There text n × Broken WrongLength (line text n)
Stops WrongSum text size n = There text n × Broken WrongSum (line text n)
Stops UnknownType text size n = There text n × Broken UnknownType (line text n)
Stops OutOfRange text size n = There text n × DataLine (line text n) × (size < place (line text n) + count (line text n))
Stops OutOfOrder text size n = There text n × DataLine (line text n) × (place (line text n) + count (line text n) ≤ size) × (place (line text n) < floor text n)
Stops MissingEnd text size n = from_line text n ≡ []
Stops AfterEnd text size n = Closes text n × There text (suc n)
Stops TooLong text size n = ⊥

-- A refused text: data lines, and then the line at fault.
pub record Refused (text : List ℕ) (size : ℕ) (e : HexFault) : Type 0 where
  pub lines : ℕ
  pub before : (k : ℕ) → k < lines → Placed text size k
  pub stops : Stops e.reason text size lines
  pub named : e ≡ fault e.reason text lines

-- What reading a text does to an image. The refusal of what is too long leaves it untouched, any other leaves it FFh.
abbrev pub Read : List ℕ → List ℕ → Result Survey HexFault → List ℕ → Type 0
Read text image (Ok s) after = Accepted text (length image) s after
Read text image (Err e) after = Refused text (length image) e × (after ≡ replicate (length image) 255)

pub record Filled (text image : List ℕ) (r : Result Survey HexFault) (after : List ℕ) : Type 0 where
  pub long_text : 1048576 < length text → (r ≡ Err (fault TooLong text 0)) × (after ≡ image)
  pub long_image : 32768 < length image → (r ≡ Err (fault TooLong text 0)) × (after ≡ image)
  pub read : length text ≤ 1048576 → length image ≤ 32768 → Read text image r after

-- 0 for an accepted text, and the number of a refusal
abbrev pub answer_number : Result Survey HexFault → ℕ
answer_number (Ok s) = 0
answer_number (Err e) = refusal_number e.reason

-- the same, where only the number is told
pub record FilledByNumber (text image : List ℕ) (number : ℕ) (after : List ℕ) : Type 0 where
  pub answer : (r : Result Survey HexFault) × Filled text image r after × (number ≡ answer_number r)

-- no two answers, and no two images, are right for one text and one image
abbrev pub Sole : List ℕ → List ℕ → Type 0
Sole text image = (r t : Result Survey HexFault) (a b : List ℕ) → Filled text image r a → Filled text image t b → (r ≡ t) × (a ≡ b)

-- each line is what stands before LF, CR LF or the text's end, and the next line follows that
abbrev pub Lined : List ℕ → Type 0
Lined text = (n : ℕ) → Split (from_line text n) (line text n) (from_line text (suc n))
