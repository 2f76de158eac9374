-- What a reader answers, and where it then stands.
use Rattle.std.specs.Prelude.{◌≡◌, ℕ, ◌+◌, ◌*◌, ◌<◌, List, [], length, take, drop, Some, None, Ok, Err, Option, Result}
use Rattle.hextext.specs.Lines.{from_line, line, start}
use Rattle.ihex.specs.declared.fault.HexFault.{HexFault}
use Rattle.ihex.specs.declared.record.Record.{Record}
use Rattle.ihex.specs.declared.record.Record.TheVariants.{Data, End}
use Rattle.ihex.specs.Rules.{count, place, DataLine, EndLine, Broken}
use Rattle.ihex.specs.Faults.{fault}

-- the text has a line n
abbrev pub There : List ℕ → ℕ → Type 0
There text n = 0 < length (from_line text n)

-- the data of line n: its place, and its digits as a part of the text, past colon, count, place and type
pub record Shown (text : List ℕ) (n q : ℕ) (digits : List ℕ) : Type 0 where
  pub there : There text n
  pub formed : DataLine (line text n)
  pub place_is : q ≡ place (line text n)
  pub of_line : digits ≡ take (2 * count (line text n)) (drop 9 (line text n))
  pub of_text : digits ≡ take (2 * count (line text n)) (drop (start text n + 9) text)

-- the answer at line n, counted from 0
abbrev pub Next : List ℕ → ℕ → Result (Option Record) HexFault → Type 0
Next text n (Ok None) = from_line text n ≡ []
Next text n (Ok (Some (Data q pairs))) = Shown text n q pairs.digits.now
Next text n (Ok (Some End)) = There text n × EndLine (line text n)
Next text n (Err e) = There text n × Broken e.reason (line text n) × (e ≡ fault e.reason text n)

-- a record moves the reader on by its line; the end of the lines, and a refusal, leave it where it is
abbrev pub Moves : ℕ → Result (Option Record) HexFault → ℕ → Type 0
Moves n (Ok None) m = m ≡ n
Moves n (Ok (Some x)) m = m ≡ n + 1
Moves n (Err e) m = m ≡ n
