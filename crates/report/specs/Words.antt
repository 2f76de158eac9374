-- What is said of a text.
use Rattle.std.specs.Prelude.{ℕ, ◌+◌, ◌/◌, ◌%◌, cond, List, [], ◌∷◌, ◌++◌, Some, None, Ok, Err, codes, decimal, Option, Result, nat_lt}
use Rattle.ihex.specs.Faults.{refusal_number}
use Rattle.ihex.specs.Sentences.{sentence_of}
use Rattle.ihex.specs.declared.fault.HexFault.{HexFault}
use Rattle.ihex.specs.declared.survey.Span.{Span}
use Rattle.ihex.specs.declared.survey.Survey.{Survey}

-- a fact on a line of its own: a label, a colon and a space, and its value
abbrev pub fact : List ℕ → List ℕ → List ℕ → List ℕ
fact label value more = (label ++ codes ": ") ++ (value ++ (10 ∷ more))

abbrev pub refusal_lines : ℕ → ℕ → ℕ → List ℕ → List ℕ
refusal_lines number line position wrong =
    fact (codes "verdict") (codes "refused")
    (fact (codes "number") (decimal number) (fact (codes "line") (decimal line) (fact (codes "position") (decimal position) (fact (codes "reason") wrong []))))

abbrev pub refusal_text : HexFault → List ℕ
refusal_text e = refusal_lines (refusal_number e.reason) e.line e.position (sentence_of e.reason)

-- the digit of a value below 16, of upper case
abbrev pub hex_digit : ℕ → ℕ
hex_digit v = cond (nat_lt v 10) (48 + v) (55 + v)

abbrev pub four_digits : ℕ → List ℕ
four_digits p = hex_digit (p / 4096) ∷ (hex_digit (p / 256 % 16) ∷ (hex_digit (p / 16 % 16) ∷ (hex_digit (p % 16) ∷ [])))

abbrev pub acceptance_lines : ℕ → ℕ → List ℕ → List ℕ → List ℕ
acceptance_lines records bytes lowest highest =
    fact (codes "verdict") (codes "accepted")
    (fact (codes "records") (decimal records) (fact (codes "bytes") (decimal bytes) (fact (codes "lowest") lowest (fact (codes "highest") highest []))))

-- the lowest and the highest place, or that there is none
abbrev pub acceptance_of : ℕ → ℕ → Option Span → List ℕ
acceptance_of records bytes None = acceptance_lines records bytes (codes "none") (codes "none")
acceptance_of records bytes (Some s) = acceptance_lines records bytes (four_digits s.lowest) (four_digits s.highest)

abbrev pub acceptance_text : Survey → List ℕ
acceptance_text s = acceptance_of s.records s.bytes s.span

abbrev pub report_text : Result Survey HexFault → List ℕ
report_text (Ok s) = acceptance_text s
report_text (Err e) = refusal_text e
