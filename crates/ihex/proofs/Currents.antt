-- From a line's own answer to the reader's.
use Rattle.std.proofs.Common.{◌≡◌, ℕ, ◌+◌, ◌-◌, ◌*◌, ◌<◌, ◌≤◌, List, length, take, drop, Some, Ok, Err, Result, sym, ap, ◌∙◌, subst, add-zero, add-one, arith, length-drop}
use Rattle.std.proofs.lemmas.List.{take_rest, drop-drop}
use Rattle.hextext.specs.Lines.{after_line, from_line, line, start}
use Rattle.hextext.proofs.Froms.{from_start, from_length, line_part, after_shorter}
use Rattle.ihex.specs.declared.fault.Reason.{Reason}
use Rattle.ihex.specs.declared.fault.Reason.TheVariants.{MissingColon, NotADigit, WrongLength, WrongSum, UnknownType, OutOfRange, OutOfOrder, MissingEnd, AfterEnd, TooLong}
use Rattle.ihex.specs.declared.fault.HexFault.{HexFault}
use Rattle.ihex.specs.declared.record.Record.{Record}
use Rattle.ihex.specs.declared.record.Record.TheVariants.{Data, End}
use Rattle.ihex.specs.Rules.{count, Broken, offset}
use Rattle.ihex.specs.Faults.{fault, fault_at}
use Rattle.ihex.specs.Reads.{There, Next}
use Rattle.ihex.specs.Steps.{LineRead}

-- the same line, named another way
pub same_line : (l k : List ℕ) (n m p q : ℕ) (r : Result Record HexFault) → l ≡ k → n ≡ m → p ≡ q → LineRead l n p r → LineRead k m q r
same_line l k n m p q r a b c h = subst (λ x. LineRead x m q r) a (subst (λ x. LineRead l x q r) b (subst (λ x. LineRead l n x r) c h))

module _ (text : List ℕ) (n p : ℕ) (at : p ≡ start text n) where
  -- what the reader cuts off the text
  pub left_is : take (length text - p) (drop p text) ≡ from_line text n
  left_is = take_rest text p ∙ ap (λ k. drop k text) at ∙ from_start text n

  named : (r : Reason) (m q : ℕ) → Broken r (line text n) → m ≡ n + 1 → q ≡ p + offset r (line text n) → fault_at r m q ≡ fault r text n
  named MissingColon m q b em eq = let z : q ≡ start text n = eq ∙ add-zero p ∙ at in cc
  named NotADigit m q b em eq = cc
  named WrongLength m q b em eq = let z : q ≡ start text n = eq ∙ add-zero p ∙ at in cc
  named WrongSum m q b em eq = let z : q ≡ start text n = eq ∙ add-zero p ∙ at in cc
  named UnknownType m q b em eq = let z : q ≡ start text n = eq ∙ add-zero p ∙ at in cc
  named OutOfRange m q b em eq = absurd b
  named OutOfOrder m q b em eq = absurd b
  named MissingEnd m q b em eq = absurd b
  named AfterEnd m q b em eq = absurd b
  named TooLong m q b em eq = absurd b

  pub read_err : (e : HexFault) → There text n → LineRead (line text n) (n + 1) p (Err e) → Next text n (Err e)
  read_err e there r = (there, r.0, named e.reason e.line e.position r.0 r.1 r.2)

  in_text : (i k : ℕ) → i + k ≤ length (line text n) → take k (drop i (line text n)) ≡ take k (drop (start text n + i) text)
  in_text i k fits = line_part (from_line text n) i k fits ∙ ap (λ l. take k (drop i l)) (sym (from_start text n)) ∙ ap (take k) (drop-drop i (start text n) text)

  pub read_ok : (x : Record) → There text n → LineRead (line text n) (n + 1) p (Ok x) → Next text n (Ok (Some x))
  read_ok (Data q digits) there r =
      let size = length-drop 1 (line text n) in
      let sized = r.0.formed.sized.1 in
      record {
        there = there;
        formed = r.0;
        place_is = r.1;
        of_line = r.2;
        of_text = r.2 ∙ in_text 9 (2 * count (line text n)) (omega arith);
      }
  read_ok End there r = (there, r)

  -- the line after it
  pub after_is : (rest : List ℕ) → rest ≡ after_line (from_line text n) → length text - length rest ≡ start text (n + 1)
  after_is rest e = ap (λ l. length text - length l) e ∙ ap (start text) (sym (add-one n))

  pub after_more : (rest : List ℕ) → There text n → rest ≡ after_line (from_line text n) → (start text n < length text - length rest) × (length rest ≤ length text)
  after_more rest there e =
      let size = ap length e in
      let less = after_shorter (from_line text n) there in
      let all = from_length text n in
      (omega arith, omega arith)
