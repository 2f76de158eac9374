-- What each answer of the reader means for the text as a whole.
use Rattle.std.proofs.Common.{◌≡◌, ℕ, suc, ◌+◌, ◌<◌, ◌≤◌, List, length, Some, Ok, Err, Option, sym, refl, ap, ◌∙◌, subst, ⊎_elim, add-one, arith}
use Rattle.std.proofs.lemmas.List.{nil_from_length}
use Rattle.hextext.specs.Lines.{from_line, line, start}
use Rattle.hextext.proofs.Froms.{from_length, after_shorter}
use Rattle.ihex.specs.declared.fault.Reason.{Reason}
use Rattle.ihex.specs.declared.fault.Reason.TheVariants.{MissingColon, NotADigit, WrongLength, WrongSum, UnknownType, OutOfRange, OutOfOrder, MissingEnd, AfterEnd, TooLong}
use Rattle.ihex.specs.declared.fault.HexFault.{HexFault}
use Rattle.ihex.specs.declared.pairs.Pairs.{Pairs}
use Rattle.ihex.specs.declared.record.Record.{Record}
use Rattle.ihex.specs.declared.record.Record.TheVariants.{Data, End}
use Rattle.ihex.specs.declared.survey.Survey.{Survey}
use Rattle.ihex.specs.Rules.{Broken}
use Rattle.ihex.specs.Faults.{fault, fault_at}
use Rattle.ihex.specs.Reads.{There, Shown, Next, Moves}
use Rattle.ihex.specs.Steps.{PutIn}
use Rattle.ihex.specs.Files.{Closes, Stops, Refused, Accepted}
use Rattle.ihex.proofs.Laid.{Laid, half_shown}

-- the reader holds `held`, which is the text
module _ (held text : List ℕ) (n : ℕ) (o : Option Record) (is : held ≡ text) (answer : Next held n (Ok o)) where
  pub shown_of : (q : ℕ) (d : Pairs) → o ≡ Some (Data q d) → Shown text n q d.digits.now
  shown_of q d e = subst (λ t. Shown t n q d.digits.now) is (subst (λ x. Next held n (Ok x)) e answer)

  pub closes_of : o ≡ Some End → Closes text n
  closes_of e = let p = subst (λ t. Next t n (Ok (Some End))) is (subst (λ x. Next held n (Ok x)) e answer) in record { there = p.0; formed = p.1 }

pub moved_of : (n m : ℕ) (o : Option Record) (x : Record) → o ≡ Some x → Moves n (Ok o) m → m ≡ n + 1
moved_of n m o x e h = subst (λ y. Moves n (Ok y) m) e h

pub start_less : (text : List ℕ) (n : ℕ) → There text n → start text n < start text (n + 1)
start_less text n there =
    let less = after_shorter (from_line text n) there in
    let all = from_length text n in
    let e = ap (start text) (add-one n) in
    omega arith

stops_of : (r : Reason) (text : List ℕ) (size n : ℕ) → There text n → Broken r (line text n) → Stops r text size n
stops_of MissingColon text size n there b = (there, b)
stops_of NotADigit text size n there b = (there, b)
stops_of WrongLength text size n there b = (there, b)
stops_of WrongSum text size n there b = (there, b)
stops_of UnknownType text size n there b = (there, b)
stops_of OutOfRange text size n there b = absurd b
stops_of OutOfOrder text size n there b = absurd b
stops_of MissingEnd text size n there b = absurd b
stops_of AfterEnd text size n there b = absurd b
stops_of TooLong text size n there b = absurd b

module _ {text : List ℕ} {size n f : ℕ} {s : Survey} {image : List ℕ} (l : Laid text size n f s image) where
  pub refused_line : (held : List ℕ) (e : HexFault) → held ≡ text → Next held n (Err e) → Refused text size e
  refused_line held e is answer =
      let p = subst (λ t. Next t n (Err e)) is answer in
      record { lines = n; before = l.before; stops = stops_of e.reason text size n p.0 p.1; named = p.2 }

  -- a refusal that is made for a reason, where the line stands that shows it
  stopped : (r : Reason) (e : HexFault) → e ≡ fault r text n → Stops r text size n → Refused text size e
  stopped r e is stops =
      let why : e.reason ≡ r = ap (λ f. f.reason) is ∙ reason_of r in
      record {
        lines = n;
        before = l.before;
        stops = subst (λ q. Stops q text size n) (sym why) stops;
        named = is ∙ ap (λ q. fault q text n) (sym why);
      }
    where
      reason_of : (q : Reason) → (fault q text n).reason ≡ q
      reason_of MissingColon = refl
      reason_of NotADigit = refl
      reason_of WrongLength = refl
      reason_of WrongSum = refl
      reason_of UnknownType = refl
      reason_of OutOfRange = refl
      reason_of OutOfOrder = refl
      reason_of MissingEnd = refl
      reason_of AfterEnd = refl
      reason_of TooLong = refl

  pub refused_put : (q m p : ℕ) (d after : List ℕ) (e : HexFault) → Shown text n q d → m ≡ n + 1 → p ≡ start text n → PutIn image f m p q d (Err e) after → Refused text size e
  refused_put q m p d after e sh em at put =
      let c = half_shown text n q d sh in
      ⊎_elim
      (λ out. stopped OutOfRange e (out.0 ∙ named OutOfRange) (sh.there, sh.formed, omega (arith, out.1, l.long, c, sh.place_is)))
      (λ low.
      stopped OutOfOrder e (low.0 ∙ named OutOfOrder)
      (sh.there, sh.formed, omega (arith, low.1, l.long, c, sh.place_is), omega (arith, low.2, l.floor_is, sh.place_is)))
      put
    where
      named : (r : Reason) → fault_at r m p ≡ fault_at r (n + 1) (start text n)
      named r = ap (λ i. fault_at r i p) em ∙ ap (fault_at r (n + 1)) at

  pub refused_more : (m p : ℕ) (e : HexFault) → Closes text n → m ≡ n + 1 → p ≡ start text m → p < length text → e ≡ fault_at AfterEnd (m + 1) p → Refused text size e
  refused_more m p e closes em at less is =
      let line_is : m + 1 ≡ n + 2 = omega arith in
      let next = at ∙ ap (start text) (em ∙ add-one n) in
      stopped AfterEnd e (is ∙ ap (λ i. fault_at AfterEnd i p) line_is ∙ ap (fault_at AfterEnd (n + 2)) next) (closes, omega arith)

  pub accepted : (m p : ℕ) → Closes text n → m ≡ n + 1 → p ≡ start text m → length text ≤ p → Accepted text size s image
  accepted m p closes em at all =
      let next = at ∙ ap (start text) (em ∙ add-one n) in
      let size_is = from_length text (suc n) in
      record {
        lines = n;
        before = l.before;
        closes = closes;
        last = nil_from_length (from_line text (suc n)) (omega arith);
        long = l.long;
        shows = l.shows;
        surveyed = l.surveyed;
      }
