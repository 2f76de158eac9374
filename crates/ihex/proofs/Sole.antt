-- One text has one answer, and leaves one image.
use Rattle.std.proofs.Common.{◌≡◌, ℕ, zero, suc, ◌+◌, ◌<◌, ◌≤◌, ◌⊎◌, List, [], ◌∷◌, length, get_or, take, Some, None, Ok, Err, Option, Result, sym, refl, ap, ◌∙◌, subst, inl, inr, ⊎_elim, le_of_suc-le-suc, not-suc-le-zero, arith}
use Rattle.std.proofs.lemmas.List.{ext_get_or}
use Rattle.std.proofs.lemmas.Bool.{cases_lt, cases_order}
use Rattle.hextext.specs.Lines.{from_line, line}
use Rattle.ihex.specs.declared.fault.Reason.{Reason}
use Rattle.ihex.specs.declared.fault.Reason.TheVariants.{MissingColon, NotADigit, WrongLength, WrongSum, UnknownType, OutOfRange, OutOfOrder, MissingEnd, AfterEnd, TooLong}
use Rattle.ihex.specs.declared.fault.HexFault.{HexFault}
use Rattle.ihex.specs.declared.survey.Span.{Span}
use Rattle.ihex.specs.declared.survey.Survey.{Survey}
use Rattle.ihex.specs.Rules.{count, place, Colon, Spelt, Sized, Summed, DataLine, EndLine}
use Rattle.ihex.specs.Faults.{fault}
use Rattle.ihex.specs.Reads.{There}
use Rattle.hextext.proofs.Splits.{splits}
use Rattle.ihex.specs.Files.{Lined, floor, Placed, Closes, Covers, Shows, Given, Spans, Surveyed, Stops, Accepted, Refused, Read, Filled}

-- all of these
Holds : List (Type 0) → Type 0
Holds [] = Unit {0}
Holds (P ∷ Ps) = P × Holds Ps

-- the first i of these, and not the next
Fails : ℕ → List (Type 0) → Type 0
Fails i L = Holds (take i L) × (get_or L i (Unit {0}) → ⊥)

holds_at : (L : List (Type 0)) (i j : ℕ) → i < j → Holds (take j L) → get_or L i (Unit {0})
unfolding Holds
holds_at [] i j h x = tt
holds_at (P ∷ Ps) zero zero h x = absurd (not-suc-le-zero h)
holds_at (P ∷ Ps) (suc i) zero h x = absurd (not-suc-le-zero h)
holds_at (P ∷ Ps) zero (suc j) h x = x.0
holds_at (P ∷ Ps) (suc i) (suc j) h x = holds_at Ps i j (le_of_suc-le-suc h) x.1

holds_any : (L : List (Type 0)) (i : ℕ) → Holds L → get_or L i (Unit {0})
unfolding Holds
holds_any [] i x = tt
holds_any (P ∷ Ps) zero x = x.0
holds_any (P ∷ Ps) (suc i) x = holds_any Ps i x.1

fails_once : (L : List (Type 0)) (i j : ℕ) → Fails i L → Fails j L → i ≡ j
unfolding Fails
fails_once L i j f g =
    ⊎_elim (λ e. e) (⊎_elim (λ less. absurd (f.1 (holds_at L i j less g.0))) (λ more. absurd (g.1 (holds_at L j i more f.0)))) (cases_order i j)

-- the order in which the rules are judged
rank : Reason → ℕ
rank MissingEnd = 0
rank MissingColon = 1
rank NotADigit = 2
rank WrongLength = 3
rank WrongSum = 4
rank UnknownType = 5
rank OutOfRange = 6
rank OutOfOrder = 7
rank AfterEnd = 8
rank TooLong = 9

ranked : ℕ → Reason
ranked i = get_or (MissingEnd ∷ (MissingColon ∷ (NotADigit ∷ (WrongLength ∷ (WrongSum ∷ (UnknownType ∷ (OutOfRange ∷ (OutOfOrder ∷ (AfterEnd ∷ []))))))))) i TooLong

ranked_rank : (r : Reason) → ranked (rank r) ≡ r
unfolding rank ranked
ranked_rank MissingColon = refl
ranked_rank NotADigit = refl
ranked_rank WrongLength = refl
ranked_rank WrongSum = refl
ranked_rank UnknownType = refl
ranked_rank OutOfRange = refl
ranked_rank OutOfOrder = refl
ranked_rank MissingEnd = refl
ranked_rank AfterEnd = refl
ranked_rank TooLong = refl

no_kind : {l : List ℕ} → DataLine l → EndLine l → ⊥
no_kind d e = omega (arith, d.typed, e.typed)

module _ (text : List ℕ) (size : ℕ) where
  rules : ℕ → List (Type 0)
  rules n =
      There text n
      ∷ (Colon (line text n)
      ∷ (Spelt (line text n)
      ∷ (Sized (line text n)
      ∷ (Summed (line text n)
      ∷ ((DataLine (line text n) ⊎ EndLine (line text n))
      ∷ ((DataLine (line text n) → place (line text n) + count (line text n) ≤ size)
      ∷ ((DataLine (line text n) → floor text n ≤ place (line text n))
      ∷ ((EndLine (line text n) → There text (suc n) → ⊥) ∷ []))))))))

  fails : (r : Reason) (n : ℕ) → Stops r text size n → Fails (rank r) (rules n)
  unfolding Fails Holds rank rules
  fails MissingEnd n s = (tt, λ there. omega (arith, ap length s))
  fails MissingColon n s = ((s.0, tt), s.1)
  fails NotADigit n s = ((s.0, (s.1.0, tt)), s.1.1)
  fails WrongLength n s = ((s.0, (s.1.0, (s.1.1, tt))), s.1.2)
  fails WrongSum n s = ((s.0, (s.1.0, (s.1.1, (s.1.2, tt)))), s.1.3)
  fails UnknownType n s = let f = s.1.0 in ((s.0, (f.colon, (f.spelt, (f.sized, (f.summed, tt))))), ⊎_elim s.1.1 s.1.2)
  fails OutOfRange n s = let f = s.1.formed in ((s.0, (f.colon, (f.spelt, (f.sized, (f.summed, (inl s.1, tt)))))), λ h. omega (arith, h s.1, s.2))
  fails OutOfOrder n s = let f = s.1.formed in ((s.0, (f.colon, (f.spelt, (f.sized, (f.summed, (inl s.1, ((λ _. s.2), tt))))))), λ h. omega (arith, h s.1, s.3))
  fails AfterEnd n s =
      let e = s.0.formed in
      let f = e.formed in
      ((s.0.there, (f.colon, (f.spelt, (f.sized, (f.summed, (inr e, ((λ d. absurd (no_kind d e)), ((λ d. absurd (no_kind d e)), tt)))))))), λ h. h e s.1)
  fails TooLong n s = absurd s

  same_reason : (r t : Reason) (n : ℕ) → Stops r text size n → Stops t text size n → r ≡ t
  same_reason r t n s u = sym (ranked_rank r) ∙ ap ranked (fails_once (rules n) (rank r) (rank t) (fails r n s) (fails t n u)) ∙ ranked_rank t

  -- a line that is placed keeps them all
  kept : (n : ℕ) → Placed text size n → Holds (rules n)
  unfolding Holds rules
  kept n p =
      let f = p.formed.formed in
      (p.there, (f.colon, (f.spelt, (f.sized, (f.summed, (inl p.formed, ((λ _. p.inside), ((λ _. p.upward), ((λ e. absurd (no_kind p.formed e)), tt)))))))))

  -- and so does the last line of an accepted text
  kept_last : (n : ℕ) → Closes text n → from_line text (suc n) ≡ [] → Holds (rules n)
  unfolding Holds rules
  kept_last n c last =
      let e = c.formed in
      let f = e.formed in
      (c.there, (f.colon, (f.spelt, (f.sized, (f.summed, (inr e, ((λ d. absurd (no_kind d e)), ((λ d. absurd (no_kind d e)), ((λ _ there. omega (arith, ap length last)), tt)))))))))

  -- whoever keeps all of them fails none
  fails_none : (r : Reason) (n : ℕ) → Stops r text size n → Holds (rules n) → ⊥
  unfolding Fails
  fails_none r n s h = (fails r n s).1 (holds_any (rules n) (rank r) h)

  -- two readings stop at the same line
  same_line : (n m : ℕ) → ((k : ℕ) → k < n → Placed text size k) → (Placed text size n → ⊥) → ((k : ℕ) → k < m → Placed text size k) → (Placed text size m → ⊥) → n ≡ m
  same_line n m bn hn bm hm = ⊎_elim (λ e. e) (⊎_elim (λ less. absurd (hn (bm n less))) (λ more. absurd (hm (bn m more)))) (cases_order n m)

  closed : (n : ℕ) → Closes text n → Placed text size n → ⊥
  closed n c p = no_kind p.formed c.formed

  stopped : (r : Reason) (n : ℕ) → Stops r text size n → Placed text size n → ⊥
  stopped r n s p = fails_none r n s (kept n p)

  pub same_fault : (e f : HexFault) → Refused text size e → Refused text size f → e ≡ f
  same_fault e f a b =
      let n = same_line a.lines b.lines a.before (stopped _ _ a.stops) b.before (stopped _ _ b.stops) in
      let r = same_reason e.reason f.reason b.lines (subst (Stops e.reason text size) n a.stops) b.stops in
      a.named ∙ ap (λ i. fault e.reason text i) n ∙ ap (λ q. fault q text b.lines) r ∙ sym b.named

  pub one_verdict : (s : Survey) (image : List ℕ) (e : HexFault) → Accepted text size s image → Refused text size e → ⊥
  one_verdict s image e a b =
      let n = same_line b.lines a.lines b.before (stopped _ _ b.stops) a.before (closed _ a.closes) in
      fails_none e.reason a.lines (subst (Stops e.reason text size) n b.stops) (kept_last a.lines a.closes a.last)

  covered : (n a : ℕ) → Given text n a ⊎ ((k : ℕ) → k < n → Covers text k a → ⊥)
  covered zero a = inr (λ k h. absurd (omega arith))
  covered (suc n) a =
      ⊎_elim (λ g. inl (g.0, omega (arith, g.1), g.2))
      (λ none. ⊎_elim
      (λ below. inr (older none (λ cv. omega (arith, cv.0))))
      (λ from. ⊎_elim (λ less. inl (n, omega arith, (from, less))) (λ past. inr (older none (λ cv. omega (arith, cv.1)))) (cases_lt a (place (line text n) + count (line text n))))
      (cases_lt a (place (line text n))))
      (covered n a)
    where
      older : ((k : ℕ) → k < n → Covers text k a → ⊥) → (Covers text n a → ⊥) → (k : ℕ) → k < suc n → Covers text k a → ⊥
      older none new k h cv = ⊎_elim (λ less. none k less cv) (λ same. let e : k ≡ n = omega arith in new (subst (λ i. Covers text i a) e cv)) (cases_lt k n)

  same_image : (n : ℕ) (a b : List ℕ) → length a ≡ length b → Shows text n a → Shows text n b → a ≡ b
  same_image n a b long sa sb =
      ext_get_or 0 a b long
      (λ i h. ⊎_elim (λ g. sa.given g.0 i g.1 g.2 ∙ sym (sb.given g.0 i g.1 g.2)) (λ none. sa.blank i h none ∙ sym (sb.blank i (omega arith) none)) (covered n i))

  same_span : (n : ℕ) (o p : Option Span) → Spans text n o → Spans text n p → o ≡ p
  same_span n None None a b = refl
  same_span n None (Some t) a b = absurd (a t.lowest b.0)
  same_span n (Some s) None a b = absurd (b s.lowest a.0)
  same_span n (Some s) (Some t) a b =
      let low : s.lowest ≡ t.lowest = omega (arith, (a.2 t.lowest b.0).0, (b.2 s.lowest a.0).0) in
      let high : s.highest ≡ t.highest = omega (arith, (a.2 t.highest b.1).1, (b.2 s.highest a.1).1) in
      ap (λ x. Some (record { lowest = x; highest = s.highest })) low ∙ ap (λ x. Some (record { lowest = t.lowest; highest = x })) high

  same_survey : (n : ℕ) (s t : Survey) → Surveyed text n s → Surveyed text n t → s ≡ t
  same_survey n s t a b =
      let r = a.records ∙ sym b.records in
      let c = a.bytes ∙ sym b.bytes in
      let o = same_span n s.span t.span a.span b.span in
      ap (λ x. record { records = x; bytes = s.bytes; span = s.span }) r
      ∙ ap (λ x. record { records = t.records; bytes = x; span = s.span }) c
      ∙ ap (λ x. record { records = t.records; bytes = t.bytes; span = x }) o

  pub same_acceptance : (s t : Survey) (a b : List ℕ) → Accepted text size s a → Accepted text size t b → (s ≡ t) × (a ≡ b)
  same_acceptance s t a b p q =
      let n = same_line p.lines q.lines p.before (closed _ p.closes) q.before (closed _ q.closes) in (
        same_survey q.lines s t (subst (λ i. Surveyed text i s) n p.surveyed) q.surveyed,
        same_image q.lines a b (p.long ∙ sym q.long) (subst (λ i. Shows text i a) n p.shows) q.shows,
      )

same_reading : (text image : List ℕ) (r t : Result Survey HexFault) (a b : List ℕ) → Read text image r a → Read text image t b → (r ≡ t) × (a ≡ b)
same_reading text image (Ok s) (Ok t) a b p q = let e = same_acceptance text (length image) s t a b p q in (ap Ok e.0, e.1)
same_reading text image (Ok s) (Err f) a b p q = absurd (one_verdict text (length image) s a f p q.0)
same_reading text image (Err e) (Ok t) a b p q = absurd (one_verdict text (length image) t b e q p.0)
same_reading text image (Err e) (Err f) a b p q = (ap Err (same_fault text (length image) e f p.0 q.0), p.1 ∙ sym q.1)

pub sole : (text image : List ℕ) (r t : Result Survey HexFault) (a b : List ℕ) → Filled text image r a → Filled text image t b → (r ≡ t) × (a ≡ b)
sole text image r t a b p q =
    ⊎_elim (λ long. both (p.long_text long) (q.long_text long))
    (λ fits_text. ⊎_elim (λ long. both (p.long_image long) (q.long_image long)) (λ fits_image. same_reading text image r t a b (p.read fits_text fits_image) (q.read fits_text fits_image)) (cases_lt 32768 (length image)))
    (cases_lt 1048576 (length text))
  where
    both : {e : Result Survey HexFault} → (r ≡ e) × (a ≡ image) → (t ≡ e) × (b ≡ image) → (r ≡ t) × (a ≡ b)
    both x y = (x.0 ∙ sym y.0, x.1 ∙ sym y.1)

pub lined : (text : List ℕ) → Lined text
lined text n = splits (from_line text n)
