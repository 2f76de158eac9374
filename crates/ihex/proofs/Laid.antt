-- The lines that are read so far, and the image that shows them.
use Rattle.std.proofs.Common.{◌≡◌, ℕ, zero, suc, ◌+◌, ◌-◌, ◌*◌, ◌/◌, ◌<◌, ◌≤◌, ◌⊎◌, List, length, get_or, take, drop, Some, None, Ok, Option, sym, ap, ◌∙◌, subst, inl, inr, ⊎_elim, add-one, arith, length-drop}
use Rattle.std.proofs.lemmas.List.{drop-drop, length-take-le}
use Rattle.std.proofs.lemmas.Bool.{cases_lt, cases_order}
use Rattle.hextext.specs.Digits.{bytes_of}
use Rattle.hextext.specs.Lines.{line}
use Rattle.hextext.proofs.Pairs.{bytes_drop, bytes_take}
use Rattle.ihex.specs.declared.survey.Span.{Span}
use Rattle.ihex.specs.declared.survey.Survey.{Survey}
use Rattle.ihex.specs.Rules.{count, place, payload}
use Rattle.ihex.specs.Reads.{Shown}
use Rattle.ihex.specs.Steps.{lowest_of, Noted, PutIn}
use Rattle.ihex.specs.Files.{floor, Placed, Covers, Shows, Given, total, Spans, Surveyed}

pub record Laid (text : List ℕ) (size n f : ℕ) (s : Survey) (image : List ℕ) : Type 0 where
  pub before : (k : ℕ) → k < n → Placed text size k
  pub floor_is : f ≡ floor text n
  pub long : length image ≡ size
  pub shows : Shows text n image
  pub surveyed : Surveyed text n s

module _ (text : List ℕ) (size : ℕ) where
  -- no line reaches past where the last one ended
  pub below : (n : ℕ) → ((k : ℕ) → k < n → Placed text size k) → (k : ℕ) → k < n → place (line text k) + count (line text k) ≤ floor text n
  below zero b k h = absurd (omega arith)
  below (suc m) b k h =
      ⊎_elim
      (λ less. let ih = below m (λ i l. b i (omega arith)) k less in let up = (b m (omega arith)).upward in omega arith)
      (λ same. let e : k ≡ m = omega arith in omega (arith, ap (λ i. place (line text i) + count (line text i)) e))
      (cases_lt k m)

  pub total_below : (n : ℕ) → ((k : ℕ) → k < n → Placed text size k) → total text n ≤ floor text n
  total_below zero b = omega arith
  total_below (suc m) b = let ih = total_below m (λ i l. b i (omega arith)) in let up = (b m (omega arith)).upward in omega arith

  apart : (n : ℕ) → ((k : ℕ) → k < n → Placed text size k) → (j k a : ℕ) → k < n → j < k → Covers text j a → Covers text k a → ⊥
  apart n b j k a hk less cj ck =
      let end = below k (λ i l. b i (omega arith)) j less in
      let up = (b k hk).upward in
      omega (arith, cj.1, ck.0)

  alone : (n : ℕ) → ((k : ℕ) → k < n → Placed text size k) → (j k a : ℕ) → j < n → k < n → Covers text j a → Covers text k a → j ≡ k
  alone n b j k a hj hk cj ck =
      ⊎_elim (λ e. e) (⊎_elim (λ less. absurd (apart n b j k a hk less cj ck)) (λ more. absurd (apart n b k j a hj more ck cj))) (cases_order j k)

-- the data of line n
module _ (text : List ℕ) (n q : ℕ) (d : List ℕ) (sh : Shown text n q d) where
  fits : 9 + 2 * count (line text n) ≤ length (line text n)
  fits = let size = length-drop 1 (line text n) in let sized = sh.formed.formed.sized.1 in omega arith

  pub length_shown : length d ≡ 2 * count (line text n)
  length_shown =
      let size = length-drop 9 (line text n) in
      ap length sh.of_line ∙ length-take-le (2 * count (line text n)) (drop 9 (line text n)) (omega (arith, fits))

  pub half_shown : length d / 2 ≡ count (line text n)
  half_shown = omega (arith, length_shown)

  bytes_shown : bytes_of d ≡ payload (line text n)
  bytes_shown =
      ap bytes_of sh.of_line
      ∙ bytes_take (count (line text n)) (drop 9 (line text n))
      ∙ ap (λ l. take (count (line text n)) (bytes_of l)) (sym (drop-drop 8 1 (line text n)))
      ∙ ap (take (count (line text n))) (bytes_drop 4 (drop 1 (line text n)))

-- one data line more
module _ {text : List ℕ} {size n f q end : ℕ} {s t : Survey} {image after d : List ℕ} (l : Laid text size n f s image) (sh : Shown text n q d) (p : PutIn image f 0 0 q d (Ok end) after) (same : length after ≡ length image) (noted : Noted s q (length d / 2) t) where
  c_is : length d / 2 ≡ count (line text n)
  c_is = half_shown text n q d sh

  placed : (k : ℕ) → k < suc n → Placed text size k
  placed k h = ⊎_elim (λ less. l.before k less) (λ more. let e : n ≡ k = omega arith in subst (Placed text size) e this) (cases_lt k n)
    where
      this : Placed text size n
      this = record {
        there = sh.there;
        formed = sh.formed;
        inside = omega (arith, c_is, p.0, p.1, l.long, sh.place_is);
        upward = omega (arith, p.2, l.floor_is, sh.place_is);
      }

  -- what lies before is below the new line
  low : (k a : ℕ) → k < n → Covers text k a → a < q
  low k a h cv = omega (arith, cv.1, below text size n l.before k h, l.floor_is, p.2)

  old_or_new : (k a : ℕ) → k < suc n → Covers text k a → ((k < n) × (a < q)) ⊎ ((k ≡ n) × (q ≤ a) × (a < q + count (line text n)))
  old_or_new k a h cv =
      ⊎_elim (λ less. inl (less, low k a less cv))
      (λ more. let e : k ≡ n = omega arith in let cn = subst (λ i. Covers text i a) e cv in inr (e, omega (arith, cn.0, sh.place_is), omega (arith, cn.1, sh.place_is)))
      (cases_lt k n)

  here : (a : ℕ) → q ≤ a → a < q + count (line text n) → get_or after a 0 ≡ get_or (payload (line text n)) (a - place (line text n)) 0
  here a ge lt =
      let j : q + (a - q) ≡ a = omega arith in
      let i : a - q ≡ a - place (line text n) = omega (arith, sh.place_is) in
      ap (λ x. get_or after x 0) (sym j)
      ∙ p.3.here (a - q) (omega (arith, c_is))
      ∙ ap (λ x. get_or x (a - q) 0) (bytes_shown text n q d sh)
      ∙ ap (λ x. get_or (payload (line text n)) x 0) i

  shown : Shows text (suc n) after
  shown = record {
    given = λ k a h cv.
        ⊎_elim (λ old. p.3.elsewhere a (inl old.1) ∙ l.shows.given k a old.0 cv)
        (λ new. here a new.1 new.2 ∙ ap (λ i. get_or (payload (line text i)) (a - place (line text i)) 0) (sym new.0))
        (old_or_new k a h cv);
    alone = alone text size (suc n) placed;
    blank = λ a h none.
        p.3.elsewhere a (outside a (none n (omega arith)))
        ∙ l.shows.blank a (omega (arith, same)) (λ k hk cv. none k (omega arith) cv);
  }
    where
      outside : (a : ℕ) → (Covers text n a → ⊥) → (a < q) ⊎ (q + length d / 2 ≤ a)
      outside a none =
          ⊎_elim (λ less. inl less)
          (λ ge. ⊎_elim (λ lt. absurd (none (omega (arith, sh.place_is), omega (arith, sh.place_is, c_is)))) (λ past. inr past) (cases_lt a (q + length d / 2)))
          (cases_lt a q)

  more : (a : ℕ) → Given text n a → Given text (suc n) a
  more a g = (g.0, omega (arith, g.1), g.2)

  newest : (a : ℕ) → q ≤ a → a < q + count (line text n) → Given text (suc n) a
  newest a ge lt = (n, omega arith, (omega (arith, sh.place_is), omega (arith, sh.place_is)))

  spans_same : count (line text n) ≡ 0 → (o : Option Span) → Spans text n o → Spans text (suc n) o
  spans_same z None sp = λ a g. ⊎_elim (λ old. sp a (g.0, old.0, g.2)) (λ new. omega (arith, new.1, new.2)) (old_or_new g.0 a g.1 g.2)
  spans_same z (Some w) sp =
      (more _ sp.0, more _ sp.1, λ a g. ⊎_elim (λ old. sp.2 a (g.0, old.0, g.2)) (λ new. absurd (omega (arith, new.1, new.2))) (old_or_new g.0 a g.1 g.2))

  spans_more : 0 < count (line text n) → (o : Option Span) → Spans text n o → Spans text (suc n) (Some (record { lowest = lowest_of o q; highest = q + length d / 2 - 1 }))
  spans_more some None sp = (
    newest q (omega arith) (omega arith),
    newest (q + length d / 2 - 1) (omega (arith, c_is)) (omega (arith, c_is)),
    λ a g. ⊎_elim (λ old. absurd (sp a (g.0, old.0, g.2))) (λ new. (new.1, omega (arith, new.2, c_is))) (old_or_new g.0 a g.1 g.2),
  )
  spans_more some (Some w) sp =
      let least = low sp.0.0 w.lowest sp.0.1 sp.0.2 in (
        more _ sp.0,
        newest (q + length d / 2 - 1) (omega (arith, c_is)) (omega (arith, c_is)),
        λ a g. ⊎_elim (λ old. ((sp.2 a (g.0, old.0, g.2)).0, omega (arith, old.1, c_is))) (λ new. (omega (arith, new.1), omega (arith, new.2, c_is))) (old_or_new g.0 a g.1 g.2),
      )

  spans : Spans text (suc n) t.span
  spans =
      ⊎_elim
      (λ some. subst (Spans text (suc n)) (sym (noted.some (omega (arith, c_is)))) (spans_more some s.span l.surveyed.span))
      (λ none. subst (Spans text (suc n)) (sym (noted.empty (omega (arith, c_is)))) (spans_same (omega arith) s.span l.surveyed.span))
      (cases_lt 0 (count (line text n)))

  laid_suc : Laid text size (suc n) end t after
  laid_suc = record {
    before = placed;
    floor_is = omega (arith, p.0, c_is, sh.place_is);
    long = same ∙ l.long;
    shows = shown;
    surveyed = record {
      records = omega (arith, noted.records, l.surveyed.records);
      bytes = omega (arith, noted.bytes, l.surveyed.bytes, c_is);
      span = spans;
    };
  }

  pub laid_more : Laid text size (n + 1) end t after
  laid_more = subst (λ m. Laid text size m end t after) (sym (add-one n)) laid_suc
