-- A text splits after its first line in one of three ways.
use Rattle.std.proofs.Common.{◌≡◌, ℕ, ◌+◌, ◌-◌, ◌<◌, ◌≤◌, true, false, not, ◌&&◌, eqb, ltb, List, [], ◌∷◌, ◌++◌, length, get_or, take, drop, sym, refl, ap, ◌∙◌, subst, inl, inr, ⊎_elim, arith}
use Rattle.std.specs.Prelude.{Some, None, Option, MatchOption}
use Rattle.std.specs.List.{All}
use Rattle.memchr.specs.Find.{IsFirstByte, is_byte}
use Rattle.std.proofs.lemmas.List.Sums.{prefix_len_is, prefix_len_passes, prefix_len_stops}
use Rattle.std.proofs.lemmas.List.Folds.{length-prefix_len, prefix_len-append}
use Rattle.std.proofs.lemmas.List.{append_assoc, take-append-drop, drop_more, take_more, take_all, take_rest, get_or-take, drop_all, get_or_past, take_at, drop_at, length-append, length_push, get_or_push}
use Rattle.std.proofs.lemmas.List.Elements.{All-take, All-push, All-get_or, All-from_get_or}
use Rattle.std.proofs.lemmas.Bool.{cond_both, cond-true, cond-false, and_right, ne_eqb, le-ltb, not_from_false, not_from_true, false_from_ne_true, and_parts, and_from, ltb-true, ltb-false, lt-ltb, eqb-true, eq-eqb, not-true, both_ways, cases_Bool, cases_lt}
use Rattle.hextext.specs.Lines.{before_feed, chomped, line_of, after_line, Split}

-- the byte that a test looks for stands first where the search for it ends
pub at_first_feed : (xs : List ℕ) (r : Option ℕ) → IsFirstByte (is_byte 10) xs r → MatchOption r (before_feed xs ≡ length xs) (λ i. (i < length xs) × (i ≡ before_feed xs))
at_first_feed xs None none = prefix_len_is (λ b. not (eqb b 10)) xs (length xs) 0 (omega arith) (λ k h. not_from_false _ (false_from_ne_true _ (none k (omega arith) h))) (λ h. absurd (omega arith))
at_first_feed xs (Some k) f = (
  f.0.high,
  sym (prefix_len_is (λ b. not (eqb b 10)) xs k 0 (omega arith) (λ j h. not_from_false _ (false_from_ne_true _ (f.0.before j (omega arith) h))) (λ _. not_from_true _ f.1)),
)

not_feed : (b : ℕ) → not (eqb b 10) ≡ true → b ≡ 10 → ⊥
not_feed b e is = both_ways (eqb b 10) (not-true _ e) (eq-eqb b 10 is)

is_feed : (b : ℕ) → not (eqb b 10) ≡ false → b ≡ 10
is_feed b e = ⊎_elim (λ t. eqb-true b 10 t) (λ f. absurd (both_ways (not (eqb b 10)) e (rw f))) (cases_Bool (eqb b 10))

module _ (xs : List ℕ) where
  unfed : All (λ b. b ≡ 10 → ⊥) (take (before_feed xs) xs)
  unfed =
      All-from_get_or (λ b. b ≡ 10 → ⊥) (take (before_feed xs) xs) 0
      (λ i h.
      let size = length-prefix_len (λ b. not (eqb b 10)) xs in
      not_feed _ (ap (λ b. not (eqb b 10)) (get_or-take (before_feed xs) xs i 0 (omega arith)) ∙ prefix_len_passes (λ b. not (eqb b 10)) xs i 0 (omega arith)))

  module _ (more : before_feed xs < length xs) where
    rest_is : after_line xs ≡ drop (before_feed xs + 1) xs
    rest_is = take_rest xs (before_feed xs + 1)

    cut : xs ≡ take (before_feed xs) xs ++ (10 ∷ after_line xs)
    cut =
        let at = is_feed _ (prefix_len_stops (λ b. not (eqb b 10)) xs 0 more) in
        sym (take-append-drop (before_feed xs) xs)
        ∙ ap (λ l. take (before_feed xs) xs ++ l) (drop_more xs (before_feed xs) 0 more ∙ ap (λ b. b ∷ drop (before_feed xs + 1) xs) at ∙ ap (λ l. 10 ∷ l) (sym rest_is))

    returned : (front : List ℕ) → take (before_feed xs) xs ≡ front → (ltb 0 (length front) && eqb (get_or front (length front - 1) 0) 13) ≡ true → Split xs (take (length front - 1) front) (after_line xs)
    returned front is e =
        let p = and_parts _ _ e in
        let some = ltb-true 0 (length front) p.0 in
        let step : front ≡ take (length front - 1) front ++ (13 ∷ []) =
        sym (take_all (length front - 1 + 1) front (omega arith)) ∙ take_more front (length front - 1) 0 (omega arith) ∙ ap (λ b. take (length front - 1) front ++ (b ∷ [])) (eqb-true _ 13 p.1) in
        record {
          unbroken = All-take (λ b. b ≡ 10 → ⊥) _ front (subst (All (λ b. b ≡ 10 → ⊥)) is unfed);
          ended = inr (inl (cut ∙ ap (λ l. l ++ (10 ∷ after_line xs)) (is ∙ step) ∙ append_assoc (take (length front - 1) front) (13 ∷ []) (10 ∷ after_line xs)));
        }

    kept : (front : List ℕ) → take (before_feed xs) xs ≡ front → (ltb 0 (length front) && eqb (get_or front (length front - 1) 0) 13) ≡ false → Split xs front (after_line xs)
    kept front is e = record {
      unbroken = subst (All (λ b. b ≡ 10 → ⊥)) is unfed;
      ended = inl (
        cut ∙ ap (λ l. l ++ (10 ∷ after_line xs)) is,
        λ cr. ⊎_elim
            (λ some. both_ways _ e (and_from _ _ (lt-ltb 0 (length front) some) (eq-eqb _ 13 cr)))
            (λ none. let z = get_or_past front (length front - 1) 0 (omega arith) in omega (arith, z, cr))
            (cases_lt 0 (length front)),
      );
    }

    at_feed : Split xs (chomped (take (before_feed xs) xs)) (after_line xs)
    at_feed = cond_both _ _ _ (λ l. Split xs l (after_line xs)) (returned (take (before_feed xs) xs) refl) (kept (take (before_feed xs) xs) refl)

  nothing_after : length xs ≤ before_feed xs → after_line xs ≡ []
  nothing_after all = take_rest xs (before_feed xs + 1) ∙ drop_all (before_feed xs + 1) xs (omega arith)

  at_end : length xs ≤ before_feed xs → Split xs xs (after_line xs)
  at_end all = record { unbroken = subst (All (λ b. b ≡ 10 → ⊥)) (take_all (before_feed xs) xs all) unfed; ended = inr (inr (refl, nothing_after all)) }

  pub splits : Split xs (line_of xs) (after_line xs)
  splits = cond_both _ _ _ (λ l. Split xs l (after_line xs)) (λ e. at_feed (ltb-true _ _ e)) (λ e. at_end (ltb-false _ _ e))

-- and in no other way than that
unbroken : (xs : List ℕ) → All (λ b. b ≡ 10 → ⊥) xs → before_feed xs ≡ length xs
unbroken xs a =
    prefix_len_is (λ b. not (eqb b 10)) xs (length xs) 0 (omega arith)
    (λ k h. not_from_false _ (ne_eqb _ 10 (All-get_or (λ b. b ≡ 10 → ⊥) xs k 0 h a)))
    (λ h. absurd (omega arith))

module _ (front rest : List ℕ) (unfed_front : All (λ b. b ≡ 10 → ⊥) front) where
  at_length : before_feed (front ++ (10 ∷ rest)) ≡ length front
  at_length = prefix_len-append (λ b. not (eqb b 10)) front (10 ∷ rest) ∙ cond-true _ _ _ (eq-eqb _ _ (unbroken front unfed_front)) ∙ omega arith

  line_to_feed : line_of (front ++ (10 ∷ rest)) ≡ chomped front
  line_to_feed =
      let size = length-append front (10 ∷ rest) in
      cond-true _ _ _ (lt-ltb (before_feed (front ++ (10 ∷ rest))) (length (front ++ (10 ∷ rest))) (omega (arith, at_length)))
      ∙ ap chomped (ap (λ n. take n (front ++ (10 ∷ rest))) at_length ∙ take_at front (10 ∷ rest) (length front) refl)

  after_feed : after_line (front ++ (10 ∷ rest)) ≡ rest
  after_feed =
      take_rest (front ++ (10 ∷ rest)) (before_feed (front ++ (10 ∷ rest)) + 1)
      ∙ ap (λ n. drop (n + 1) (front ++ (10 ∷ rest))) at_length
      ∙ ap (drop (length front + 1)) (sym (append_assoc front (10 ∷ []) rest))
      ∙ drop_at (front ++ (10 ∷ [])) rest (length front + 1) (length_push front 10)

kept_return : (front : List ℕ) → (get_or front (length front - 1) 0 ≡ 13 → ⊥) → chomped front ≡ front
kept_return front ne = cond-false _ _ _ (and_right _ _ (ne_eqb _ 13 ne))

cut_return : (front : List ℕ) → chomped (front ++ (13 ∷ [])) ≡ front
cut_return front =
    let size = length_push front 13 in
    let last : length (front ++ (13 ∷ [])) - 1 ≡ length front = omega arith in
    cond-true _ _ _ (and_from _ _ (lt-ltb 0 (length (front ++ (13 ∷ []))) (omega arith)) (eq-eqb _ 13 (ap (λ n. get_or (front ++ (13 ∷ [])) n 0) last ∙ get_or_push front 13 0 (length front) refl)))
    ∙ ap (λ n. take n (front ++ (13 ∷ []))) last
    ∙ take_at front (13 ∷ []) (length front) refl

only_lf : (line rest : List ℕ) → All (λ b. b ≡ 10 → ⊥) line → (get_or line (length line - 1) 0 ≡ 13 → ⊥) → (line ≡ line_of (line ++ (10 ∷ rest))) × (rest ≡ after_line (line ++ (10 ∷ rest)))
only_lf line rest a ne = (sym (line_to_feed line rest a ∙ kept_return line ne), sym (after_feed line rest a))

only_crlf : (line rest : List ℕ) → All (λ b. b ≡ 10 → ⊥) line → (line ≡ line_of (line ++ (13 ∷ (10 ∷ rest)))) × (rest ≡ after_line (line ++ (13 ∷ (10 ∷ rest))))
only_crlf line rest a =
    let b = All-push (λ b. b ≡ 10 → ⊥) line 13 a (λ e. omega arith) in
    let e = append_assoc line (13 ∷ []) (10 ∷ rest) in (
      sym (ap line_of (sym e) ∙ line_to_feed (line ++ (13 ∷ [])) rest b ∙ cut_return line),
      sym (ap after_line (sym e) ∙ after_feed (line ++ (13 ∷ [])) rest b),
    )

only_end : (line : List ℕ) → All (λ b. b ≡ 10 → ⊥) line → (line ≡ line_of line) × (after_line line ≡ [])
only_end line a =
    let n = unbroken line a in
    (sym (cond-false _ _ _ (le-ltb (before_feed line) (length line) (omega arith))), nothing_after line (omega arith))

pub only : (xs line rest : List ℕ) → Split xs line rest → (line ≡ line_of xs) × (rest ≡ after_line xs)
only xs line rest s =
    ⊎_elim (λ lf. subst (λ zs. (line ≡ line_of zs) × (rest ≡ after_line zs)) (sym lf.0) (only_lf line rest s.unbroken lf.1))
    (⊎_elim (λ crlf. subst (λ zs. (line ≡ line_of zs) × (rest ≡ after_line zs)) (sym crlf) (only_crlf line rest s.unbroken))
    (λ end.
    let e = only_end line s.unbroken in
    subst (λ zs. (line ≡ line_of zs) × (rest ≡ after_line zs)) (sym end.0) (e.0, end.1 ∙ sym e.1)))
    s.ended
