-- A scan that looks at several elements together.
use Rattle.std.proofs.Common.{◌≡◌, ℕ, zero, suc, ◌+◌, ◌*◌, ◌<◌, ◌≤◌, Bool, true, false, cond, not, List, [], ◌∷◌, map, length, take, drop, sym, refl, ap, ◌∙◌, ⊎_elim, zero-add, arith}
use lib.Lanes.{mask_l}
use lib.Count.{count_trailing_zeros}
use Rattle.std.specs.List.{prefix_len}
use Rattle.std.proofs.lemmas.List.{length-take-le}
use Rattle.std.proofs.lemmas.Simd.{leading_from_mask_l, trailing_mask_l}
use Rattle.std.proofs.lemmas.List.Sums.{prefix_len-le-length}
use Rattle.std.proofs.lemmas.Bool.{cases_lt}

part_step : (t : Bool) (a b n d : ℕ) → cond t (1 + a) 0 ≡ suc n → (a ≡ n → b ≡ n + d) → cond t (1 + b) 0 ≡ suc n + d
part_step true a b n d e ih = let h = ih (omega arith) in omega arith
part_step false a b n d e ih = absurd (omega arith)

cut_step : (t : Bool) (a b n : ℕ) → cond t (1 + a) 0 < suc n → (a < n → b ≡ a) → cond t (1 + b) 0 ≡ cond t (1 + a) 0
cut_step true a b n h ih = ap (λ x. 1 + x) (ih (omega arith))
cut_step false a b n h ih = refl

none_step : (t : Bool) (a n m : ℕ) → cond (not t) (1 + a) 0 ≡ suc n → (a ≡ n → m ≡ 0) → cond t 1 0 + 2 * m ≡ 0
none_step true a n m e ih = absurd (omega arith)
none_step false a n m e ih = let h = ih (omega arith) in omega arith

module _ {X : Type 0} (p : X → Bool) where
  -- where the first n all pass, the count goes on after them
  part : (n : ℕ) (xs : List X) → n ≤ length xs → prefix_len p (take n xs) ≡ n → prefix_len p xs ≡ n + prefix_len p (drop n xs)
  part zero xs h e = sym (zero-add (prefix_len p xs))
  part (suc n) [] h e = absurd (omega arith)
  part (suc n) (x ∷ xs) h e = part_step (p x) (prefix_len p (take n xs)) (prefix_len p xs) n (prefix_len p (drop n xs)) e (part n xs (omega arith))

  -- where they do not, it ends among them
  cut : (n : ℕ) (xs : List X) → n ≤ length xs → prefix_len p (take n xs) < n → prefix_len p xs ≡ prefix_len p (take n xs)
  cut zero xs h less = absurd (omega arith)
  cut (suc n) [] h less = absurd (omega arith)
  cut (suc n) (x ∷ xs) h less = cut_step (p x) (prefix_len p (take n xs)) (prefix_len p xs) n less (cut n xs (omega arith))

module _ {X : Type 0} (q : X → Bool) where
  none_set : (xs : List X) → prefix_len (λ x. not (q x)) xs ≡ length xs → mask_l (map q xs) ≡ 0
  none_set [] e = refl
  none_set (x ∷ xs) e = none_step (q x) (prefix_len (λ y. not (q y)) xs) (length xs) (mask_l (map q xs)) e (none_set xs)

  -- n elements from the front, at most 64, of which a mask says which pass q
  module _ (n : ℕ) (xs : List X) (few : n ≤ 64) (long : n ≤ length xs) (m : ℕ) (is : m ≡ mask_l (map q (take n xs))) where
    size : length (take n xs) ≡ n
    size = length-take-le n xs long

    pub none_found : m ≡ 0 → prefix_len (λ x. not (q x)) xs ≡ n + prefix_len (λ x. not (q x)) (drop n xs)
    none_found zero-mask = part (λ x. not (q x)) n xs long (leading_from_mask_l q (take n xs) (sym is ∙ zero-mask) ∙ size)

    pub found : 0 < m → (prefix_len (λ x. not (q x)) xs ≡ count_trailing_zeros 64 m) × (count_trailing_zeros 64 m < n)
    found some =
        let front = trailing_mask_l q 64 (take n xs) (omega (arith, size)) (omega arith) in
        let at : count_trailing_zeros 64 m ≡ prefix_len (λ x. not (q x)) (take n xs) = ap (count_trailing_zeros 64) is ∙ front in
        let within = prefix_len-le-length (λ x. not (q x)) (take n xs) in
        let less : prefix_len (λ x. not (q x)) (take n xs) < n =
        ⊎_elim (λ h. h) (λ all. absurd (omega (arith, none_set (take n xs) (omega (arith, size))))) (cases_lt (prefix_len (λ x. not (q x)) (take n xs)) n) in
        (cut (λ x. not (q x)) n xs long less ∙ sym at, omega arith)
