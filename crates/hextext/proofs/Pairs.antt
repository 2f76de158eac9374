-- Digits, and the pairs that they make.
use Rattle.std.proofs.Common.{◌≡◌, ℕ, zero, suc, ◌*◌, ◌/◌, ◌<◌, ◌≤◌, true, List, [], ◌∷◌, length, get_or, take, drop, is_some, Some, None, Option, unwrap_or, sym, refl, ap, ◌∙◌, subst, ⊎_elim, arith}
use Rattle.std.specs.Int.{is_in_range}
use Rattle.std.specs.List.{between}
use Rattle.std.proofs.lemmas.List.{take_rest}
use Rattle.std.proofs.lemmas.List.Elements.{All-cons, All-drop}
use Rattle.std.proofs.lemmas.Bool.{cond_both, cond-true, cond-false, and_parts, leb-true, lt-ltb, le-ltb, cases_lt}
use Rattle.hextext.specs.Digits.{digit_value, is_digit, Coded, Digits, joined, pair, front, bytes_of}

-- a byte that is a digit
abbrev pub IsDigit : ℕ → Type 0
IsDigit b = is_digit b ≡ true

-- an option whose value, if it has one, is below 16
Small : Option ℕ → Type 0
Small (Some v) = v < 16
Small None = Unit {0}

in_range : (low high b : ℕ) → is_in_range low high b ≡ true → (low ≤ b) × (b ≤ high)
in_range low high b e = let p = and_parts _ _ e in (leb-true _ _ p.0, leb-true _ _ p.1)

small : (b : ℕ) → Small (digit_value b)
unfolding Small digit_value
small b =
    cond_both _ _ _ Small (λ e. let h = in_range 48 57 b e in omega arith)
    (λ _. cond_both _ _ _ Small (λ e. let h = in_range 65 70 b e in omega arith)
    (λ _. cond_both _ _ _ Small (λ e. let h = in_range 97 102 b e in omega arith) (λ _. tt)))

coded_of : (b : ℕ) (o : Option ℕ) (code : ℕ) → digit_value b ≡ o → Small o → code ≡ unwrap_or o 255 → Coded b code
unfolding Small
coded_of b None code is s e = record { other = λ _. is; digit = λ ne. absurd (ne e) }
coded_of b (Some v) code is s e = record { other = λ h. absurd (omega arith); digit = λ _. (is ∙ ap Some (sym e), omega arith) }

-- the table's entry of b, which is b's value, or 255
pub coded : (b code : ℕ) → code ≡ unwrap_or (digit_value b) 255 → Coded b code
coded b code e = coded_of b (digit_value b) code refl (small b) e

-- xs begins with two digits, which write b, and ys is what follows them
pub record Front (xs : List ℕ) (b : ℕ) (ys : List ℕ) : Type 0 where
  pub long : 2 ≤ length xs
  pub high : is_digit (get_or xs 0 0) ≡ true
  pub low : is_digit (get_or xs 1 0) ≡ true
  pub value : b ≡ unwrap_or (pair (get_or xs 0 0) (get_or xs 1 0)) 0
  pub rest : ys ≡ drop 2 xs

pair_of : (h l : Option ℕ) (b : ℕ) → Some b ≡ joined h l → (is_some h ≡ true) × (is_some l ≡ true) × (b ≡ unwrap_or (joined h l) 0)
pair_of None l b e = let z : ◌≡◌ {A = ℕ} 0 1 = cc in absurd (omega arith)
pair_of (Some h) None b e = let z : ◌≡◌ {A = ℕ} 0 1 = cc in absurd (omega arith)
pair_of (Some h) (Some l) b e = (refl, refl, ap (λ o. unwrap_or o 0) e)

-- what `take_byte` answers, where it answers a byte
pub front_some : (xs : List ℕ) (b : ℕ) (ys : List ℕ) → Some b ≡ front xs → ys ≡ between 2 (length xs) xs → Front xs b ys
front_some xs b ys e r =
    ⊎_elim
    (λ short. let z : ◌≡◌ {A = ℕ} 0 1 = some_none (e ∙ cond-true _ _ _ (lt-ltb (length xs) 2 short)) in absurd (omega arith))
    (λ long.
    let p = pair_of _ _ b (e ∙ cond-false _ _ _ (le-ltb (length xs) 2 long)) in
    record { long = long; high = p.0; low = p.1; value = p.2; rest = r ∙ take_rest xs 2 })
    (cases_lt (length xs) 2)
  where
    some_none : {v : ℕ} → Some v ≡ None → ◌≡◌ {A = ℕ} 0 1
    some_none q = cc

pub bytes_front : (xs : List ℕ) (b : ℕ) (ys : List ℕ) → Front xs b ys → bytes_of xs ≡ b ∷ bytes_of ys
bytes_front [] b ys f = absurd (omega (arith, f.long))
bytes_front (h ∷ []) b ys f = absurd (omega (arith, f.long))
bytes_front (h ∷ l ∷ t) b ys f = let v = f.value in let r = f.rest in cc

pub digits_front : (xs : List ℕ) (b : ℕ) (ys : List ℕ) → Front xs b ys → Digits ys → Digits xs
digits_front [] b ys f d = absurd (omega (arith, f.long))
digits_front (h ∷ []) b ys f d = absurd (omega (arith, f.long))
digits_front (h ∷ l ∷ t) b ys f d = All-cons IsDigit h (l ∷ t) f.high (All-cons IsDigit l t f.low (subst Digits f.rest d))

pub digits_after : (xs : List ℕ) (b : ℕ) (ys : List ℕ) → Front xs b ys → Digits xs → Digits ys
digits_after xs b ys f d = subst Digits (sym f.rest) (All-drop IsDigit 2 xs d)

pub length_bytes : (xs : List ℕ) → length (bytes_of xs) ≡ length xs / 2
length_bytes [] = refl
length_bytes (x ∷ []) = refl
length_bytes (x ∷ y ∷ t) = omega (arith, length_bytes t)

-- the bytes of a part of digits are that part of the bytes
pub bytes_drop : (k : ℕ) (xs : List ℕ) → bytes_of (drop (2 * k) xs) ≡ drop k (bytes_of xs)
bytes_drop zero xs = refl
bytes_drop (suc k) [] = let e : 2 * suc k ≡ suc (suc (2 * k)) = omega arith in ap (λ n. bytes_of (drop n [])) e
bytes_drop (suc k) (x ∷ []) = let e : 2 * suc k ≡ suc (suc (2 * k)) = omega arith in ap (λ n. bytes_of (drop n (x ∷ []))) e
bytes_drop (suc k) (x ∷ y ∷ t) = let e : 2 * suc k ≡ suc (suc (2 * k)) = omega arith in ap (λ n. bytes_of (drop n (x ∷ y ∷ t))) e ∙ bytes_drop k t

pub bytes_take : (k : ℕ) (xs : List ℕ) → bytes_of (take (2 * k) xs) ≡ take k (bytes_of xs)
bytes_take zero xs = refl
bytes_take (suc k) [] = let e : 2 * suc k ≡ suc (suc (2 * k)) = omega arith in ap (λ n. bytes_of (take n [])) e
bytes_take (suc k) (x ∷ []) = let e : 2 * suc k ≡ suc (suc (2 * k)) = omega arith in ap (λ n. bytes_of (take n (x ∷ []))) e
bytes_take (suc k) (x ∷ y ∷ t) =
    let e : 2 * suc k ≡ suc (suc (2 * k)) = omega arith in
    ap (λ n. bytes_of (take n (x ∷ y ∷ t))) e ∙ ap (λ l. unwrap_or (pair x y) 0 ∷ l) (bytes_take k t)
