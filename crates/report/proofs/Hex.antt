-- A place, formatted as four digits of upper case.
use Rattle.std.proofs.Common.{◌≡◌, ℕ, zero, suc, ◌+◌, ◌-◌, ◌/◌, ◌%◌, ◌^◌, ◌<◌, ◌≤◌, true, false, List, [], ◌∷◌, ◌++◌, length, replicate, sym, refl, ap, ◌∙◌, ap₂, subst, ⊎_elim, arith}
use Rattle.std.specs.Fmt.{char_count, digits_onto, digits, padded_integral, format_spec}
use Rattle.std.proofs.Math.Nat.{pow-suc}
use Rattle.std.proofs.lemmas.List.{append-nil}
use Rattle.std.proofs.lemmas.Bool.{cond-true, cond-false, eq-eqb, ne_eqb, cases_lt}
use Rattle.report.specs.Words.{hex_digit, four_digits}

-- the last k digits of n, leading zeros among them, followed by acc
fixed : ℕ → ℕ → List ℕ → List ℕ
fixed zero n acc = acc
fixed (suc k) n acc = fixed k (n / 16) (hex_digit (n % 16) ∷ acc)

last : (k n : ℕ) (acc : List ℕ) → n < 16 → digits_onto (suc k) 16 true n acc ≡ hex_digit (n % 16) ∷ acc
last k n acc h = cond-true _ _ _ (eq-eqb (n / 16) 0 (omega arith))

next : (k n : ℕ) (acc : List ℕ) → 16 ≤ n → digits_onto (suc k) 16 true n acc ≡ digits_onto k 16 true (n / 16) (hex_digit (n % 16) ∷ acc)
next k n acc h = cond-false _ _ _ (ne_eqb (n / 16) 0 (λ e. omega arith))

zeros_front : (k : ℕ) (acc : List ℕ) → replicate k 48 ++ (48 ∷ acc) ≡ 48 ∷ (replicate k 48 ++ acc)
zeros_front zero acc = refl
zeros_front (suc k) acc = ap (λ l. 48 ∷ l) (zeros_front k acc)

zeros : (k : ℕ) (acc : List ℕ) → fixed k 0 acc ≡ replicate k 48 ++ acc
unfolding fixed
zeros zero acc = refl
zeros (suc k) acc = zeros k (48 ∷ acc) ∙ zeros_front k acc

-- ds, with zeros before it up to a width, is xs
Filled : ℕ → List ℕ → List ℕ → Type 0
Filled width ds xs = replicate (width - length ds) 48 ++ ds ≡ xs

one : (k m n : ℕ) (acc : List ℕ) → n < 16 → Filled (suc k + length acc) (digits_onto (suc m) 16 true n acc) (fixed (suc k) n acc)
unfolding Filled fixed
one k m n acc less =
    let ds = hex_digit (n % 16) ∷ acc in
    let rest : suc k + length acc - suc (length acc) ≡ k = omega arith in
    let none : 0 ≡ n / 16 = omega arith in
    subst (λ xs. Filled (suc k + length acc) xs (fixed (suc k) n acc)) (sym (last m n acc less)) (ap (λ j. replicate j 48 ++ ds) rest ∙ sym (zeros k ds) ∙ ap (λ i. fixed k i ds) none)

-- digits that are filled up are those of the width
filled_up : (k m n : ℕ) (acc : List ℕ) → k ≤ m → n < 16 ^ suc k → Filled (suc k + length acc) (digits_onto (suc m) 16 true n acc) (fixed (suc k) n acc)
unfolding fixed
filled_up zero m n acc le h = one zero m n acc (omega arith)
filled_up (suc k) zero n acc le h = absurd (omega arith)
filled_up (suc k) (suc m) n acc le h =
    ⊎_elim (one (suc k) (suc m) n acc)
    (λ more.
    let ds = hex_digit (n % 16) ∷ acc in
    let width : suc k + length ds ≡ suc (suc k) + length acc = omega arith in
    let less : n / 16 < 16 ^ suc k = omega (arith, pow-suc 16 (suc k)) in
    subst (λ xs. Filled (suc (suc k) + length acc) xs (fixed (suc k) (n / 16) ds)) (sym (next (suc m) n acc more))
    (subst (λ w. Filled w (digits_onto (suc m) 16 true (n / 16) ds) (fixed (suc k) (n / 16) ds)) width (filled_up k m (n / 16) ds (omega arith) less)))
    (cases_lt n 16)

-- four digits for four values
four : ℕ → ℕ → ℕ → ℕ → List ℕ
four a b c d = hex_digit a ∷ (hex_digit b ∷ (hex_digit c ∷ (hex_digit d ∷ [])))

same : (a b c d e f g : ℕ) → a ≡ e → b ≡ f → c ≡ g → four a b c d ≡ four e f g d
same a b c d e f g p q r = cc

-- what `{:04X}` writes for a place
pub placed : (n : ℕ) → n < 65536 → padded_integral (format_spec 32 0 4 4 18446744073709551615) false [] (digits 16 true n) ≡ four_digits n
unfolding Filled fixed four digits padded_integral char_count
placed n h =
    let ds = digits_onto 64 16 true n [] in
    let width : 4 - length ds - 0 - 0 ≡ 4 - length ds = omega arith in
    ap₂ (λ j xs. replicate j 48 ++ xs) width (append-nil ds) ∙ filled_up 3 63 n [] (omega arith) h ∙ same _ _ _ (n % 16) (n / 4096) (n / 256 % 16) (n / 16 % 16) (omega arith) (omega arith) refl
