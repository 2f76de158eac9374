-- The lengths of a table that make a chip.
use Rattle.std.proofs.Common.{◌/◌, ◌≡◌, ℕ, zero, suc, ◌%◌, ◌^◌, ◌<◌, ◌≤◌, Bool, true, false, cond, eqb, refl, ap, ◌∙◌, arith}
use Rattle.std.proofs.Math.Pow.{pow_mono}
use Rattle.std.proofs.lemmas.Nat.{ones_le_self, zero_from_ones}
use Rattle.std.specs.Int.Count.{ones_step}
use Rattle.std.specs.Int.RustNames.{count_ones}
use Rattle.std.proofs.lemmas.Bool.{eqb-true, eqb-false, eq-eqb, both_ways, cond-true, cond_both}
use Rattle.chip.specs.Rules.{Sized}
use Rattle.places.specs.Lengths.{power_to, fits}

power_sized : (k n : ℕ) → k ≤ 15 → power_to k n ≡ true → Sized n
power_sized zero n l h = absurd (both_ways false refl h)
power_sized (suc k) n l h = go (eqb n (2 ^ suc k)) refl h (power_sized k n (omega arith))
  where
    go : (b : Bool) → eqb n (2 ^ suc k) ≡ b → cond b true (power_to k n) ≡ true → (power_to k n ≡ true → Sized n) → Sized n
    go true e q r = record { lines = suc k; least = omega arith; most = l; power = eqb-true n (2 ^ suc k) e }
    go false e q r = r q

pub fits_sized : (n : ℕ) → fits n ≡ true → Sized n
unfolding fits
fits_sized n h = power_sized 15 n (omega arith) h

sized_power : (k j n : ℕ) → 1 ≤ j → j ≤ k → n ≡ 2 ^ j → power_to k n ≡ true
sized_power zero j n l m e = absurd (omega arith)
sized_power (suc k) j n l m e = go (eqb j (suc k)) refl (λ h. sized_power k j n l h e)
  where
    go : (b : Bool) → eqb j (suc k) ≡ b → (j ≤ k → power_to k n ≡ true) → cond (eqb n (2 ^ suc k)) true (power_to k n) ≡ true
    go true f r = cond-true _ true _ (eq-eqb n (2 ^ suc k) (e ∙ ap (λ (i : ℕ). 2 ^ i) (eqb-true j (suc k) f)))
    go false f r = cond_both _ true _ (λ (x : Bool). x ≡ true) (λ _. refl) (λ _. r (let x = eqb-false j (suc k) f in omega arith))

pub sized_fits : (n : ℕ) → Sized n → fits n ≡ true
unfolding fits
sized_fits n z = sized_power 15 z.lines n z.least z.most z.power

-- A power of two has one digit set, and no other number has one alone.
power_ones : (k : ℕ) → count_ones (2 ^ k) ≡ 1
power_ones zero = omega (arith, ones_step 1, ones_le_self 0)
power_ones (suc k) =
    let e : 2 ^ suc k / 2 ≡ 2 ^ k = omega arith in
    omega (arith, ones_step (2 ^ suc k), power_ones k, ap count_ones e)

ones_power : (d n : ℕ) → n < 2 ^ d → count_ones n ≡ 1 → (k : ℕ) × (k < d) × (n ≡ 2 ^ k)
ones_power zero n h e = absurd (omega (arith, ones_le_self n))
ones_power (suc d) n h e = go (n % 2) refl (λ q. ones_power d (n / 2) (omega arith) q)
  where
    go : (r : ℕ) → n % 2 ≡ r → (count_ones (n / 2) ≡ 1 → (k : ℕ) × (k < d) × (n / 2 ≡ 2 ^ k)) → (k : ℕ) × (k < suc d) × (n ≡ 2 ^ k)
    go zero q more = let p = more (omega (arith, ones_step n)) in (suc p.0, omega (arith, p.1), omega (arith, p.2))
    go (suc r) q more = (0, omega arith, omega (arith, ones_step n, zero_from_ones (n / 2) (omega (arith, ones_step n))))

pub sized_ones : (n : ℕ) → Sized n → count_ones n ≡ 1
sized_ones n z = ap count_ones z.power ∙ power_ones z.lines

pub ones_sized : (n : ℕ) → 1 < n → n < 65536 → count_ones n ≡ 1 → Sized n
ones_sized n l h e = go (ones_power 16 n h e)
  where
    go : (k : ℕ) × (k < 16) × (n ≡ 2 ^ k) → Sized n
    go (zero, m, p) = absurd (omega arith)
    go (suc k, m, p) = record { lines = suc k; least = omega arith; most = omega arith; power = p }

pub sized_bounds : (n : ℕ) → Sized n → (1 < n) × (n < 65536)
sized_bounds n z =
    let l : 2 ^ 1 ≤ 2 ^ z.lines = pow_mono z.least in
    let m : 2 ^ z.lines ≤ 2 ^ 15 = pow_mono z.most in
    (omega (arith, l, z.power), omega (arith, m, z.power))

-- what the size of a table rests on
pub ruleset measuring = (sized_fits, fits_sized, sized_ones, ones_sized, sized_bounds)
