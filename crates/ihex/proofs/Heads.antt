-- Taking bytes from the front of pairs of digits.
use Rattle.std.proofs.Common.{◌≡◌, ℕ, ◌-◌, ◌≤◌, List, [], ◌∷◌, ◌++◌, length, Some, refl, ap, ◌∙◌, arith, length-drop}
use Rattle.std.specs.List.{between}
use Rattle.hextext.specs.Digits.{front}
use Rattle.hextext.proofs.Pairs.{Front, front_some, digits_after}
use Rattle.ihex.specs.Pairing.{Paired}

-- what `take_byte` leaves of pairs of digits is pairs again
pub paired_after : (xs : List ℕ) (b : ℕ) (ys : List ℕ) → Paired xs → Some b ≡ front xs → ys ≡ between 2 (length xs) xs → Paired ys
paired_after xs b ys pairs e rest =
    let f = front_some xs b ys e rest in
    let n : length ys ≡ length xs - 2 = ap length f.rest ∙ length-drop 2 xs in
    record { spelt = digits_after xs b ys f pairs.spelt; even = omega (arith, f.long, pairs.even) }

-- what two digits at the front of a chunk write, they write at the front of all that is left
pub front_chunk : (pair ys : List ℕ) (b : ℕ) (zs : List ℕ) → length pair ≤ 2 → Front pair b zs → Front (pair ++ ys) b ys
front_chunk [] ys b zs s f = absurd (omega (arith, f.long))
front_chunk (h ∷ []) ys b zs s f = absurd (omega (arith, f.long))
front_chunk (h ∷ l ∷ []) ys b zs s f = record { long = omega arith; high = f.high; low = f.low; value = f.value; rest = refl }
front_chunk (h ∷ l ∷ m ∷ t) ys b zs s f = absurd (omega (arith, s))
