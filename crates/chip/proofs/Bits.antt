-- Bytes within bytes, bit by bit.
use Rattle.std.proofs.Common.{◌≡◌, ℕ, ◌/◌, ◌^◌, ◌<◌, min, ap, ◌∙◌, mod-eq_of_lt, arith}
use lib.Bits.{bit_and, and_shr, and_step, and_mask}
use Rattle.chip.specs.Rules.{Within, bit}

pub within_refl : (x : ℕ) → Within x x
within_refl x k = omega arith

pub within_trans : (x y z : ℕ) → Within x y → Within y z → Within x z
within_trans x y z p q k = omega (arith, p k, q k)

bit-bit_and : (k x y : ℕ) → bit k (bit_and x y) ≡ min (bit k x) (bit k y)
bit-bit_and k x y = let f = and_step (x / 2 ^ k) (y / 2 ^ k) in rw (and_shr x y k) (omega (arith, f))

pub within_and : (x y d : ℕ) → Within x y → Within (bit_and x d) (bit_and y d)
within_and x y d p k = rw (bit-bit_and k x d, bit-bit_and k y d) (omega (arith, p k))

pub and_within : (x d : ℕ) → Within (bit_and x d) x
and_within x d k = rw (bit-bit_and k x d) (omega arith)

pub and_keeps : (x d k : ℕ) → bit k d ≡ 1 → bit k (bit_and x d) ≡ bit k x
and_keeps x d k e = rw (bit-bit_and k x d) (omega arith)

and_full : (x : ℕ) → x < 256 → bit_and x 255 ≡ x
and_full x h = and_mask x 8 ∙ mod-eq_of_lt h

pub within_full : (x : ℕ) → x < 256 → Within x 255
within_full x h k = let e = bit-bit_and k x 255 in let f : bit k (bit_and x 255) ≡ bit k x = ap (bit k) (and_full x h) in omega arith
