-- The sizes of chips.
use Rattle.std.proofs.Common.{ℕ, ◌<◌, arith, pow_pos}
use Rattle.chip.specs.Rules.{Sized}

pub sized_pos : (n : ℕ) → Sized n → 0 < n
sized_pos n z = omega (arith, z.power, pow_pos z.lines)
