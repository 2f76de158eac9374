-- The bytes by which a chip says what it is.
use Rattle.std.specs.Prelude.{ℕ}
use Rattle.chip.specs.declared.state.Code.{Code}
use Rattle.chip.specs.declared.state.Code.TheVariants.{Maker, Device}
use Rattle.chip.specs.declared.state.Signature.{Signature}

abbrev pub byte_of : Code → Signature → ℕ
byte_of Maker s = s.maker
byte_of Device s = s.device
