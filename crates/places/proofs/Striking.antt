-- What a strike keeps of a place: byte within byte.
use Rattle.chip.proofs.Bits.{within_refl, within_trans, within_full, within_and, and_within}
use Rattle.std.proofs.lemmas.Nat.{and_le_l}

pub ruleset striking = (within_refl, within_trans, within_full, within_and, and_within, and_le_l)
