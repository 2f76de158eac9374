-- What the length of a table says of its cells.
use Rattle.std.proofs.Common.{◌≡◌, ℕ, List, length, Some, None, Option, sym, ap, ◌∙◌}
use Rattle.places.specs.Cells.{cells}
use Rattle.places.specs.Lengths.{fits, Measured}
use Rattle.sim.specs.Trials.{Works}
use Rattle.places.specs.declared.place.Place.{Place}
use Rattle.places.proofs.Tables.{cells_length}

pub works : (ps : List Place) (k : ℕ) (r : Option ℕ) → k ≡ length ps → Measured k r → Works (cells ps) r
works ps k (Some n) e h = (ap fits (cells_length ps ∙ sym e) ∙ h.0, h.1 ∙ e ∙ sym (cells_length ps), h.2)
works ps k None e h = ap fits (cells_length ps ∙ sym e) ∙ h.0
