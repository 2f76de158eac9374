-- Cycles taken one after the other.
use Rattle.std.specs.Prelude.{◌≡◌, List, [], ◌∷◌}
use Rattle.chip.specs.Rules.{Cycle}

-- The chip s took exactly these cycles, in this order, and then was t.
abbrev pub Ran : {C : Type 0} → (C → Cycle → C → Type 0) → C → List Cycle → C → Type 0
Ran takes s [] t = t ≡ s
Ran {C} takes s (c ∷ cs) t = (u : C) × takes s c u × Ran takes u cs t
