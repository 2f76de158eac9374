use Rattle.std.proofs.Common.{◌≡◌}
use Rattle.std.specs.Borrow.{MutBor}
use Rattle.places.specs.declared.place.Place.{Place}
use Rattle.places.specs.Cells.{Cell, cell, cells}
use Rattle.places.proofs.Tables.{front}
use Rattle.places.proofs.table.change_all.Given as goal

abbrev pub invariant-places : goal.invariant-places
invariant-places g l =
    (f : Cell → Cell) → ((p q : MutBor Place) → goal.F-post g l.change p tt q → cell q.now ≡ f (cell p.now)) → cells l.table ≡ front f l.place-index (cells l.initial.table)
