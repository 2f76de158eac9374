-- Tables of places, and their cells.
use Rattle.std.proofs.Common.{◌≡◌, ℕ, ◌+◌, ◌<◌, ◌≤◌, List, ◌++◌, map, length, get_or, take, drop, set, sym, ap, ◌∙◌, arith}
use Rattle.std.proofs.lemmas.List.Edits.{map_over_more}
use Rattle.std.proofs.lemmas.List.{get_or-map, length-map, map-set, set_past}
use Rattle.std.proofs.lemmas.List.Folds.{list_all-map}
use Rattle.std.specs.Prelude.{◌==◌}
use Rattle.std.specs.List.{list_all}
use Rattle.places.specs.Cells.{Cell, beyond, cell, cells, zeroed, programmed}
use Rattle.places.specs.declared.place.Place.{Place}

pub cells_length : (ps : List Place) → length (cells ps) ≡ length ps
cells_length ps = length-map ps cell

pub cells_at : (ps : List Place) (i : ℕ) (p : Place) → i < length ps → get_or (cells ps) i beyond ≡ cell (get_or ps i p)
cells_at ps i p h = get_or-map cell ps i p beyond h

-- one place programmed, or none where there is no such place
pub cells_programmed : (ps : List Place) (i d : ℕ) (p r : Place) → i < length ps → cell r ≡ programmed d (cell (get_or ps i p)) → cells (set ps i r) ≡ set (cells ps) i (programmed d (get_or (cells ps) i beyond))
cells_programmed ps i d p r h e = map-set cell ps i r ∙ ap (λ (c : Cell). set (cells ps) i c) (e ∙ ap (programmed d) (sym (cells_at ps i p h)))

pub cells_untouched : (ps : List Place) (i : ℕ) (c : Cell) → length ps ≤ i → cells ps ≡ set (cells ps) i c
cells_untouched ps i c h = sym (set_past (cells ps) i c (omega (arith, cells_length ps)))

-- the first i cells changed by f
abbrev pub front : (Cell → Cell) → ℕ → List Cell → List Cell
front f i cs = map f (take i cs) ++ drop i cs

-- one turn of a loop that changes every place
pub front_next : (f : Cell → Cell) (qs ps : List Place) (i : ℕ) (p r : Place) → length qs ≡ length ps → i < length ps → cell r ≡ f (cell (get_or qs i p))
    → cells qs ≡ front f i (cells ps) → cells (set qs i r) ≡ front f (i + 1) (cells ps)
front_next f qs ps i p r l h e inv =
    let c = cell (get_or qs i p) in
    map-set cell qs i r
    ∙ ap (λ (x : Cell). set (cells qs) i x) e
    ∙ map_over_more f (cells ps) (cells qs) i c (omega (arith, cells_length ps)) inv (sym (get_or-map cell qs i p c (omega arith)))

pub zeroed_cells : (ps : List Place) → zeroed (cells ps) ≡ list_all (λ (p : Place). p.program == 0) ps
zeroed_cells ps = list_all-map (λ (c : Cell). c.P == 0) cell ps

-- what one place struck makes of the cells
pub ruleset striking = (cells_programmed, cells_untouched)
