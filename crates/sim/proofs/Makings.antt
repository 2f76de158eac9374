-- A slow chip is new when it is made.
use Rattle.std.proofs.Common.{◌≡◌, ℕ, ◌<◌, List, map, length, get_or}
use Rattle.std.proofs.lemmas.List.{get_or-map, length-map}
use Rattle.places.specs.Cells.{Cell, beyond, refreshed}
pub use Rattle.places.proofs.Lengths.{fits_sized, sized_fits}

pub refreshed_length : (cs : List Cell) → length (map refreshed cs) ≡ length cs
refreshed_length cs = length-map cs refreshed

pub refreshed_at : (cs : List Cell) (a : ℕ) → a < length cs → get_or (map refreshed cs) a beyond ≡ refreshed (get_or cs a beyond)
refreshed_at cs a l = get_or-map refreshed cs a beyond beyond l

-- what the making of a chip rests on
pub ruleset making = (refreshed_length, refreshed_at, fits_sized, sized_fits)
