-- How places give way: what a delay means over many strikes, and not over one.
use Rattle.std.specs.Prelude.{◌≡◌, ℕ, zero, suc, ◌<◌, ◌≤◌}
use Rattle.places.specs.Cells.{Cell, programmed, erased}

-- k strikes, one after the other
abbrev pub times : ℕ → (Cell → Cell) → Cell → Cell
times zero f c = c
times (suc k) f c = f (times k f c)

-- The place c at zero, with no strikes counted.
abbrev pub at_zero : Cell → Cell
at_zero c = record { E = 0; R = 0; P = 0; program_delay = c.program_delay; erase_delay = c.erase_delay; program_count = 0; erase_count = 0 }

-- After k program strikes with the byte d: the margins fall from the delay on, program margin one strike later.
pub record Programs (delay k d : ℕ) (c : Cell) : Type 0 where
  pub not_yet : k < delay → (c.E ≡ 0xFF) × (c.R ≡ 0xFF)
  pub reads : 0 < k → delay ≤ k → (c.E ≡ d) × (c.R ≡ d)
  pub not_firmly : k ≤ delay → c.P ≡ 0xFF
  pub firmly : delay < k → c.P ≡ d

-- After k erase strikes on a place at zero: they rise from the delay on, erase margin one strike later.
pub record Erases (delay k : ℕ) (c : Cell) : Type 0 where
  pub not_yet : k < delay → (c.R ≡ 0) × (c.P ≡ 0)
  pub reads : 0 < k → delay ≤ k → (c.R ≡ 0xFF) × (c.P ≡ 0xFF)
  pub not_firmly : k ≤ delay → c.E ≡ 0
  pub firmly : delay < k → c.E ≡ 0xFF

-- A new place gives way to either kind of strike as its delays say, as far as counts go.
pub record GivesWay (c : Cell) : Type 0 where
  pub programs : (k d : ℕ) → k ≤ 65535 → d < 256 → Programs c.program_delay k d (times k (programmed d) c)
  pub erases : (k : ℕ) → k ≤ 65535 → Erases c.erase_delay k (times k erased (at_zero c))
