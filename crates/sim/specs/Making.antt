-- The making of a slow chip.
use Rattle.std.specs.Prelude.{◌≡◌, ℕ, ◌<◌, List, map, length}
use Rattle.chip.specs.Rules.{Sized, Meaning}
use Rattle.socket.specs.Registers.{fresh}
use Rattle.places.specs.Cells.{Cell, refreshed}
use Rattle.socket.specs.Sockets.{vacant}
use Rattle.sim.specs.Trials.{State, meant}

-- A new chip of n places: every byte FFh, every mark 0, low voltage, Read.
pub record New (n its_maker its_device : ℕ) (s : Meaning) : Type 0 where
  pub size : s.size ≡ n
  pub maker : s.maker ≡ its_maker
  pub device : s.device ≡ its_device
  pub E : (a : ℕ) → a < n → s.E a ≡ 0xFF
  pub R : (a : ℕ) → a < n → s.R a ≡ 0xFF
  pub P : (a : ℕ) → a < n → s.P a ≡ 0xFF
  pub register : s.register ≡ fresh

-- Made of the table cs for this signature, the chip is as s says. A table of no lawful length is left untouched.
pub record Made (cs : List Cell) (its_maker its_device : ℕ) (s : State) : Type 0 where
  pub maker : s.maker ≡ its_maker
  pub device : s.device ≡ its_device
  pub register : s.register ≡ fresh
  pub table : Sized (length cs) → s.cells ≡ map refreshed cs
  pub chip : Sized (length cs) → New (length cs) its_maker its_device (meant s)
  pub untouched : (Sized (length cs) → ⊥) → s.cells ≡ cs
  pub socket : (Sized (length cs) → ⊥) → meant s ≡ vacant fresh
