-- The lengths of a table that make a chip, and the check of a table.
use Rattle.std.specs.Prelude.{◌≡◌, ℕ, zero, suc, ◌^◌, ◌<◌, Bool, true, false, cond, Some, None, Ok, Err, Option, Result, ◌==◌, List, ◌++◌, codes, decimal}
use Rattle.chip.specs.Rules.{Sized}
use Rattle.places.specs.declared.check.TableFault.{TableFault}
use Rattle.places.specs.declared.check.TableFault.TheVariants.{Length}

-- Is n one of 2, 4, 8 .. 2^k?
abbrev pub power_to : ℕ → ℕ → Bool
power_to zero n = false
power_to (suc k) n = cond (n == 2 ^ suc k) true (power_to k n)

-- A table makes a chip if its length is a size that a chip may have.
unfoldable pub fits : ℕ → Bool
fits n = power_to 15 n

-- The size of a chip of k places, if there may be one.
abbrev pub Measured : ℕ → Option ℕ → Type 0
Measured k (Some n) = (fits k ≡ true) × (n ≡ k) × (0 < n) × Sized k
Measured k None = (fits k ≡ false) × (Sized k → ⊥)

-- A refusal has a number and tells the length of the table.
pub data Verdict : Type 0 where
  accepted : Verdict
  refused : ℕ → ℕ → Verdict

abbrev pub number : TableFault → ℕ
number (Length n) = 11

abbrev pub told_length : TableFault → ℕ
told_length (Length n) = n

-- A refusal in words.
abbrev pub sentence : TableFault → List ℕ
sentence (Length n) = codes "no chip has " ++ decimal n ++ codes " places: a power of two from 2 to 32,768 is asked"

abbrev pub verdict : {X : Type 0} → Result X TableFault → Verdict
verdict (Ok x) = accepted
verdict (Err f) = refused (number f) (told_length f)

pub record Checked (places : ℕ) (v : Verdict) : Type 0 where
  pub lawful : Sized places → v ≡ accepted
  pub unlawful : (Sized places → ⊥) → v ≡ refused 11 places
