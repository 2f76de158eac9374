-- Digits in pairs.
use Rattle.std.specs.Prelude.{◌≡◌, ℕ, ◌+◌, ◌%◌, List, ◌∷◌, length, drop}
use Rattle.hextext.specs.Digits.{Digits, bytes_of}

-- pairs of digits, and nothing else
pub record Paired (digits : List ℕ) : Type 0 where
  pub spelt : Digits digits
  pub even : length digits % 2 ≡ 0

-- the first byte that pairs of digits write, and the pairs after it
pub record Taken (digits : List ℕ) (byte : ℕ) (rest : List ℕ) : Type 0 where
  pub paired : Paired rest
  pub size : length rest + 2 ≡ length digits
  pub bytes : bytes_of digits ≡ byte ∷ bytes_of rest
  pub rest_is : rest ≡ drop 2 digits
