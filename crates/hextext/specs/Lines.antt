-- How a text falls into lines. A line ends in LF, in CR LF, or where the text ends.
use Rattle.std.specs.Prelude.{◌≡◌, ℕ, zero, suc, ◌+◌, ◌-◌, cond, not, ◌&&◌, ◌⊎◌, List, [], ◌∷◌, ◌++◌, length, take, ◌==◌, ◌≢◌, nat_lt, slice_index, All}
use Rattle.std.specs.List.{prefix_len, between}

-- how many bytes stand before the first LF
abbrev pub before_feed : List ℕ → ℕ
before_feed xs = prefix_len (λ b. not (b == 10)) xs

-- without a CR at the end
abbrev pub chomped : List ℕ → List ℕ
chomped xs = cond (nat_lt 0 (length xs) && slice_index xs (length xs - 1) == 13) (take (length xs - 1) xs) xs

-- the first line, without its end
abbrev pub line_of : List ℕ → List ℕ
line_of xs = cond (nat_lt (before_feed xs) (length xs)) (chomped (take (before_feed xs) xs)) xs

-- what follows the first line and its end
abbrev pub after_line : List ℕ → List ℕ
after_line xs = between (before_feed xs + 1) (length xs) xs

-- what is left of a text after its first n lines
abbrev pub from_line : List ℕ → ℕ → List ℕ
from_line text zero = text
from_line text (suc n) = after_line (from_line text n)

-- line n, counted from 0
abbrev pub line : List ℕ → ℕ → List ℕ
line text n = line_of (from_line text n)

-- the position at which line n starts, or the text's length where it has no such line
abbrev pub start : List ℕ → ℕ → ℕ
start text n = length text - length (from_line text n)

-- the ways in which a line ends, with what then follows it in xs
abbrev pub EndsInFeed : List ℕ → List ℕ → List ℕ → Type 0
EndsInFeed xs line rest = (xs ≡ line ++ (10 ∷ rest)) × (slice_index line (length line - 1) ≢ 13)

abbrev pub EndsInReturnFeed : List ℕ → List ℕ → List ℕ → Type 0
EndsInReturnFeed xs line rest = xs ≡ line ++ (13 ∷ (10 ∷ rest))

abbrev pub EndsWithText : List ℕ → List ℕ → List ℕ → Type 0
EndsWithText xs line rest = (xs ≡ line) × (rest ≡ [])

-- the first line of xs, which has no LF in it, and what follows it
pub record Split (xs line rest : List ℕ) : Type 0 where
  pub unbroken : All (λ b. b ≢ 10) line
  pub ended : EndsInFeed xs line rest ⊎ (EndsInReturnFeed xs line rest ⊎ EndsWithText xs line rest)

-- no other split of xs is one
abbrev pub OnlySplit : List ℕ → List ℕ → List ℕ → Type 0
OnlySplit xs line rest = (l r : List ℕ) → Split xs l r → (l ≡ line) × (r ≡ rest)
