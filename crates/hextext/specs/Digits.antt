-- Hexadecimal digits, pairs of them, and the bytes that they write.
use Rattle.std.specs.Prelude.{◌≡◌, ℕ, ◌+◌, ◌-◌, ◌*◌, ◌<◌, ◌≤◌, Bool, true, false, cond, List, [], ◌∷◌, length, is_some, Some, None, Option, ◌≢◌, nat_lt, slice_index, All}
use Rattle.std.specs.Option.{unwrap_or}
use Rattle.std.specs.Int.{is_in_range}

-- 0 to 9, A to F and a to f are digits, and nothing else is
unfoldable pub digit_value : ℕ → Option ℕ
digit_value b =
    cond (is_in_range 48 57 b) (Some (b - 48)) (cond (is_in_range 65 70 b) (Some (b - 55)) (cond (is_in_range 97 102 b) (Some (b - 87)) None))

-- how the table of digits holds them: 255 for what is none
pub record Coded (b code : ℕ) : Type 0 where
  pub other : code ≡ 255 → digit_value b ≡ None
  pub digit : (code ≢ 255) → (digit_value b ≡ Some code) × (code < 16)

abbrev pub is_digit : ℕ → Bool
is_digit b = is_some (digit_value b)

abbrev pub Digits : List ℕ → Type 0
Digits xs = All (λ b. is_digit b ≡ true) xs

-- the byte that two bytes write, if both are digits
abbrev pub joined : Option ℕ → Option ℕ → Option ℕ
joined None low = None
joined (Some high) None = None
joined (Some high) (Some low) = Some (high * 16 + low)

abbrev pub pair : ℕ → ℕ → Option ℕ
pair high low = joined (digit_value high) (digit_value low)

-- the byte that the first two digits of a text write
abbrev pub front : List ℕ → Option ℕ
front xs = cond (nat_lt (length xs) 2) None (pair (slice_index xs 0) (slice_index xs 1))

-- the bytes that digits write, two digits to a byte
abbrev pub bytes_of : List ℕ → List ℕ
bytes_of [] = []
bytes_of (high ∷ []) = []
bytes_of (high ∷ low ∷ rest) = unwrap_or (pair high low) 0 ∷ bytes_of rest

-- the first n bytes are digits, and the next, if there is one, is none
pub record Run (xs : List ℕ) (n : ℕ) : Type 0 where
  pub within : n ≤ length xs
  pub digits : (k : ℕ) → k < n → is_digit (slice_index xs k) ≡ true
  pub stops : n < length xs → is_digit (slice_index xs n) ≡ false
