-- How far the digits at the front reach.
use Rattle.std.proofs.Common.{◌≡◌, ℕ, ◌<◌, List, length, sym}
use Rattle.std.specs.List.{prefix_len}
use Rattle.std.proofs.lemmas.List.Elements.{All-get_or}
use Rattle.std.proofs.lemmas.List.Sums.{prefix_len_is}
use Rattle.std.proofs.lemmas.Bool.{both_ways}
use Rattle.hextext.specs.Digits.{is_digit, Digits, Run}
use Rattle.hextext.proofs.Pairs.{IsDigit}

module _ (xs : List ℕ) (n : ℕ) (run : Run xs n) where
  pub run_short : n < length xs → Digits xs → ⊥
  run_short less d = both_ways _ (run.stops less) (All-get_or IsDigit xs n 0 less d)

  pub run_leading : n ≡ prefix_len is_digit xs
  run_leading = sym (prefix_len_is is_digit xs n 0 run.within run.digits run.stops)
