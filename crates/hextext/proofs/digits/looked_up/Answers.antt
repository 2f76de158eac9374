-- The table is the rule of digits computed at each of the 256 bytes: antt computes both, and finds them the same.
use Rattle.std.proofs.Common.{ℕ, ◌<◌, unwrap_or, ap, ◌∙◌, zero-add, arith}
use Rattle.std.proofs.lemmas.List.FromFn.{get_or-map-range_with_len}
use Rattle.hextext.specs.Digits.{digit_value}
use Rattle.hextext.proofs.Pairs.{coded}
use Rattle.hextext.proofs.digits.looked_up.Goals as goal

pub returns : goal.returns
unfolding digit_value
returns c =
    let at = c.from.result in
    let within : at < 256 = omega (arith, c.from.ensures) in
    let value = λ (b : ℕ). unwrap_or (digit_value b) 255 in
    coded c.args.byte _ (get_or-map-range_with_len value 0 256 at at 0 within (zero-add at) ∙ ap value c.from.ensures)
