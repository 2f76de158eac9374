-- What stands here the check does not find: taken away, it leaves its goal open.
use Rattle.std.proofs.Common.{◌≡◌, ◌-◌, length, sum, sym, ap, ◌∙◌, subst, arith, length-drop}
use Rattle.std.proofs.lemmas.List.Sums.{sum_by-cons}
use Rattle.hextext.specs.Digits.{bytes_of}
use Rattle.hextext.proofs.Pairs.{Front, front_some, bytes_front, digits_front, digits_after}
use Rattle.ihex.proofs.Heads.{front_chunk}
use Rattle.ihex.proofs.pairs.Pairs.summed.Goals as goal

pub pairs-preserved : goal.pairs-preserved
pairs-preserved c =
    let inv = c.pairs.invariant in
    let step = c.in-Some.ensures.steps in
    let rest = c.pairs.pair-iterator.rest.now in
    let after = c.next.new.self.rest.now in
    let byte = c.in_ok-byte.byte in
    let two = front_some c.in-Some.pair.now byte c.in_ok-byte.field-0-1.now c.in_ok-byte.ensures.byte c.in_ok-byte.ensures.rest in
    let f : Front rest byte after = subst (λ xs. Front xs byte after) (sym step.1.0) (front_chunk c.in-Some.pair.now after byte _ (omega (arith, step.1.1, inv.0)) two) in
    let size : length after ≡ length rest - 2 = ap length f.rest ∙ length-drop 2 rest in
    let total = ap sum (bytes_front rest byte after f) ∙ sum_by-cons (λ x. x) byte (bytes_of after) in (
      step.0 ∙ inv.0,
      λ d. inv.1 (digits_front rest byte after f d),
      λ d. digits_after rest byte after f (inv.2 d),
      omega (arith, f.long, inv.3),
      omega arith,
      omega (arith, inv.5),
    )
