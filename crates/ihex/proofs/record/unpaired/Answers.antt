-- What stands here the check does not find: taken away, it leaves its goal open.
use Rattle.std.proofs.Common.{◌≡◌, ◌+◌, ap, ◌∙◌, inl, arith}
use Rattle.std.specs.List.{prefix_len}
use Rattle.hextext.specs.Digits.{is_digit}
use Rattle.ihex.specs.declared.fault.Reason.TheVariants.{NotADigit}
use Rattle.ihex.specs.Faults.{fault_at}
use Rattle.ihex.proofs.Runs.{run_leading, run_short}
use Rattle.ihex.proofs.record.unpaired.Goals as goal

pub returns : goal.returns
returns c =
    let digits = c.args.digits.now in
    let r = c.digit_run-run.ensures in
    let at : c.args.spot.position + 1 + c.digit_run-run.result ≡ c.args.spot.position + (1 + prefix_len is_digit digits) = omega (arith, run_leading digits _ r) in
    inl (run_short digits _ r (omega (arith, r.within)), c.refused-2.ensures ∙ ap (fault_at NotADigit c.args.spot.line) at)
