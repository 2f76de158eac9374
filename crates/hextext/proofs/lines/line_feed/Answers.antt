-- What stands here the check does not find: taken away, it leaves its goal open.
use Rattle.std.proofs.Common.{◌≤◌, eqb, length, take, drop, ap, ◌∙◌, arith, length-drop, w8, Some, None}
use Rattle.std.proofs.lemmas.Simd.{bitmask_splat}
use Rattle.std.proofs.lemmas.List.{take_rest, length-take-le, drop-drop}
use Rattle.hextext.specs.Lines.{before_feed}
use Rattle.hextext.proofs.Scans.{none_found, found}
use Rattle.hextext.proofs.Splits.{at_first_feed, splits, only}
use Rattle.hextext.proofs.lines.line_feed.Goals as goal

pub returns-then-feeds-ne0 : goal.returns-then-feeds-ne0
returns-then-feeds-ne0 c =
    let text = c.args.text.now in
    let left = drop c.chunks.at text in
    let size = length-drop c.chunks.at text in
    let long : 16 ≤ length left = omega arith in
    let mask = bitmask_splat w8 eqb (take 16 left) 16 10 (length-take-le 16 left long) (omega arith) in
    let f = found (λ b. eqb b 10) 16 left (omega arith) long _ mask (omega arith) in
    record {
      found = (omega (arith, f.1), omega (arith, f.0, c.chunks.invariant.1));
      split = splits text;
      only = only text;
    }

pub chunks-preserved : goal.chunks-preserved
chunks-preserved c =
    let text = c.args.text.now in
    let left = drop c.chunks.at text in
    let size = length-drop c.chunks.at text in
    let long : 16 ≤ length left = omega arith in
    let mask = bitmask_splat w8 eqb (take 16 left) 16 10 (length-take-le 16 left long) (omega arith) in
    let f = none_found (λ b. eqb b 10) 16 left (omega arith) long _ mask (omega arith) in
    let on = ap before_feed (drop-drop 16 c.chunks.at text) in
    (omega arith, omega (arith, f, on, c.chunks.invariant.1))

pub returns-in-Some : goal.returns-in-Some
returns-in-Some c =
    let text = c.args.text.now in
    let rest = take_rest text c.chunks.at in
    let size = ap length rest ∙ length-drop c.chunks.at text in
    let same = ap before_feed rest in
    let f = at_first_feed _ (Some c.in-Some.far) c.in-Some.ensures in
    record {
      found = (omega (arith, f.0, size), omega (arith, f.1, same, c.chunks.invariant.1));
      split = splits text;
      only = only text;
    }

pub returns-in-None : goal.returns-in-None
returns-in-None c =
    let text = c.args.text.now in
    let rest = take_rest text c.chunks.at in
    let size = ap length rest ∙ length-drop c.chunks.at text in
    let same = ap before_feed rest in
    let f = at_first_feed _ None c.in-None.ensures in
    record {
      found = omega (arith, f, same, size, c.chunks.invariant.1);
      split = splits text;
      only = only text;
    }
