-- What stands here the check does not find: taken away, it leaves its goal open.
use Rattle.std.proofs.Common.{◌≡◌, ◌+◌, ◌*◌, length, take, drop, refl, ap, ◌∙◌, arith}
use Rattle.std.proofs.lemmas.List.{take_rest}
use Rattle.ihex.specs.declared.fault.Reason.TheVariants.{WrongSum, UnknownType}
use Rattle.ihex.specs.Rules.{Colon, Formed}
use Rattle.ihex.proofs.Judged.{broken_read, spelt_is, sized_is, summed_is, formed, count_is, kind_is, place_is, digits_are, unpaired_read}
use Rattle.ihex.proofs.record.read_record.Goals as goal
use Rattle.ihex.proofs.record.read_record.Goals.{In-58, In-Some-split, Else-len-count, Else-sum-ne0, in_default-kind-via-in-1+else-count-eq0, in_default-kind-via-in_default-1}

colon : (c : In-58) → Colon c.args.line.now
colon c = omega arith

-- the pairs of a line are what follows its colon
is : (c : In-Some-split) → c.in-Some.pairs.digits.now ≡ drop 1 c.args.line.now
is c = ap (λ x. x.now) c.in-Some.ensures.0 ∙ take_rest c.args.line.now 1

size : (c : Else-len-count) → length c.in-Some-split.body.digits.now ≡ 2 * c.in-Some-split.header.count + 2
size c = omega (arith, c.in-Some-split.body.paired.even)

pub returns-in_default-summed : goal.returns-in_default-summed
returns-in_default-summed c =
    unpaired_read c.args.line.now (take_rest c.args.line.now 1) c.args.spot.line c.args.spot.position c.unpaired.result (colon (goal.at.returns-in_default-summed c).In-58) c.unpaired.ensures

pub returns-then-sum-ne0 : goal.returns-then-sum-ne0
returns-then-sum-ne0 c =
    let at = goal.at.returns-then-sum-ne0 c in
    let e = is at.In-Some-split in
    let total = summed_is c.args.line.now e c.in-Some.sum c.in-Some.ensures.1 in
    broken_read c.args.line.now WrongSum _ _ _ c.refused-then-sum-ne0.ensures
    (colon at.In-58, spelt_is c.args.line.now e c.in-Some.pairs.paired.spelt, sized_is c.args.line.now e c.in-Some-split.ensures (size at.Else-len-count), λ zero. omega arith)
    refl

well : (c : Else-sum-ne0) → Colon c.args.line.now → c.in-Some.pairs.digits.now ≡ drop 1 c.args.line.now → length c.in-Some-split.body.digits.now ≡ 2 * c.in-Some-split.header.count + 2 → Formed c.args.line.now
well c start e n = formed c.args.line.now e c.in-Some-split.ensures start c.in-Some.pairs.paired.spelt n c.in-Some.sum c.in-Some.ensures.1 c.if-sum-ne0.false

pub returns-in-0 : goal.returns-in-0
returns-in-0 c =
    let at = goal.at.returns-in-0 c in
    let e = is at.In-Some-split in
    let head = c.in-Some-split.ensures in (
      record { formed = well at.Else-sum-ne0 (colon at.In-58) e (size at.Else-len-count); typed = omega (arith, kind_is c.args.line.now e head) },
      place_is c.args.line.now e head,
      c.first.ensures ∙ ap (λ k. take (2 * k) c.in-Some-split.body.digits.now) c.from-count.ensures ∙ digits_are c.args.line.now e head,
    )

pub returns-in_default-kind : goal.returns-in_default-kind
returns-in_default-kind c =
    let at = goal.at.returns-in_default-kind c in
    let e = is at.In-Some-split in
    let k = kind_is c.args.line.now e c.in-Some-split.ensures in
    let n = count_is c.args.line.now e c.in-Some-split.ensures in
    broken_read c.args.line.now UnknownType _ _ _ c.refused-in_default-kind.ensures (
      well at.Else-sum-ne0 (colon at.In-58) e (size at.Else-len-count),
      λ d. elim c.in_default-kind.branch [ in_default-kind-via-in-1+else-count-eq0 w ↦ omega (arith, d.typed) | in_default-kind-via-in_default-1 w ↦ omega (arith, d.typed) ],
      λ d. elim c.in_default-kind.branch [ in_default-kind-via-in-1+else-count-eq0 w ↦ omega (arith, d.empty) | in_default-kind-via-in_default-1 w ↦ omega (arith, d.typed) ],
    )
    refl
