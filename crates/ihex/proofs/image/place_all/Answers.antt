-- What stands here the check does not find: taken away, it leaves its goal open.
use Rattle.std.proofs.Common.{◌≡◌, ◌+◌, Some, ap, ◌∙◌, subst, arith}
use Rattle.std.proofs.lemmas.Result.{err_from_is_err_and}
use Rattle.hextext.specs.Lines.{start}
use Rattle.ihex.specs.declared.record.Record.TheVariants.{Data, End}
use Rattle.ihex.specs.Reads.{Shown}
use Rattle.ihex.specs.Steps.{Noted}
use Rattle.ihex.specs.declared.fault.Reason.TheVariants.{AfterEnd}
use Rattle.ihex.specs.Faults.{fault_at}
use Rattle.ihex.specs.Files.{Closes}
use Rattle.ihex.proofs.Laid.{laid_more, total_below}
use Rattle.ihex.proofs.Turns.{shown_of, closes_of, moved_of, start_less, refused_line, refused_put, refused_more, accepted}
use Rattle.ihex.proofs.image.place_all.Goals as goal
use Rattle.ihex.proofs.image.place_all.Goals.{In-Some-Data, In-Some-End}

pub returns-in_err-place : goal.returns-in_err-place
returns-in_err-place c =
    let inv = c.records.invariant in
    let p = err_from_is_err_and c.from_residual.result c.from_residual.ensures.1 in
    let e = c.in_err-place.field-0.0 in
    rw (p.1, p.2) (refused_line inv.1 c.records.reader.text.now e inv.0 c.in_err-place.ensures.answer)

-- at a data record
is_data : (c : In-Some-Data) → c.in_ok-place.field-0 ≡ Some (Data c.in-Some-Data.place c.in-Some-Data.pairs)
is_data c = cc

shown : (c : In-Some-Data) → Shown c.args.text.now c.records.reader.line c.in-Some-Data.place c.in-Some-Data.pairs.digits.now
shown c =
    shown_of c.records.reader.text.now c.args.text.now c.records.reader.line c.in_ok-place.field-0 c.records.invariant.0 c.in_ok-place.ensures.answer c.in-Some-Data.place c.in-Some-Data.pairs (is_data c)

moved : (c : In-Some-Data) → c.next.new.self.line ≡ c.records.reader.line + 1
moved c = moved_of c.records.reader.line _ c.in_ok-place.field-0 _ (is_data c) c.in_ok-place.ensures.moves

same_text : (c : In-Some-Data) → c.next.new.self.text.now ≡ c.args.text.now
same_text c = ap (λ x. x.now) c.in_ok-place.ensures.same ∙ c.records.invariant.0

-- where the reader stood, and where it stands
stood : (c : In-Some-Data) → c.records.reader.position ≡ start c.args.text.now c.records.reader.line
stood c = c.records.reader.at ∙ ap (λ t. start t c.records.reader.line) c.records.invariant.0

stands : (c : In-Some-Data) → c.next.new.self.position ≡ start c.args.text.now (c.records.reader.line + 1)
stands c = c.in_ok-place.ensures.stands ∙ ap (λ t. start t c.next.new.self.line) (same_text c) ∙ ap (start c.args.text.now) (moved c)

pub returns-in_err-floor-in-Some-Data : goal.returns-in_err-floor-in-Some-Data
returns-in_err-floor-in-Some-Data c =
    let at = (goal.at.returns-in_err-floor-in-Some-Data c).In-Some-Data in
    let p = err_from_is_err_and c.from_residual-in_err-floor-in-Some-Data.result c.from_residual-in_err-floor-in-Some-Data.ensures.1 in
    let e = c.in_err-floor-in-Some-Data.field-0.0 in
    rw (p.1, p.2) (refused_put c.records.invariant.1 c.in-Some-Data.place c.spot-spot.result.line c.spot-spot.result.position c.in-Some-Data.pairs.digits.now c.put.new.image e (shown at) c.spot-spot.ensures.line (c.spot-spot.ensures.position ∙ stood at) c.in_err-floor-in-Some-Data.ensures)

pub with-survey-requires-clause-bytes : goal.with-survey-requires-clause-bytes
with-survey-requires-clause-bytes c =
    let l = c.records.invariant.1 in
    let low = total_below _ _ c.records.reader.line l.before in
    let put = c.in_ok-floor-in-Some-Data.ensures in
    omega (arith, l.surveyed.bytes, low, l.floor_is, put.0, put.1, put.2, l.long, c.requires.image_limit)

pub records-smaller : goal.records-smaller
records-smaller c =
    let at = (goal.at.records-smaller c).In-Some-Data in
    let less = start_less c.args.text.now c.records.reader.line (shown at).there in
    let was = stood at in
    let is = stands at in
    omega arith

pub records-preserved : goal.records-preserved
records-preserved c =
    let at = (goal.at.records-preserved c).In-Some-Data in
    let digits = c.in-Some-Data.pairs.digits.now in (
      same_text at,
      rw (moved at) (laid_more c.records.invariant.1 (shown at) c.in_ok-floor-in-Some-Data.ensures (omega arith) (subst (λ n. Noted c.records.survey c.in-Some-Data.place n c.with-survey.result) c.len.ensures c.with-survey.ensures)),
    )

-- at an end record
is_end : (c : In-Some-End) → c.in_ok-place.field-0 ≡ Some End
is_end c = cc

closes : (c : In-Some-End) → Closes c.args.text.now c.records.reader.line
closes c = closes_of c.records.reader.text.now c.args.text.now c.records.reader.line c.in_ok-place.field-0 c.records.invariant.0 c.in_ok-place.ensures.answer (is_end c)

ended : (c : In-Some-End) → c.next.new.self.line ≡ c.records.reader.line + 1
ended c = moved_of c.records.reader.line _ c.in_ok-place.field-0 _ (is_end c) c.in_ok-place.ensures.moves

ends : (c : In-Some-End) → c.next.new.self.position ≡ start c.args.text.now c.next.new.self.line
ends c = c.in_ok-place.ensures.stands ∙ ap (λ t. start t c.next.new.self.line) (ap (λ x. x.now) c.in_ok-place.ensures.same ∙ c.records.invariant.0)

pub returns-then-reader-text : goal.returns-then-reader-text
returns-then-reader-text c =
    let at = (goal.at.returns-then-reader-text c).In-Some-End in
    let named = ap (λ n. fault_at AfterEnd n c.spot.result.position) c.spot.ensures.line ∙ ap (fault_at AfterEnd (c.next.new.self.line + 1)) c.spot.ensures.position in
    refused_more c.records.invariant.1 c.next.new.self.line c.next.new.self.position c.refused.result (closes at) (ended at) (ends at) (omega arith) (c.refused.ensures ∙ named)

pub returns-in-Some-End : goal.returns-in-Some-End
returns-in-Some-End c =
    let at = (goal.at.returns-in-Some-End c).In-Some-End in
    accepted c.records.invariant.1 c.next.new.self.line c.next.new.self.position (closes at) (ended at) (ends at) (omega arith)
