-- What stands here the check does not find: taken away, it leaves its goal open.
use Rattle.std.proofs.Common.{◌≡◌, length, Ok, Err, ap, ◌∙◌, arith, false-eqb}
use Rattle.std.proofs.lemmas.Result.{err_from_is_err_and}
use Rattle.hextext.specs.Lines.{line_of, after_line, from_line, line}
use Rattle.ihex.specs.Reads.{There}
use Rattle.ihex.proofs.Currents.{same_line, left_is, read_err, read_ok, after_is, after_more}
use Rattle.ihex.proofs.reader.Reader.current.Goals as goal
use Rattle.ihex.proofs.reader.Reader.current.Goals.{After-split_line}

-- past the test that something is left
there : (c : After-split_line) → There c.args.self.now.text.now c.args.self.now.line
there c =
    let self = c.args.self.now in
    let e = ap length (left_is self.text.now self.line self.position self.at) in
    let some = false-eqb _ 0 c.if-is_empty.ensures in
    omega arith

line_is : (c : After-split_line) → c.split_line.result.0.now ≡ line c.args.self.now.text.now c.args.self.now.line
line_is c = let self = c.args.self.now in c.split_line.ensures.line ∙ ap line_of (left_is self.text.now self.line self.position self.at)

rest_is : (c : After-split_line) → c.split_line.result.1.now ≡ after_line (from_line c.args.self.now.text.now c.args.self.now.line)
rest_is c = let self = c.args.self.now in c.split_line.ensures.rest ∙ ap after_line (left_is self.text.now self.line self.position self.at)

pub returns-in_err-record : goal.returns-in_err-record
returns-in_err-record c =
    let self = c.args.self.now in
    let p = err_from_is_err_and c.from_residual.result c.from_residual.ensures.1 in
    let before = (goal.at.returns-in_err-record c).After-split_line in
    let e = c.in_err-record.field-0.0 in
    rw (p.1, p.2) (read_err self.text.now self.line self.position self.at e (there before) (same_line _ _ _ _ _ _ (Err e) (line_is before) c.spot.ensures.line c.spot.ensures.position c.in_err-record.ensures))

pub returns : goal.returns
returns c =
    let self = c.args.self.now in
    let before = (goal.at.returns c).After-split_line in
    let x = c.in_ok-record.record in (
      read_ok self.text.now self.line self.position self.at x (there before) (same_line _ _ _ _ _ _ (Ok x) (line_is before) c.spot.ensures.line c.spot.ensures.position c.in_ok-record.ensures),
      after_is self.text.now self.line self.position self.at _ (rest_is before),
      (after_more self.text.now self.line self.position self.at _ (there before) (rest_is before)).0,
      omega arith,
    )
