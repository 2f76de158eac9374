-- What stands here the check does not find: taken away, it leaves its goal open.
use Rattle.chip.proofs.Kept.{keeps}
use Rattle.chip.proofs.runs.places.Goals as goal

pub returns-clause-keeps : goal.returns-clause-keeps
returns-clause-keeps g c = keeps g.C.Chip.takes g.C.Chip.meaning g.met.C.Chip.lawful c.args.chip.now
