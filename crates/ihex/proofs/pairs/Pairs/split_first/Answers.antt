-- What stands here the check does not find: taken away, it leaves its goal open.
use Rattle.ihex.proofs.Heads.{paired_after}
use Rattle.ihex.proofs.pairs.Pairs.split_first.Goals as goal

pub invariant_of-result : goal.invariant_of-result
invariant_of-result c = record { paired = paired_after _ _ _ c.args.self.paired c.in_ok-byte.ensures.byte c.in_ok-byte.ensures.rest }
