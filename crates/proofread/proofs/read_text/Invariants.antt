use Rattle.std.proofs.Common.{◌≤◌, vec_len}
use Rattle.proofread.proofs.read_text.Given as goal

abbrev pub invariant-chunks : goal.invariant-chunks
invariant-chunks l = l.length ≤ vec_len l.text
