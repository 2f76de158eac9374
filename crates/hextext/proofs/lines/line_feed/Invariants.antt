use Rattle.std.proofs.Common.{◌≡◌, ◌+◌, ◌-◌, ◌≤◌, length, drop}
use Rattle.hextext.specs.Lines.{before_feed}
use Rattle.hextext.proofs.lines.line_feed.Given as goal

-- the first LF is not among the bytes that were looked at
abbrev pub invariant-chunks : goal.invariant-chunks
invariant-chunks l = (l.at ≤ length l.text) × (l.at + before_feed (drop l.at l.text) ≡ before_feed l.text)

abbrev pub decreases-chunks : goal.decreases-chunks
decreases-chunks l = length l.text - l.at
