use Rattle.std.proofs.Common.{◌≡◌, ◌-◌, length}
use Rattle.ihex.proofs.Laid.{Laid}
use Rattle.ihex.proofs.image.place_all.Given as goal

-- the lines read so far lie in the image
abbrev pub invariant-records : goal.invariant-records
invariant-records l = (l.reader.text.now ≡ l.text) × Laid l.text (length l.initial.image) l.reader.line l.floor l.survey l.image

abbrev pub decreases-records : goal.decreases-records
decreases-records l = length l.text - l.reader.position
