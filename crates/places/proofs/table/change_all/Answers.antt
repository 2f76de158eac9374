-- What stands here the check does not find: taken away, it leaves its goal open.
use Rattle.places.proofs.Tables.{front_next}
use Rattle.places.proofs.table.change_all.Goals as goal

pub places-preserved : goal.places-preserved
places-preserved g c = λ f h.
    front_next f c.places.table c.args.table.now c.places.place-index c.place-item.result c.change.new.arg2 c.places.auto.table c.places-test.true (h _ _ c.change.ensures) (c.places.invariant f h)
