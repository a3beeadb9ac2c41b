use Rattle.sdl_forward.proofs.Places.{none_further, absent, told_apart}
use Rattle.sdl_forward.proofs.hints.Hints.find.Goals as goal

pub loop-place-preserved : goal.loop-place-preserved
loop-place-preserved g c =
    none_further c.args.entries.now c.args.station c.loop-place.place c.index-entries-place.result c.loop-place-test.true c.index-entries-place.is
    (told_apart _ _ _ c.eq-in-loop-place.ensures c.if-eq-2.false) c.loop-place.invariant

pub returns : goal.returns
returns g c = absent c.args.entries.now c.args.station c.loop-place.place c.loop-place-test.false c.loop-place.invariant
