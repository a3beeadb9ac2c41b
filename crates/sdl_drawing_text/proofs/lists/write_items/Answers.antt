use Rattle.std.proofs.Common.{arith}
use Rattle.sdl_drawing_text.specs.Lists.{item_text}
use Rattle.sdl_drawing_text.proofs.Items.{items_next, items_all}
use Rattle.sdl_drawing_text.proofs.lists.write_items.Goals as goal

pub loop-place-preserved : goal.loop-place-preserved
loop-place-preserved g c =
    (items_next (item_text c.args.structure.now c.args.signals.now) c.args.from c.loop-place.place _ _ _ (omega arith) c.loop-place.invariant.0 c.in_ok-write_item.ensures, omega arith)

pub returns : goal.returns
returns g c =
    items_all (item_text c.args.structure.now c.args.signals.now) c.args.from c.loop-place.place c.args.end _ _
    c.loop-place-test.false c.loop-place.invariant.1 c.loop-place.invariant.0
