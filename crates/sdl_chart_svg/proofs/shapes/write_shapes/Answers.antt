use Rattle.sdl_chart_svg.specs.Shapes.{shape_text}
use Rattle.sdl_chart_svg.proofs.Items.{item_next}
use Rattle.sdl_chart_svg.proofs.shapes.write_shapes.Goals as goal

pub loop-shape-preserved : goal.loop-shape-preserved
loop-shape-preserved g c =
    item_next shape_text c.args.shapes.now c.loop-shape.shape-index c.shape-item.result _ _ _
    c.loop-shape-test.true c.shape-item.is c.loop-shape.invariant c.in_ok-write_shape.ensures
