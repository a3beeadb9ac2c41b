use Rattle.sdl_chart_svg.specs.Texts.{text_text}
use Rattle.sdl_chart_svg.proofs.Items.{item_next}
use Rattle.sdl_chart_svg.proofs.texts.write_texts.Goals as goal

pub loop-text-preserved : goal.loop-text-preserved
loop-text-preserved g c =
    item_next text_text c.args.texts.now c.loop-text.text-index c.text-item.result _ _ _
    c.loop-text-test.true c.text-item.is c.loop-text.invariant c.in_ok-write_one.ensures
