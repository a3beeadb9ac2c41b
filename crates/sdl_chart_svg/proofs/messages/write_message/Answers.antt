use Rattle.std.proofs.KnownBytes.{Appends-trans}
use Rattle.sdl_svg.proofs.Texts.{on_ok}
use Rattle.sdl_chart_svg.proofs.messages.write_message.Goals as goal

pub returns : goal.returns
returns g c =
    let part_1 = Appends-trans _ _ _ _ _ c.in_ok-write_item.ensures c.in_ok-write_to.ensures in
    let part_2 = Appends-trans _ _ _ _ _ part_1 c.in_ok-write_drawn.ensures in
    let part_3 = Appends-trans _ _ _ _ _ part_2 c.in_ok-write_left.ensures in
    on_ok c.write_text.result _ _ (λ last. Appends-trans _ _ _ _ _ part_3 last) c.write_text.ensures
