use Rattle.std.proofs.KnownBytes.{Appends-trans}
use Rattle.sdl_svg.proofs.Texts.{on_ok}
use Rattle.sdl_drawing_text.proofs.channels.write_line.Goals as goal

pub returns : goal.returns
returns g c =
    let part_1 = Appends-trans _ _ _ _ _ c.in_ok-write_polyline.ensures c.in_ok-write_head.ensures in
    on_ok c.write_head-2.result _ _ (λ last. Appends-trans _ _ _ _ _ part_1 last) c.write_head-2.ensures
