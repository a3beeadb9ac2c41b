use Rattle.std.proofs.KnownBytes.{Appends-trans}
use Rattle.sdl_svg.proofs.Texts.{on_ok}
use Rattle.sdl_drawing_text.proofs.channels.write_points.Goals as goal

pub returns : goal.returns
returns g c =
    let part_1 = Appends-trans _ _ _ _ _ c.in_ok-write_corner.ensures c.in_ok-write_corner-2.ensures in
    on_ok c.write_corner-3.result _ _ (λ last. Appends-trans _ _ _ _ _ part_1 last) c.write_corner-3.ensures
