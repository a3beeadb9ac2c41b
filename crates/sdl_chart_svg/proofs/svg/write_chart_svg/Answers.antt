use Rattle.std.proofs.KnownBytes.{Appends-trans}
use Rattle.sdl_svg.proofs.Texts.{on_ok}
use Rattle.sdl_chart_svg.proofs.svg.write_chart_svg.Goals as goal

pub returns : goal.returns
returns g c =
    let part_1 = Appends-trans _ _ _ _ _ c.in_ok-write_begin.ensures c.in_ok-write_heading.ensures in
    let part_2 = Appends-trans _ _ _ _ _ part_1 c.in_ok-write_drawn.ensures in
    on_ok c.write_legend.result _ _ (λ last. Appends-trans _ _ _ _ _ part_2 last) c.write_legend.ensures
