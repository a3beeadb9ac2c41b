use Rattle.std.proofs.KnownBytes.{Appends-trans}
use Rattle.sdl_svg.proofs.Texts.{on_ok}
use Rattle.sdl_chart_svg.proofs.svg.write_heading.Goals as goal

pub returns : goal.returns
returns g c =
    let part_1 = Appends-trans _ _ _ _ _ c.in_ok-write_title.ensures c.in_ok-write_part.ensures in
    on_ok c.write_text.result _ _ (λ last. Appends-trans _ _ _ _ _ part_1 last) c.write_text.ensures
