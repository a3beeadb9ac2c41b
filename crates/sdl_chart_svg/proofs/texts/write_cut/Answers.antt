use Rattle.std.proofs.KnownBytes.{Appends-trans}
use Rattle.sdl_svg.proofs.Texts.{on_ok}
use Rattle.sdl_chart_svg.proofs.texts.write_cut.Goals as goal

pub returns : goal.returns
returns g c =
    let part_1 = Appends-trans _ _ _ _ _ c.in_ok-write_letters.ensures c.in_ok-write_text.ensures in
    let part_2 = Appends-trans _ _ _ _ _ part_1 c.in_ok-write_letters-2.ensures in
    on_ok c.write_text-2.result _ _ (λ last. Appends-trans _ _ _ _ _ part_2 last) c.write_text-2.ensures
