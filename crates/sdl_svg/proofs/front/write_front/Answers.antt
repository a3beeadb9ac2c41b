use Rattle.std.proofs.KnownBytes.{Appends-trans}
use Rattle.sdl_svg.proofs.Texts.{on_ok}
use Rattle.sdl_svg.proofs.front.write_front.Goals as goal

pub returns : goal.returns
returns g c =
    let part_1 = Appends-trans _ _ _ _ _ c.in_ok-write_root.ensures c.in_ok-write_text.ensures in
    on_ok c.write_sheet.result _ _ (λ last. Appends-trans _ _ _ _ _ part_1 last) c.write_sheet.ensures
