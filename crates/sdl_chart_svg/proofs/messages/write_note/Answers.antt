use Rattle.std.proofs.KnownBytes.{Appends-trans}
use Rattle.sdl_svg.proofs.Texts.{on_ok}
use Rattle.sdl_chart_svg.proofs.messages.write_note.Goals as goal

pub returns : goal.returns
returns g c =
    let part_1 = Appends-trans _ _ _ _ _ c.in_ok-open_reason.ensures c.in_ok-write_reason.ensures in
    on_ok c.close_text.result _ _ (λ last. Appends-trans _ _ _ _ _ part_1 last) c.close_text.ensures
