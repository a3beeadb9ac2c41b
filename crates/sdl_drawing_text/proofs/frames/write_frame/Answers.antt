use Rattle.std.proofs.KnownBytes.{Appends-trans}
use Rattle.sdl_svg.proofs.Texts.{on_ok}
use Rattle.sdl_drawing_text.proofs.frames.write_frame.Goals as goal

pub returns : goal.returns
returns g c =
    let part_1 = Appends-trans _ _ _ _ _ c.in_ok-open_frame.ensures c.in_ok-write_agent.ensures in
    let part_2 = Appends-trans _ _ _ _ _ part_1 c.in_ok-write_rect.ensures in
    on_ok c.close_frame.result _ _ (λ last. Appends-trans _ _ _ _ _ part_2 last) c.close_frame.ensures
