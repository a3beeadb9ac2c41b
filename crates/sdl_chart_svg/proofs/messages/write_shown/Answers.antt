use Rattle.std.proofs.KnownBytes.{Appends-trans}
use Rattle.sdl_svg.proofs.Texts.{on_ok}
use Rattle.sdl_chart_svg.proofs.messages.write_shown.Goals as goal

pub returns : goal.returns
returns g c =
    let part_1 = Appends-trans _ _ _ _ _ (simp (c.look_of.ensures) at c.in_ok-write_way.ensures) c.in_ok-write_tip.ensures in
    on_ok c.write_texts.result _ _ (λ last. Appends-trans _ _ _ _ _ part_1 last) (simp (c.as_slice.ensures.value) at c.write_texts.ensures)
