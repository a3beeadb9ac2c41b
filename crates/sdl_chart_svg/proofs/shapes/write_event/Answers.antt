use Rattle.std.proofs.KnownBytes.{Appends-trans}
use Rattle.sdl_svg.proofs.Texts.{on_ok}
use Rattle.sdl_chart_svg.proofs.shapes.write_event.Goals as goal

pub returns : goal.returns
returns g c =
    let part_1 = Appends-trans _ _ _ _ _ c.in_ok-open_event.ensures (simp (c.as_slice.ensures.value) at c.in_ok-write_shapes.ensures) in
    on_ok c.write_text.result _ _ (λ last. Appends-trans _ _ _ _ _ part_1 last) c.write_text.ensures
