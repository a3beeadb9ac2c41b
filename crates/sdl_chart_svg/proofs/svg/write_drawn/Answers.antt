use Rattle.std.proofs.KnownBytes.{Appends-trans}
use Rattle.sdl_svg.proofs.Texts.{on_ok}
use Rattle.sdl_chart_svg.proofs.svg.write_drawn.Goals as goal

pub returns : goal.returns
returns g c =
    let part_1 = Appends-trans _ _ _ _ _ (simp (c.as_slice.ensures.value) at c.in_ok-write_lifelines.ensures) (simp (c.as_slice-2.ensures.value) at c.in_ok-write_shapes.ensures) in
    let part_2 = Appends-trans _ _ _ _ _ part_1 (simp (c.as_slice-3.ensures.value) at c.in_ok-write_events.ensures) in
    let part_3 = Appends-trans _ _ _ _ _ part_2 (simp (c.as_slice-4.ensures.value) at c.in_ok-write_messages.ensures) in
    let part_4 = Appends-trans _ _ _ _ _ part_3 (simp (c.as_slice-5.ensures.value) at c.in_ok-write_messages-2.ensures) in
    on_ok c.write_names.result _ _ (λ last. Appends-trans _ _ _ _ _ part_4 last) (simp (c.as_slice-6.ensures.value, c.as_slice-7.ensures.value) at c.write_names.ensures)
