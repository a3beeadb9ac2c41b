use Rattle.std.proofs.KnownBytes.{Appends-trans}
use Rattle.sdl_svg.proofs.Texts.{on_ok}
use Rattle.sdl_drawing_text.proofs.svg.write_names.Goals as goal

pub returns : goal.returns
returns g c =
    let part_1 = Appends-trans _ _ _ _ _ c.in_ok-write_titles.ensures c.in_ok-write_gate_names.ensures in
    let part_2 = Appends-trans _ _ _ _ _ part_1 c.in_ok-write_rows.ensures in
    on_ok c.write_channel_names.result _ _ (λ last. Appends-trans _ _ _ _ _ part_2 last) c.write_channel_names.ensures
