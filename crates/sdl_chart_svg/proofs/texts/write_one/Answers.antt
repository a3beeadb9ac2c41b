use Rattle.std.proofs.KnownBytes.{Appends-trans}
use Rattle.sdl_svg.proofs.Texts.{on_ok}
use Rattle.sdl_chart_svg.proofs.texts.write_one.Goals as goal

pub returns : goal.returns
returns g c =
    let part_1 = Appends-trans _ _ _ _ _ (simp (c.style_of.ensures) at c.in_ok-open_text.ensures) (simp (c.as_str.ensures.value) at c.in_ok-write_words.ensures) in
    on_ok c.close_text.result _ _ (λ last. Appends-trans _ _ _ _ _ part_1 last) c.close_text.ensures
