use Rattle.std.proofs.KnownBytes.{Appends-trans}
use Rattle.sdl_svg.proofs.Texts.{on_ok}
use Rattle.sdl_chart_svg.proofs.texts.write_words.Goals as goal

pub returns : goal.returns
returns g c = on_ok c.write_shown.result _ _ (λ last. Appends-trans _ _ _ _ _ (simp (c.sign_of.ensures) at c.in_ok-write_text.ensures) last) c.write_shown.ensures
