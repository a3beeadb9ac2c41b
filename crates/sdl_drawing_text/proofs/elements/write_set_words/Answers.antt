use Rattle.std.proofs.KnownBytes.{Appends-trans}
use Rattle.sdl_svg.proofs.Texts.{on_ok}
use Rattle.sdl_drawing_text.proofs.elements.write_set_words.Goals as goal

pub returns : goal.returns
returns g c = on_ok c.write_counts.result _ _ (λ last. Appends-trans _ _ _ _ _ c.in_ok-write_set_name.ensures last) c.write_counts.ensures
