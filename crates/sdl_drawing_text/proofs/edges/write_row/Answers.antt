use Rattle.std.proofs.KnownBytes.{Appends-trans}
use Rattle.sdl_svg.proofs.Texts.{on_ok}
use Rattle.sdl_drawing_text.proofs.edges.write_row.Goals as goal

pub returns : goal.returns
returns g c = on_ok c.write_items.result _ _ (λ last. Appends-trans _ _ _ _ _ c.in_ok-write_text.ensures last) c.write_items.ensures
