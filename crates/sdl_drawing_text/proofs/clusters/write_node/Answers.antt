use Rattle.std.proofs.KnownBytes.{Appends-trans}
use Rattle.sdl_svg.proofs.Texts.{on_ok}
use Rattle.sdl_drawing_text.proofs.clusters.write_node.Goals as goal

pub returns : goal.returns
returns g c = on_ok c.write_text.result _ _ (λ last. Appends-trans _ _ _ _ _ c.in_ok-open_node.ensures last) c.write_text.ensures
