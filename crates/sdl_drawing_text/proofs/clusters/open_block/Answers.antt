use Rattle.std.proofs.KnownBytes.{Appends-trans}
use Rattle.sdl_svg.proofs.Texts.{on_ok}
use Rattle.sdl_drawing_text.proofs.clusters.open_block.Goals as goal

pub returns : goal.returns
returns g c = on_ok c.write_block_label.result _ _ (λ last. Appends-trans _ _ _ _ _ c.in_ok-open_cluster.ensures last) c.write_block_label.ensures
