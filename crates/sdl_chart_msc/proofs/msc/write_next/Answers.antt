use Rattle.std.proofs.KnownBytes.{Appends-trans}
use Rattle.sdl_chart_msc.proofs.Written.{on_ok}
use Rattle.sdl_chart_msc.proofs.msc.write_next.Goals as goal

pub returns : goal.returns
returns g c =
    on_ok c.write_head.result _ _ (λ last. Appends-trans _ _ _ _ _ c.in_ok-write_foot.ensures last) c.write_head.ensures
