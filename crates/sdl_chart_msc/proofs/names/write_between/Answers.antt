use Rattle.std.proofs.KnownBytes.{Appends-trans}
use Rattle.sdl_chart_msc.proofs.Written.{on_ok}
use Rattle.sdl_chart_msc.proofs.names.write_between.Goals as goal

pub returns : goal.returns
returns g c =
    on_ok c.write.result _ _ (λ last. Appends-trans _ _ _ _ _ c.in_ok-write_name.ensures last) c.write.ensures.bytes
