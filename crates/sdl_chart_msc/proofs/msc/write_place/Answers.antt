use Rattle.std.proofs.KnownBytes.{Appends-trans}
use Rattle.sdl_chart_msc.proofs.Written.{on_ok}
use Rattle.sdl_chart_msc.proofs.msc.write_place.Goals as goal

pub returns : goal.returns
returns g c =
    on_ok c.write_acts.result _ _ (λ last. Appends-trans _ _ _ _ _ c.in_ok-write_joint.ensures last) c.write_acts.ensures
