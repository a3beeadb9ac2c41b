use Rattle.std.proofs.KnownBytes.{Appends-trans}
use Rattle.sdl_chart_msc.proofs.Written.{on_ok}
use Rattle.sdl_chart_msc.proofs.msc.write_head.Goals as goal

pub returns : goal.returns
returns g c =
    let part_1 = Appends-trans _ _ _ _ _ c.in_ok-write.ensures.bytes c.in_ok-write_pid.ensures in
    on_ok c.write_process.result _ _ (λ last. Appends-trans _ _ _ _ _ part_1 last) c.write_process.ensures
