use Rattle.std.proofs.KnownBytes.{Appends-trans}
use Rattle.sdl_chart_msc.proofs.Written.{on_ok}
use Rattle.sdl_chart_msc.proofs.lines.Scene.write_turn.Goals as goal

pub returns : goal.returns
returns g c =
    let part_1 = Appends-trans _ _ _ _ _ c.in_ok-write_trigger.ensures c.in_ok-write_all_done.ensures in
    on_ok c.write_end.result _ _ (λ last. Appends-trans _ _ _ _ _ part_1 last) c.write_end.ensures
