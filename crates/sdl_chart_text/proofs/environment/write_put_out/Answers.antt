use Rattle.std.proofs.KnownBytes.{Appends-trans}
use Rattle.sdl_chart_text.proofs.Written.{on_ok}
use Rattle.sdl_chart_text.proofs.environment.write_put_out.Goals as goal

pub returns : goal.returns
returns g c =
    let part_1 = Appends-trans _ _ _ _ _ c.in_ok-write_start_gate.ensures c.in_ok-write_signal.ensures in
    let part_2 = Appends-trans _ _ _ _ _ part_1 c.in_ok-write_to.ensures in
    on_ok c.write_left_of.result _ _ (λ last. Appends-trans _ _ _ _ _ part_2 last) c.write_left_of.ensures
