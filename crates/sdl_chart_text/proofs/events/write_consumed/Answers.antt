use Rattle.std.proofs.KnownBytes.{Appends-trans}
use Rattle.sdl_chart_text.proofs.Written.{on_ok}
use Rattle.sdl_chart_text.proofs.events.write_consumed.Goals as goal

pub returns : goal.returns
returns g c =
    let part_1 = Appends-trans _ _ _ _ _ c.in_ok-write_state.ensures c.in_ok-write_known.ensures in
    on_ok c.write_sender.result _ _ (λ last. Appends-trans _ _ _ _ _ part_1 last) c.write_sender.ensures
