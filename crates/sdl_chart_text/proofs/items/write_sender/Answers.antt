use Rattle.std.proofs.KnownBytes.{Appends-trans}
use Rattle.sdl_chart_text.proofs.Written.{on_ok}
use Rattle.sdl_chart_text.proofs.items.write_sender.Goals as goal

pub returns : goal.returns
returns g c =
    on_ok c.write_pid.result _ _ (λ last. Appends-trans _ _ _ _ _ c.in_ok-write.ensures.bytes last) c.write_pid.ensures
