use Rattle.std.proofs.KnownBytes.{Appends-trans}
use Rattle.sdl_chart_text.proofs.Written.{on_ok}
use Rattle.sdl_chart_text.proofs.signals.write_signal.Goals as goal

pub returns : goal.returns
returns g c =
    on_ok c.write_marked_params.result _ _ (λ last. Appends-trans _ _ _ _ _ c.in_ok-write_name.ensures last) c.write_marked_params.ensures
