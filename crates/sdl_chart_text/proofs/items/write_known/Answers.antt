use Rattle.std.proofs.KnownBytes.{Appends-trans}
use Rattle.sdl_chart_text.proofs.Written.{on_ok}
use Rattle.sdl_chart_text.proofs.items.write_known.Goals as goal

pub returns : goal.returns
returns g c =
    on_ok c.write_spot.result _ _ (λ last. Appends-trans _ _ _ _ _ c.in_ok-write_signal.ensures last) c.write_spot.ensures
