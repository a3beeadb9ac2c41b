use Rattle.std.proofs.KnownBytes.{Appends-trans}
use Rattle.sdl_chart_text.proofs.Written.{on_ok}
use Rattle.sdl_chart_text.proofs.events.write_implicit.Goals as goal

pub returns : goal.returns
returns g c =
    on_ok c.write.result _ _ (λ last. Appends-trans _ _ _ _ _ c.in_ok-write_consumed.ensures last) c.write.ensures.bytes
