use Rattle.std.proofs.KnownBytes.{Appends-trans}
use Rattle.sdl_chart_msc.proofs.Written.{on_ok}
use Rattle.sdl_chart_msc.proofs.lines.Scene.write_out.Goals as goal

pub returns : goal.returns
returns g c =
    on_ok c.write_address.result _ _ (λ last. Appends-trans _ _ _ _ _ c.in_ok-write_message.ensures last) c.write_address.ensures
