use Rattle.std.proofs.KnownBytes.{Appends-trans}
use Rattle.sdl_chart_text.proofs.Written.{on_ok}
use Rattle.sdl_chart_text.proofs.left.write_left.Goals as goal

pub returns : goal.returns
returns g c =
    on_ok c.write_place.result _ _ (λ last. Appends-trans _ _ _ _ _ (simp (c.comma_of-comma.ensures) at c.in_ok-write.ensures.bytes) last) c.write_place.ensures
