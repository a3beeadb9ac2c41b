use Rattle.std.proofs.KnownBytes.{Appends-trans}
use Rattle.sdl_chart_text.proofs.Written.{on_ok}
use Rattle.sdl_chart_text.proofs.events.write_sent.Goals as goal

pub returns : goal.returns
returns g c =
    let part_1 = Appends-trans _ _ _ _ _ c.in_ok-write.ensures.bytes c.in_ok-write_signal.ensures in
    let part_2 = Appends-trans _ _ _ _ _ part_1 c.in_ok-write_whom.ensures in
    let part_3 = Appends-trans _ _ _ _ _ part_2 c.in_ok-write_over.ensures in
    on_ok c.write_left_of.result _ _ (λ last. Appends-trans _ _ _ _ _ part_3 last) c.write_left_of.ensures
