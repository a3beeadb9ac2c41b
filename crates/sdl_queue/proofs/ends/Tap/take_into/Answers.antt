use Rattle.std.proofs.Common.{sym, subst}
use Rattle.sdl_queue.specs.Rule.{IsTap}
use Rattle.sdl_queue.proofs.Lines.{takes}
use Rattle.sdl_queue.proofs.ends.Tap.take_into.Goals as goal

pub try_pop_from-requires-clause-rule : goal.try_pop_from-requires-clause-rule
try_pop_from-requires-clause-rule g c =
    let same = c.head-head.ensures.1.0 in
    (takes _ _ (subst IsTap (sym same.2) c.self.invariant.1.0), λ items views r at. tt)
