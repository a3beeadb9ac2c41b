use Rattle.std.proofs.Common.{◌++◌, ◌∷◌, [], List, ap, sym, ◌∙◌, add-one}
use Rattle.sdl_forward_ends.specs.Ends.{WorkerEnds, no_ends}
use Rattle.sdl_forward_opening.specs.Hands.{all_empty}
use Rattle.sdl_forward_opening.proofs.Distributing.{empty_more}
use Rattle.sdl_forward_opening.proofs.shares.no_shares.Goals as goal

pub loop-preserved : goal.loop-preserved
loop-preserved c =
    c.in_ok-push.ensures.items
    ∙ (ap (λ (e : WorkerEnds). c.loop.shares.items ++ e ∷ []) c.new.ensures
    ∙ (ap (λ (es : List WorkerEnds). es ++ no_ends ∷ []) c.loop.invariant ∙ (sym (empty_more c.loop.counter) ∙ ap all_empty (sym (add-one c.loop.counter)))))
