use Rattle.std.proofs.Common.{◌++◌, ◌∷◌, [], List, ap, sym, ◌∙◌}
use Rattle.sdl_forward_opening.specs.declared.worker.Worker.{Worker}
use Rattle.sdl_forward_opening.specs.declared.worker.Worker.TheVariants.{Block}
use Rattle.sdl_forward_opening.proofs.Counted.{blocks_more}
use Rattle.sdl_forward_opening.proofs.order.blocks_of.Goals as goal

pub loop-number-preserved : goal.loop-number-preserved
loop-number-preserved c =
    c.in_ok-push.ensures.items ∙ (ap (λ (ws : List Worker). ws ++ Block (record { 0 = c.loop-number.number }) ∷ []) c.loop-number.invariant ∙ sym (blocks_more c.loop-number.number))
