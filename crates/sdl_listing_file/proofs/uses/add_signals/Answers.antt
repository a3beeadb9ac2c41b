use Rattle.std.proofs.Common.{◌++◌, [], ◌∷◌, ap, ◌∙◌}
use Rattle.sdl_transition_behaviour.specs.declared.behaviour.Named.{Named}
use Rattle.sdl_listing_file.specs.Uses.{use_of_signal}
use Rattle.sdl_listing_file.proofs.UseLemmas.{use_more, use_all}
use Rattle.sdl_listing_file.proofs.uses.add_signals.Goals as goal

pub loop-number-preserved : goal.loop-number-preserved
loop-number-preserved c = use_more use_of_signal c.args.signals.now c.loop-number.number c.index-signals-number.result c.args.uses.now.items c.loop-number.uses.items c.push.new.self.items c.loop-number-test.true c.index-signals-number.is c.loop-number.invariant (c.in_ok-push.ensures.items ∙ ap (λ (u : Named). c.loop-number.uses.items ++ u ∷ []) c.use_of.ensures)

pub returns : goal.returns
returns c = use_all use_of_signal c.args.signals.now c.loop-number.number c.args.uses.now.items c.loop-number.uses.items c.loop-number-test.false c.loop-number.invariant
