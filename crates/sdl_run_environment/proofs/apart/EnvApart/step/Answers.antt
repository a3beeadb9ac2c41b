use Rattle.std.proofs.Common.{◌≡◌, None, Option, sym, ◌∙◌, subst, refl, rules}
use Rattle.sdl_signal.specs.declared.values.Item.{Item}
use Rattle.sdl_block_hand.specs.Puts.{answer_of}
use Rattle.sdl_run_environment.specs.EnvApart.{EnvStepsApart}
use Rattle.sdl_run_environment.proofs.EnvNext.{unrefused}
use Rattle.sdl_run_environment.proofs.EnvKeeps.{keeps_step, works_none}
use Rattle.sdl_run_environment.proofs.apart.EnvApart.step.Goals as goal

pub returns-clause-hand : goal.returns-clause-hand
returns-clause-hand g c = λ not. (unrefused c.try_step.result c.try_step.ensures.on (λ e. not (c.answer_of.ensures ∙ e))).0.hand

pub returns-clause-read : goal.returns-clause-read
returns-clause-read g c = λ not. (unrefused c.try_step.result c.try_step.ensures.on (λ e. not (c.answer_of.ensures ∙ e))).0.read

pub returns-clause-none : goal.returns-clause-none
returns-clause-none g c = λ not. (unrefused c.try_step.result c.try_step.ensures.on (λ e. not (c.answer_of.ensures ∙ e))).1

pub returns-clause-taken : goal.returns-clause-taken
returns-clause-taken g c = λ not. unrefused c.try_step.result c.try_step.ensures.taken (λ e. not (c.answer_of.ensures ∙ e))

pub returns-then-is_some-clause-step : goal.returns-then-is_some-clause-step
returns-then-is_some-clause-step g c =
    works_none c.args.routed.structure.now c.args.routed.routes.now c.args.self.now.worker.number c.args.self.now.worker c.args.self.now.astray c.args.ends.now c.args.ends.now
    c.requires.keeps.sound c.requires.keeps.lost refl (λ t. refl)

pub returns-clause-keeps : goal.returns-clause-keeps
returns-clause-keeps g c =
    let s = c.args.routed.structure.now in
    let rows = c.args.routed.routes.now in
    let old = c.args.self.now.worker in
    let answer = answer_of c.try_step.result in
    let new = c.try_step.new.self in
    let none : c.args.self.now.astray ≡ None = search rules in
    let steps =
    subst (λ (o : Option Item). EnvStepsApart s rows old.number old o c.args.ends.now answer new.worker new.astray c.try_step.new.ends) (sym none) c.try_step.ensures.step in
    (keeps_step s rows old.number answer old c.args.self.now.astray c.args.ends.now new.worker new.astray c.try_step.new.ends steps c.requires.keeps c.try_step.ensures.ends).0
