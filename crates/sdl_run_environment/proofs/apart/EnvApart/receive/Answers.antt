use Rattle.std.proofs.Common.{◌≡◌, ℕ, None, Option, sym, ◌∙◌, subst, rules}
use Rattle.sdl_signal.specs.declared.values.Item.{Item}
use Rattle.sdl_run_environment.specs.EnvApart.{EnvWorksApart, IsEnvPuttingOut}
use Rattle.sdl_run_environment.proofs.EnvKeeps.{keeps_on}
use Rattle.sdl_run_environment.proofs.EnvNext.{unrefused}
use Rattle.sdl_run_environment.proofs.EnvReceiving.{works_receiving, takes_where_ok, hand_after_receiving, read_after_receiving}
use Rattle.sdl_run_environment.proofs.apart.EnvApart.receive.Goals as goal

pub returns-then-is_none-clause-keeps : goal.returns-then-is_none-clause-keeps
returns-then-is_none-clause-keeps g c =
    let s = c.args.structure.now in
    let rows = c.args.routes.now in
    let old = c.args.self.now.worker in
    let before = c.args.ends.now in
    let call = c.receive_one_apart-received in
    let none : c.args.self.now.astray ≡ None = search rules in
    let works =
    subst (λ (o : Option Item). EnvWorksApart s rows old.number old o before call.new.self call.new.astray call.new.ends) (sym none)
    (works_receiving s rows old.number call.result old before call.new.self call.new.astray call.new.ends call.ensures.received c.requires.keeps.sound) in
    let kept = keeps_on s rows old.number old c.args.self.now.astray before call.new.self call.new.astray call.new.ends c.requires.keeps works call.ensures.ends in
    subst (λ (n : ℕ). IsEnvPuttingOut s rows n call.new.self call.new.astray call.new.ends) (sym kept.sound.number) kept

pub returns-then-is_none-clause-reading : goal.returns-then-is_none-clause-reading
returns-then-is_none-clause-reading g c = λ start now.
    let call = c.receive_one_apart-received in
    let old = c.args.self.now.worker in
    read_after_receiving c.args.structure.now c.args.routes.now old.number old.number start now call.result old c.args.ends.now call.new.self call.new.astray call.new.ends call.ensures.received

pub returns-then-is_none-clause-received : goal.returns-then-is_none-clause-received
returns-then-is_none-clause-received g c = λ none. (c.receive_one_apart-received.result, c.answer_of.ensures, c.receive_one_apart-received.ensures.received)

pub returns-then-is_none-clause-taken : goal.returns-then-is_none-clause-taken
returns-then-is_none-clause-taken g c = λ not.
    let call = c.receive_one_apart-received in
    let old = c.args.self.now.worker in
    let taken =
    takes_where_ok c.args.structure.now c.args.routes.now old.number call.new.room.value call.result old c.args.ends.now call.new.self call.new.astray call.new.ends call.ensures.received call.ensures.room in
    unrefused call.result taken (λ e. not (c.answer_of.ensures ∙ e))

pub returns-then-is_none-clause-hand : goal.returns-then-is_none-clause-hand
returns-then-is_none-clause-hand g c =
    let call = c.receive_one_apart-received in
    let old = c.args.self.now.worker in
    hand_after_receiving c.args.structure.now c.args.routes.now old.number call.result old c.args.ends.now call.new.self call.new.astray call.new.ends call.ensures.received
