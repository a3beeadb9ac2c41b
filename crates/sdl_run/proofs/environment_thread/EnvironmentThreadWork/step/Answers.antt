use Rattle.std.proofs.Common.{ℕ, List, Option, ◌∙◌, ap, subst, sym}
use Rattle.sdl_run.specs.Environment.{KeepsEnvironment}
use Rattle.sdl_run.proofs.Environments.{goes_over, written_out, receive_leaves}
use Rattle.sdl_run.proofs.environment_thread.EnvironmentThreadWork.step.Goals as goal

pub returns-then-is_ready-clause-keeps : goal.returns-then-is_ready-clause-keeps
returns-then-is_ready-clause-keeps g c =
    goes_over c.args.structure.now c.args.routes.now c.args.self.now.environment.now.worker c.args.self.now.environment.now.astray c.args.self.now.ends _ _ _ _ c.requires
    c.step.new.self.worker c.step.new.self.astray c.step.new.ends _ _ c.step.ensures.number c.step.ensures.keeps c.step.ensures.reading c.step.ensures.writing

pub returns-then-not-may_ask-clause-keeps : goal.returns-then-not-may_ask-clause-keeps
returns-then-not-may_ask-clause-keeps g c =
    let taken = c.receive-received in
    let kept =
    goes_over c.args.structure.now c.args.routes.now c.args.self.now.environment.now.worker c.args.self.now.environment.now.astray c.args.self.now.ends _ _ _ _ c.requires
    taken.new.self.worker taken.new.self.astray taken.new.ends _ _ taken.ensures.number taken.ensures.keeps (λ start. taken.ensures.reading start _) taken.ensures.writing in
    let out = c.lets_out.ensures in
    let flushed =
    written_out c.args.structure.now c.args.routes.now taken.new.self.worker _ taken.new.self.astray _ taken.new.ends _ _ _ _ _ _ _ kept (ap (λ e. e.now.worker) out.environment) (ap (λ e. e.now.astray) out.environment) out.ends (ap (λ i. g.I.Read.remaining i.now) out.input) out.output in
    let end = c.lets_out.new.self in
    let keeping : Option (List ℕ) → Option (List ℕ) → Type 0 =
    λ read_from written_from. KeepsEnvironment c.args.structure.now c.args.routes.now end.environment.now.worker end.environment.now.astray end.ends read_from (g.I.Read.remaining end.input.now) written_from (g.O.Write.contents end.output.now) in
    subst (λ i. keeping (g.I.Read.remaining i.value) (g.O.Write.contents end.started_output.value)) (sym out.started.0)
    (subst (λ o. keeping (g.I.Read.remaining c.args.self.now.started_input.value) (g.O.Write.contents o.value)) (sym out.started.1) flushed)

pub returns-clause-keeps : goal.returns-clause-keeps
returns-clause-keeps g c =
    let s = c.args.structure.now in
    let rows = c.args.routes.now in
    let taken = c.receive-received in
    let kept =
    goes_over s rows c.args.self.now.environment.now.worker c.args.self.now.environment.now.astray c.args.self.now.ends _ (g.I.Read.remaining c.args.self.now.input.now) _ _ c.requires
    taken.new.self.worker taken.new.self.astray taken.new.ends (g.I.Read.remaining c.args.self.now.input.now) (g.O.Write.contents taken.new.output) taken.ensures.number taken.ensures.keeps (λ start. taken.ensures.reading start _) taken.ensures.writing in
    goes_over s rows taken.new.self.worker taken.new.self.astray taken.new.ends _ _ _ _ kept
    c.step-2.new.self.worker c.step-2.new.self.astray c.step-2.new.ends _ _ c.step-2.ensures.number c.step-2.ensures.keeps c.step-2.ensures.reading c.step-2.ensures.writing

pub returns-then-is_ready-clause-hand : goal.returns-then-is_ready-clause-hand
returns-then-is_ready-clause-hand g c = λ not empty. (c.step.ensures.hand not, c.step.ensures.none not)

pub returns-then-not-may_ask-clause-hand : goal.returns-then-not-may_ask-clause-hand
returns-then-not-may_ask-clause-hand g c = λ not empty.
    let old = c.args.self.now.environment.now.worker in
    let taken = c.receive-received in
    let left =
    receive_leaves c.args.structure.now c.args.routes.now old.number old c.args.self.now.ends taken.result taken.new.self.worker taken.new.self.astray taken.new.ends
    (taken.ensures.received empty.1) not in
    let out = c.lets_out.ensures in
    (ap (λ e. e.now.worker.outgoing) out.environment ∙ (left.0 ∙ empty.0), ap (λ e. e.now.astray) out.environment ∙ left.1)

pub returns-clause-hand : goal.returns-clause-hand
returns-clause-hand g c = λ not empty. (c.step-2.ensures.hand not, c.step-2.ensures.none not)
