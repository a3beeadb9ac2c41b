use Rattle.std.proofs.Common.{◌≡◌, ℕ, List, ◌++◌, ◌∷◌, [], ap, sym, ◌∙◌, subst}
use Rattle.sdl_signal.specs.declared.ends.OutputEnd.{OutputEnd}
use Rattle.sdl_run_outcome.specs.EnvironmentWork.{EnvWorking, HasWritten, received_text}
use Rattle.sdl_run_environment.proofs.EnvWriting.{received_more}
use Rattle.sdl_run_environment.proofs.environment.EnvWorker.receive_one.Goals as goal

pub returns-clause-writing : goal.returns-clause-writing
returns-clause-writing g c = λ start wrote.
    let names = c.args.names.now in
    let routes = c.args.routes.now in
    let old = c.args.self.now in
    let item = c.in-Some.item in
    let end : c.self.inside.output ≡ old.output = ap (λ (w : EnvWorking). w.output) c.self.view_is in
    let received : c.push_reserved.new.self.items ≡ old.received ++ item ∷ [] =
    c.push_reserved.ensures.items ∙ ap (λ items. items ++ item ∷ []) (c.reserve.ensures.items ∙ ap (λ (w : EnvWorking). w.received) c.self.view_is) in
    let text : received_text names routes c.push_reserved.new.self.items ≡ received_text names routes old.received ++ received_text names routes (item ∷ []) =
    ap (received_text names routes) received ∙ received_more names routes old.received (item ∷ []) in
    subst (λ (t : List ℕ). HasWritten start (g.W.Write.contents c.write-self-inside.new.output) t c.write-self-inside.result) (sym text)
    (c.write-self-inside.ensures start (received_text names routes old.received)
    (subst (λ (e : OutputEnd). HasWritten start (g.W.Write.contents c.args.output.now) (received_text names routes old.received) e) (sym end) wrote))
