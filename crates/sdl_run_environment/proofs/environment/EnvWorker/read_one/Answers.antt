use Rattle.std.proofs.Common.{◌≡◌, ℕ, ◌++◌, ◌∷◌, [], None, length, ap, sym, ◌∙◌, subst, rules, arith}
use Rattle.sdl_signal.specs.Environment.{Reading, HasCarried}
use Rattle.sdl_run_outcome.specs.EnvironmentWork.{EnvWorking, IsOutputOf}
use Rattle.sdl_run_environment.proofs.EnvReading.{read_line_more}
use Rattle.sdl_run_environment.proofs.environment.EnvWorker.read_one.Goals as goal

pub returns-in-Line-clause-reading : goal.returns-in-Line-clause-reading
returns-in-Line-clause-reading g c = λ start read.
    let names = c.args.names.now in
    let routes = c.args.routes.now in
    let old = c.args.self.now in
    let line = c.in-Line.line in
    let out = c.output_of-out.result in
    let new : EnvWorking =
    record { number = c.self.inside.number; reading = c.next.new.self; ended = c.self.inside.ended; put = c.push_reserved.new.self.items; outgoing = c.send.new.hand.outgoing.items; received = c.self.inside.received.items; output = c.self.inside.output } in
    let none : c.self.inside.ended ≡ None = search rules in
    let reading : c.deref_mut.result.now ≡ old.reading = c.deref_mut.ensures.value ∙ ap (λ (w : EnvWorking). w.reading) c.self.view_is in
    let was : c.self.inside.put.items ≡ old.put = ap (λ (w : EnvWorking). w.put) c.self.view_is in
    let put : c.push_reserved.new.self.items ≡ old.put ++ out ∷ [] = c.push_reserved.ensures.items ∙ ap (λ items. items ++ out ∷ []) (c.reserve.ensures.items ∙ was) in
    let items : c.reserve.new.self.items ≡ old.put = c.reserve.ensures.items ∙ was in
    let count : c.len.result ≡ length old.put = omega (arith, c.len.ensures, c.reserve.new.self.ok.0, ap length items) in
    let number : c.self.inside.number ≡ old.number = ap (λ (w : EnvWorking). w.number) c.self.view_is in
    let one : IsOutputOf routes old.number (length old.put) line out =
    subst (λ (n : ℕ). IsOutputOf routes old.number n line out) count (subst (λ (w : ℕ). IsOutputOf routes w c.len.result line out) number c.output_of-out.ensures.output) in
    read_line_more names routes old.number start (g.R.Read.remaining c.args.input.now) (g.R.Read.remaining c.next.new.input) old new line out
    (sym (ap (λ (w : EnvWorking). w.ended) c.self.view_is) ∙ none) none put one
    (λ carried so_far. c.in-Line.ensures.reading start carried (subst (λ (r : Reading). HasCarried names start (g.R.Read.remaining c.args.input.now) r carried) (sym reading) so_far)) read
