use Rattle.std.proofs.Common.{◌≡◌, ℕ, List, ◌++◌, ◌∷◌, [], ap, sym, ◌∙◌, subst}
use Rattle.std.proofs.lemmas.Option.{same_Some}
use Rattle.sdl_signal.specs.Names.{Lexicon}
use Rattle.sdl_signal.specs.declared.ends.OutputEnd.{OutputEnd}
use Rattle.sdl_structure_parts.specs.Structure.{lexicon_of}
use Rattle.sdl_run_outcome.specs.EnvironmentWork.{EnvWorking, HasWritten, received_text}
use Rattle.sdl_run_environment.specs.EnvPhases.{IsWritable}
use Rattle.sdl_run_environment.proofs.EnvLegal.{writable}
use Rattle.sdl_run_environment.proofs.EnvWriting.{received_more}
use Rattle.sdl_run_environment.proofs.environment.EnvWorker.receive_one_apart.Goals as goal

pub write-self-inside-requires : goal.write-self-inside-requires
write-self-inside-requires g c =
    let s = c.args.structure.now in
    let rows = c.args.routes.now in
    let item = c.in-Some.item in
    let may = c.may_leave.ensures.0 c.if-not-may_leave.false in
    subst (λ (x : Lexicon). IsWritable x rows item) (sym c.names-names.ensures) (writable s rows 0 c.requires.structure c.requires.routes item may.0 may.1)

pub returns-clause-writing : goal.returns-clause-writing
returns-clause-writing g c = λ start wrote.
    let names = c.names-names.result.now in
    let known = lexicon_of c.args.structure.now in
    let routes = c.args.routes.now in
    let old = c.args.self.now in
    let item = c.in-Some.item in
    let before = g.W.Write.contents c.args.output.now in
    let after = g.W.Write.contents c.write-self-inside.new.output in
    let end : c.self.inside.output ≡ old.output = ap (λ (w : EnvWorking). w.output) c.self.view_is in
    let received : c.push_reserved.new.self.items ≡ old.received ++ item ∷ [] =
    c.push_reserved.ensures.items ∙ ap (λ x. c.reserve.new.self.items ++ x ∷ []) (same_Some c.in-Some-take.item item c.in-Some-take.ensures.value)
    ∙ ap (λ items. items ++ item ∷ []) (c.reserve.ensures.items ∙ ap (λ (w : EnvWorking). w.received) c.self.view_is) in
    let text : received_text known routes c.push_reserved.new.self.items ≡ received_text known routes old.received ++ received_text known routes (item ∷ []) =
    ap (received_text known routes) received ∙ received_more known routes old.received (item ∷ []) in
    let wrote_one : HasWritten start after (received_text known routes old.received ++ received_text known routes (item ∷ [])) c.write-self-inside.result =
    subst (λ (x : Lexicon). HasWritten start after (received_text known routes old.received ++ received_text x routes (item ∷ [])) c.write-self-inside.result) c.names-names.ensures
    (c.write-self-inside.ensures start (received_text known routes old.received)
    (subst (λ (e : OutputEnd). HasWritten start before (received_text known routes old.received) e) (sym end) wrote)) in
    subst (λ (t : List ℕ). HasWritten start after t c.write-self-inside.result) (sym text) wrote_one
