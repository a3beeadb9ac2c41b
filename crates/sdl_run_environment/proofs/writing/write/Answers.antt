use Rattle.std.proofs.Common.{◌≡◌, ℕ, ◌++◌, List, None, Some, ap, sym, ◌∙◌, subst}
use Rattle.sdl_signal.specs.declared.ids.GateId.{GateId}
use Rattle.sdl_signal.specs.declared.ends.OutputEnd.{OutputEnd}
use Rattle.sdl_signal.specs.declared.ends.OutputEnd.TheVariants as output
use Rattle.sdl_signal.specs.Line.{line_text}
use Rattle.sdl_run_outcome.specs.EnvironmentWork.{HasWritten, received_line}
use Rattle.sdl_run_environment.proofs.EnvWriting.{written_fault, received_one}
use Rattle.sdl_run_environment.proofs.writing.write.Goals as goal

pub returns-in-Fault : goal.returns-in-Fault
returns-in-Fault g c = λ start text wrote.
    let before = g.W.Write.contents c.args.output.now in
    let after = g.W.Write.contents c.write.new.output in
    let line : line_text c.args.names.now (received_line c.args.routes.now c.args.item.now) ≡ Some c.as_slice.result.now =
    ap (λ (gate : GateId). line_text c.args.names.now (record { gate = gate; signal = c.args.item.now.signal; to = None })) (sym c.end_gate.ensures)
    ∙ c.line_of-line.ensures.text ∙ ap Some (sym c.as_slice.ensures.value) in
    let whole : HasWritten start before text output.Whole = subst (λ (e : OutputEnd). HasWritten start before text e) c.in-Whole.is wrote in
    subst (λ (t : List ℕ). HasWritten start after (text ++ t) output.WriteFault) (received_one c.args.names.now c.args.routes.now c.args.item.now c.as_slice.result.now line)
    (written_fault start before after text c.as_slice.result.now c.in-Fault.field-0 whole c.in-Fault.ensures.written)
