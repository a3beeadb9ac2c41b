use Rattle.std.proofs.Common.{◌≡◌, ◌<◌, ◌++◌, ◌∷◌, [], List, ℕ, Some, length, take, ap, subst, sym, ◌∙◌, length-append}
use Rattle.std.specs.Io.KnownBytes.{Appends}
use Rattle.std.proofs.KnownBytes.{Appends-trans}
use Rattle.sdl_signal.specs.Line.{line_text}
use Rattle.sdl_signal_lines.specs.Bytes.{ended_line}
use Rattle.sdl_app_command.specs.Pipe.{line_at_gate, text_of}
use Rattle.sdl_app_command.proofs.Piped.{text_of-taken, rest_is_writable, written_front}
use Rattle.sdl_app_command.proofs.pipe.write_all.Goals as goal

pub loop-item-preserved : goal.loop-item-preserved
loop-item-preserved g c =
    let (writable, (written, whole, appended)) = c.loop-item.invariant in
    let text : line_text c.args.names.now (line_at_gate c.in-Some.item.signal) ≡ Some c.as_slice.result.now = c.line_of-line.ensures.text ∙ ap Some (sym c.as_slice.ensures.value) in
    let (split, more, all) = text_of-taken c.args.names.now c.args.queue.now written c.loop-item.queue c.take.new.self c.in-Some.item c.as_slice.result.now whole c.in-Some.ensures text in
    let P : List ℕ → Type 0 = Appends (g.W.Write.contents c.args.output.now) (g.W.Write.contents c.write.new.output) in (
      (rest_is_writable c.args.names.now c.loop-item.queue c.take.new.self c.in-Some.item c.in-Some.ensures writable).1,
      (written ++ c.in-Some.item ∷ [], split, subst P (sym more) (Appends-trans _ _ _ _ _ appended c.in-Whole.ensures.written)),
    )

pub returns-in-Fault : goal.returns-in-Fault
returns-in-Fault g c =
    let (writable, (written, whole, appended)) = c.loop-item.invariant in
    let text : line_text c.args.names.now (line_at_gate c.in-Some.item.signal) ≡ Some c.as_slice.result.now = c.line_of-line.ensures.text ∙ ap Some (sym c.as_slice.ensures.value) in
    let (split, more, all) = text_of-taken c.args.names.now c.args.queue.now written c.loop-item.queue c.take.new.self c.in-Some.item c.as_slice.result.now whole c.in-Some.ensures text in
    let P : List ℕ → Type 0 = λ t. (m : ℕ) × (m < length t) × Appends (g.W.Write.contents c.args.output.now) (g.W.Write.contents c.write.new.output) (take m t) in
    let few : c.in-Fault.field-0 < length (ended_line c.as_slice.result.now) = rw length-append c.in-Fault.ensures.written.0 in
    subst P (sym all) (written_front _ _ _ (text_of c.args.names.now written) (ended_line c.as_slice.result.now) (text_of c.args.names.now c.take.new.self) c.in-Fault.field-0 appended c.in-Fault.ensures.written.1 few)
