use Rattle.std.proofs.Common.{sym, ap, ◌∙◌}
use Rattle.sdl_signal.specs.declared.values.EnvLine.{EnvLine}
use Rattle.sdl_signal.specs.Names.{Lexicon, DeclaredSignal}
use Rattle.sdl_signal.specs.Line.{value_texts}
use Rattle.sdl_signal.proofs.InOrder.{text_in_order}
use Rattle.sdl_signal.proofs.reading.in_order.read_in_order.Goals as goal

pub returns-in-Some-read_spaced-clause-read : goal.returns-in-Some-read_spaced-clause-read
returns-in-Some-read_spaced-clause-read c t =
    let names : Lexicon = c.args.names.now in
    let d : DeclaredSignal = record { name = c.signal.result.now.name.bytes; sorts = c.signal.result.now.sorts.items } in
    let params = c.read_spaced.new.values in
    let l : EnvLine = record { gate = c.in-Some.gate; signal = record { id = c.in-Some-signal_named.id; params = params }; to = c.read_to_part.new.to } in
    let read = c.in-Some-read_spaced.ensures.texts in
    text_in_order names l c.args.text.now c.field_before.result.0.now c.field_before.result.1.now _ c.field_before-2.result.0.now c.field_before-2.result.1.now _ d read.0
    c.in-Some.ensures.found.0
    c.signal.ensures
    c.in-Some-signal_named.ensures.found.0
    (ap (λ ss. value_texts names ss params.items) (sym c.deref.ensures.0) ∙ read.1)
    read.2
    (c.read_to_part.ensures.text t)
    c.field_before.ensures
    c.in-Some-behind_space.ensures
    c.field_before-2.ensures
