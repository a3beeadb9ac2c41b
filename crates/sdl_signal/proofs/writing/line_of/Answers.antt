use Rattle.std.proofs.Common.{◌≡◌, ℕ, List, [], ◌++◌, map, Some, None, unwrap_or, refl, sym, ap, ◌∙◌, slice_get, IsSome}
use Rattle.std.proofs.lemmas.Option.{same_Some}
use Rattle.sdl_signal.specs.declared.values.EnvLine.{EnvLine}
use Rattle.sdl_signal.specs.declared.values.Value.{Value}
use Rattle.sdl_signal.specs.Names.{Lexicon, DeclaredSignal}
use Rattle.sdl_signal.specs.Line.{value_texts, line_text}
use Rattle.sdl_signal.specs.Sorts.{sort_of}
use Rattle.sdl_signal.specs.Writing.{spaced}
use Rattle.sdl_signal.proofs.Spaced.{some_of, is_some_of, if_some_at, sorts_are, line_joined}
use Rattle.sdl_signal.proofs.LineText.{AreParts, parts_of}
use Rattle.sdl_signal.proofs.Rules.{text_of_fields}
use Rattle.sdl_signal.proofs.writing.line_of.Goals as goal

parts_at : (names : Lexicon) (l : EnvLine) → (h : IsSome (line_text names l)) → AreParts names l (unwrap_or (line_text names l) [])
parts_at names l h = parts_of names l (unwrap_or (line_text names l) []) (some_of (line_text names l) [] h)

pub gate_name-requires : goal.gate_name-requires
gate_name-requires c =
    let l : EnvLine = record { gate = c.args.gate; signal = c.args.signal.now; to = None } in
    let p = parts_at c.args.names.now l c.requires in
    is_some_of (slice_get c.args.names.now.gates c.args.gate.0) p.gate p.gate_at

pub signal-requires : goal.signal-requires
signal-requires c =
    let l : EnvLine = record { gate = c.args.gate; signal = c.args.signal.now; to = None } in
    let p = parts_at c.args.names.now l c.requires in
    is_some_of (slice_get c.args.names.now.signals c.args.signal.now.id.0) p.signal p.signal_at

texts_at : (names : Lexicon) (l : EnvLine) (t : List ℕ) (p : AreParts names l t) (vs : List Value) → vs ≡ l.signal.params.items → value_texts names (map sort_of vs) vs ≡ Some p.values
texts_at names l t p vs e =
    ap (λ ws. value_texts names (map sort_of ws) ws) e
    ∙ ap (λ ss. value_texts names ss l.signal.params.items) (sorts_are names p.signal.sorts l.signal.params.items p.values p.values_are)
    ∙ p.values_are

pub append_values-requires-clause-named : goal.append_values-requires-clause-named
append_values-requires-clause-named c =
    let names = c.args.names.now in
    let l : EnvLine = record { gate = c.args.gate; signal = c.args.signal.now; to = None } in
    let p = parts_at names l c.requires in
    let vs = c.deref-2.result.now in
    is_some_of (value_texts names (map sort_of vs) vs) p.values (texts_at names l (unwrap_or (line_text names l) []) p vs c.deref-2.ensures.0)

pub returns-clause-text : goal.returns-clause-text
returns-clause-text c =
    let names = c.args.names.now in
    let l : EnvLine = record { gate = c.args.gate; signal = c.args.signal.now; to = None } in
    let p = parts_at names l c.requires in
    let vs = c.deref-2.result.now in
    let d : DeclaredSignal = record { name = c.signal.result.now.name.bytes; sorts = c.signal.result.now.sorts.items } in
    let gate : p.gate ≡ c.gate_name.result.now = same_Some p.gate c.gate_name.result.now (sym p.gate_at ∙ c.gate_name.ensures.name) in
    let declared : p.signal.name ≡ c.signal.result.now.name.bytes = ap (λ (s : DeclaredSignal). s.name) (same_Some p.signal d (sym p.signal_at ∙ c.signal.ensures)) in
    let name : p.signal.name ≡ c.as_bytes.result.now = cc in
    let new = c.append_values.new.line.items in
    let old = c.append-2.new.line.items in
    let texts : new ≡ old ++ spaced p.values = if_some_at (λ ts. new ≡ old ++ spaced ts) (value_texts names (map sort_of vs) vs) p.values (texts_at names l (unwrap_or (line_text names l) []) p vs c.deref-2.ensures.0) c.append_values.ensures.texts in
    text_of_fields names l p.gate p.signal p.values [] p.gate_at p.signal_at p.values_are refl
    ∙ ap Some (line_joined c.new-line.result.items c.append.new.line.items c.push.new.self.items old new p.gate c.gate_name.result.now p.signal.name c.as_bytes.result.now p.values gate name c.new-line.ensures c.append.ensures c.push.ensures.items c.append-2.ensures texts)
