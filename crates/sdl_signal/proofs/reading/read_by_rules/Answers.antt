use Rattle.std.proofs.Common.{◌≡◌, ◌≢◌, ℕ, ◌≤◌, List, [], length, get_or, map, take, Some, option_map, slice_get, sym, ap, ◌∙◌, subst, arith, Bor}
use Rattle.std.proofs.lemmas.List.{length-map}
use Rattle.std.proofs.lemmas.Iterator.Adapters.{option_map_id}
use Rattle.sdl_signal.specs.Names.{Lexicon, DeclaredSignal}
use Rattle.sdl_signal.specs.Line.{value_texts, to_texts, to_part}
use Rattle.sdl_signal.specs.Reading.{fields, line_signal, value_fields, to_field, HasBadValue, IsPidText}
use Rattle.sdl_signal.proofs.Rules.{field_is, gate_unknown, signal_unknown, signal_known, count_wrong, value_bad, passes_to_signals, passes_to_counts, passes_to_values, passes_to_to, kept_two, kept_all, kept_count, some_and_map, text_from_parts}
use Rattle.sdl_signal.proofs.ValueTexts.{no_bad_value}
use Rattle.sdl_signal.proofs.reading.read_by_rules.Goals as goal

pub returns-in_default-clause-fault : goal.returns-in_default-clause-fault
returns-in_default-clause-fault c =
    let names : Lexicon = c.args.names.now in
    let line : List ℕ = c.args.line.now in
    let fs = fields line in
    let items = c.in-Ok.found.items in
    let cut = c.in-Ok.ensures.cut in
    let two : 2 ≤ length items = c.in-Ok.ensures.two in
    let text0 = (get_or c.deref.result.now 0 (record { ref_ptr = (0, 0); now = [] })).now in
    let e0 : slice_get fs 0 ≡ Some text0 = field_is fs items c.deref.result.now 0 cut c.deref.ensures.0 (omega (arith, two)) in
    (gate_unknown names line text0 e0 c.in_default.ensures.absent, c.in-Ok.ensures.passes names)

pub returns-in_default-signal_named-clause-fault : goal.returns-in_default-signal_named-clause-fault
returns-in_default-signal_named-clause-fault c =
    let names : Lexicon = c.args.names.now in
    let line : List ℕ = c.args.line.now in
    let fs = fields line in
    let items = c.in-Ok.found.items in
    let cut = c.in-Ok.ensures.cut in
    let two : 2 ≤ length items = c.in-Ok.ensures.two in
    let text0 = (get_or c.deref.result.now 0 (record { ref_ptr = (0, 0); now = [] })).now in
    let e0 : slice_get fs 0 ≡ Some text0 = field_is fs items c.deref.result.now 0 cut c.deref.ensures.0 (omega (arith, two)) in
    let g0 : slice_get names.gates c.in-Some.gate.0 ≡ Some text0 = sym (option_map_id (slice_get names.gates c.in-Some.gate.0)) ∙ c.in-Some.ensures.found.0 in
    let p5 = passes_to_signals names line text0 c.in-Some.gate.0 (c.in-Ok.ensures.passes names) e0 g0 in
    let text1 = (get_or c.deref-2.result.now 1 (record { ref_ptr = (0, 0); now = [] })).now in
    let e1 : slice_get fs 1 ≡ Some text1 = field_is fs items c.deref-2.result.now 1 cut c.deref-2.ensures.0 (omega (arith, two)) in
    (signal_unknown names line text1 e1 c.in_default-signal_named.ensures.absent, p5)

pub returns-then-values-len-clause-fault : goal.returns-then-values-len-clause-fault
returns-then-values-len-clause-fault c =
    let names : Lexicon = c.args.names.now in
    let line : List ℕ = c.args.line.now in
    let fs = fields line in
    let items = c.in-Ok.found.items in
    let cut = c.in-Ok.ensures.cut in
    let two : 2 ≤ length items = c.in-Ok.ensures.two in
    let text0 = (get_or c.deref.result.now 0 (record { ref_ptr = (0, 0); now = [] })).now in
    let e0 : slice_get fs 0 ≡ Some text0 = field_is fs items c.deref.result.now 0 cut c.deref.ensures.0 (omega (arith, two)) in
    let g0 : slice_get names.gates c.in-Some.gate.0 ≡ Some text0 = sym (option_map_id (slice_get names.gates c.in-Some.gate.0)) ∙ c.in-Some.ensures.found.0 in
    let p5 = passes_to_signals names line text0 c.in-Some.gate.0 (c.in-Ok.ensures.passes names) e0 g0 in
    let text1 = (get_or c.deref-2.result.now 1 (record { ref_ptr = (0, 0); now = [] })).now in
    let e1 : slice_get fs 1 ≡ Some text1 = field_is fs items c.deref-2.result.now 1 cut c.deref-2.ensures.0 (omega (arith, two)) in
    let d : DeclaredSignal = record { name = c.signal.result.now.name.bytes; sorts = c.signal.result.now.sorts.items } in
    let s1 : line_signal names line ≡ Some d = signal_known names line text1 c.in-Some-signal_named.id.0 e1 c.in-Some-signal_named.ensures.found ∙ c.signal.ensures in
    let p6 = passes_to_counts names line d p5 s1 in
    let now = λ (f : Bor (List ℕ)). f.now in
    let values = c.parts.result.0.now in
    let taken : map now c.deref-3.result.now ≡ take 9 fs = ap (map now) c.deref-3.ensures.0 ∙ cut in
    let many : length (value_fields (take 9 fs)) ≡ length values = sym (ap (λ l. length (value_fields l)) taken) ∙ sym (ap length c.parts.ensures.values) ∙ length-map values now in
    let few : length d.sorts ≤ 4 = omega (arith, c.len.ensures.value, c.len.ensures.fits) in
    let wrong : length (value_fields (take 9 fs)) ≢ length d.sorts = λ e. c.if-values-len.true (sym many ∙ e ∙ sym c.len.ensures.value) in
    (count_wrong names line d s1 (kept_count fs (length d.sorts) few wrong), p6)

pub returns-in_default-read_values-clause-fault : goal.returns-in_default-read_values-clause-fault
returns-in_default-read_values-clause-fault c =
    let names : Lexicon = c.args.names.now in
    let line : List ℕ = c.args.line.now in
    let fs = fields line in
    let items = c.in-Ok.found.items in
    let cut = c.in-Ok.ensures.cut in
    let two : 2 ≤ length items = c.in-Ok.ensures.two in
    let text0 = (get_or c.deref.result.now 0 (record { ref_ptr = (0, 0); now = [] })).now in
    let e0 : slice_get fs 0 ≡ Some text0 = field_is fs items c.deref.result.now 0 cut c.deref.ensures.0 (omega (arith, two)) in
    let g0 : slice_get names.gates c.in-Some.gate.0 ≡ Some text0 = sym (option_map_id (slice_get names.gates c.in-Some.gate.0)) ∙ c.in-Some.ensures.found.0 in
    let p5 = passes_to_signals names line text0 c.in-Some.gate.0 (c.in-Ok.ensures.passes names) e0 g0 in
    let text1 = (get_or c.deref-2.result.now 1 (record { ref_ptr = (0, 0); now = [] })).now in
    let e1 : slice_get fs 1 ≡ Some text1 = field_is fs items c.deref-2.result.now 1 cut c.deref-2.ensures.0 (omega (arith, two)) in
    let d : DeclaredSignal = record { name = c.signal.result.now.name.bytes; sorts = c.signal.result.now.sorts.items } in
    let s1 : line_signal names line ≡ Some d = signal_known names line text1 c.in-Some-signal_named.id.0 e1 c.in-Some-signal_named.ensures.found ∙ c.signal.ensures in
    let p6 = passes_to_counts names line d p5 s1 in
    let now = λ (f : Bor (List ℕ)). f.now in
    let values = c.parts.result.0.now in
    let taken : map now c.deref-3.result.now ≡ take 9 fs = ap (map now) c.deref-3.ensures.0 ∙ cut in
    let many : length (value_fields (take 9 fs)) ≡ length values = sym (ap (λ l. length (value_fields l)) taken) ∙ sym (ap length c.parts.ensures.values) ∙ length-map values now in
    let few : length d.sorts ≤ 4 = omega (arith, c.len.ensures.value, c.len.ensures.fits) in
    let counted : length (value_fields (take 9 fs)) ≡ length d.sorts = many ∙ c.if-values-len.false ∙ c.len.ensures.value in
    let whole : take 9 fs ≡ fs = kept_all fs (length d.sorts) few counted in
    let texts : map now values ≡ value_fields fs = c.parts.ensures.values ∙ ap value_fields (taken ∙ whole) in
    let to : option_map now c.parts.result.1 ≡ to_field fs = c.parts.ensures.to ∙ ap to_field (taken ∙ whole) in
    let p7 = passes_to_values names line d p6 s1 (ap (λ l. length (value_fields l)) (sym whole) ∙ counted) in
    let bad : HasBadValue names d.sorts (value_fields fs) = subst (HasBadValue names d.sorts) texts (subst (λ ss. HasBadValue names ss (map now values)) c.deref-4.ensures.0 c.in_default-read_values.ensures.none) in
    (value_bad names line d s1 bad, p7)

pub returns-in_default-read_to-clause-fault : goal.returns-in_default-read_to-clause-fault
returns-in_default-read_to-clause-fault c =
    let names : Lexicon = c.args.names.now in
    let line : List ℕ = c.args.line.now in
    let fs = fields line in
    let items = c.in-Ok.found.items in
    let cut = c.in-Ok.ensures.cut in
    let two : 2 ≤ length items = c.in-Ok.ensures.two in
    let text0 = (get_or c.deref.result.now 0 (record { ref_ptr = (0, 0); now = [] })).now in
    let e0 : slice_get fs 0 ≡ Some text0 = field_is fs items c.deref.result.now 0 cut c.deref.ensures.0 (omega (arith, two)) in
    let g0 : slice_get names.gates c.in-Some.gate.0 ≡ Some text0 = sym (option_map_id (slice_get names.gates c.in-Some.gate.0)) ∙ c.in-Some.ensures.found.0 in
    let p5 = passes_to_signals names line text0 c.in-Some.gate.0 (c.in-Ok.ensures.passes names) e0 g0 in
    let text1 = (get_or c.deref-2.result.now 1 (record { ref_ptr = (0, 0); now = [] })).now in
    let e1 : slice_get fs 1 ≡ Some text1 = field_is fs items c.deref-2.result.now 1 cut c.deref-2.ensures.0 (omega (arith, two)) in
    let d : DeclaredSignal = record { name = c.signal.result.now.name.bytes; sorts = c.signal.result.now.sorts.items } in
    let s1 : line_signal names line ≡ Some d = signal_known names line text1 c.in-Some-signal_named.id.0 e1 c.in-Some-signal_named.ensures.found ∙ c.signal.ensures in
    let p6 = passes_to_counts names line d p5 s1 in
    let now = λ (f : Bor (List ℕ)). f.now in
    let values = c.parts.result.0.now in
    let taken : map now c.deref-3.result.now ≡ take 9 fs = ap (map now) c.deref-3.ensures.0 ∙ cut in
    let many : length (value_fields (take 9 fs)) ≡ length values = sym (ap (λ l. length (value_fields l)) taken) ∙ sym (ap length c.parts.ensures.values) ∙ length-map values now in
    let few : length d.sorts ≤ 4 = omega (arith, c.len.ensures.value, c.len.ensures.fits) in
    let counted : length (value_fields (take 9 fs)) ≡ length d.sorts = many ∙ c.if-values-len.false ∙ c.len.ensures.value in
    let whole : take 9 fs ≡ fs = kept_all fs (length d.sorts) few counted in
    let texts : map now values ≡ value_fields fs = c.parts.ensures.values ∙ ap value_fields (taken ∙ whole) in
    let to : option_map now c.parts.result.1 ≡ to_field fs = c.parts.ensures.to ∙ ap to_field (taken ∙ whole) in
    let p7 = passes_to_values names line d p6 s1 (ap (λ l. length (value_fields l)) (sym whole) ∙ counted) in
    let params = c.in-Some-read_values.params.items in
    let read : value_texts names d.sorts params ≡ Some (value_fields fs) = ap (λ ss. value_texts names ss params) (sym c.deref-4.ensures.0) ∙ c.in-Some-read_values.ensures.some ∙ ap Some texts in
    let p8 = passes_to_to names line d p7 s1 (no_bad_value names d.sorts params (value_fields fs) c.in-Some-read_values.ensures.fits read) in
    (some_and_map now (λ t. ¬ IsPidText names t) c.parts.result.1 (to_field fs) to c.in_default-read_to.ensures.none, p8)

pub returns-clause-read : goal.returns-clause-read
returns-clause-read c =
    let names : Lexicon = c.args.names.now in
    let line : List ℕ = c.args.line.now in
    let fs = fields line in
    let items = c.in-Ok.found.items in
    let cut = c.in-Ok.ensures.cut in
    let two : 2 ≤ length items = c.in-Ok.ensures.two in
    let text0 = (get_or c.deref.result.now 0 (record { ref_ptr = (0, 0); now = [] })).now in
    let e0 : slice_get fs 0 ≡ Some text0 = field_is fs items c.deref.result.now 0 cut c.deref.ensures.0 (omega (arith, two)) in
    let g0 : slice_get names.gates c.in-Some.gate.0 ≡ Some text0 = sym (option_map_id (slice_get names.gates c.in-Some.gate.0)) ∙ c.in-Some.ensures.found.0 in
    let p5 = passes_to_signals names line text0 c.in-Some.gate.0 (c.in-Ok.ensures.passes names) e0 g0 in
    let text1 = (get_or c.deref-2.result.now 1 (record { ref_ptr = (0, 0); now = [] })).now in
    let e1 : slice_get fs 1 ≡ Some text1 = field_is fs items c.deref-2.result.now 1 cut c.deref-2.ensures.0 (omega (arith, two)) in
    let d : DeclaredSignal = record { name = c.signal.result.now.name.bytes; sorts = c.signal.result.now.sorts.items } in
    let s1 : line_signal names line ≡ Some d = signal_known names line text1 c.in-Some-signal_named.id.0 e1 c.in-Some-signal_named.ensures.found ∙ c.signal.ensures in
    let p6 = passes_to_counts names line d p5 s1 in
    let now = λ (f : Bor (List ℕ)). f.now in
    let values = c.parts.result.0.now in
    let taken : map now c.deref-3.result.now ≡ take 9 fs = ap (map now) c.deref-3.ensures.0 ∙ cut in
    let many : length (value_fields (take 9 fs)) ≡ length values = sym (ap (λ l. length (value_fields l)) taken) ∙ sym (ap length c.parts.ensures.values) ∙ length-map values now in
    let few : length d.sorts ≤ 4 = omega (arith, c.len.ensures.value, c.len.ensures.fits) in
    let counted : length (value_fields (take 9 fs)) ≡ length d.sorts = many ∙ c.if-values-len.false ∙ c.len.ensures.value in
    let whole : take 9 fs ≡ fs = kept_all fs (length d.sorts) few counted in
    let texts : map now values ≡ value_fields fs = c.parts.ensures.values ∙ ap value_fields (taken ∙ whole) in
    let to : option_map now c.parts.result.1 ≡ to_field fs = c.parts.ensures.to ∙ ap to_field (taken ∙ whole) in
    let p7 = passes_to_values names line d p6 s1 (ap (λ l. length (value_fields l)) (sym whole) ∙ counted) in
    let params = c.in-Some-read_values.params.items in
    let read : value_texts names d.sorts params ≡ Some (value_fields fs) = ap (λ ss. value_texts names ss params) (sym c.deref-4.ensures.0) ∙ c.in-Some-read_values.ensures.some ∙ ap Some texts in
    let p8 = passes_to_to names line d p7 s1 (no_bad_value names d.sorts params (value_fields fs) c.in-Some-read_values.ensures.fits read) in
    let n1 : slice_get fs 1 ≡ Some d.name = e1 ∙ sym c.in-Some-signal_named.ensures.found.0 ∙ ap (option_map (λ s. s.name)) c.signal.ensures in
    let t : to_texts names c.in-Some-read_to.to ≡ Some (to_part (to_field fs)) = c.in-Some-read_to.ensures.some ∙ ap (λ o. Some (to_part o)) to in
    let two_fields : 2 ≤ length fs = kept_two fs (omega (arith, two, sym (ap length cut) ∙ length-map items now)) in
    text_from_parts names line (record { gate = c.in-Some.gate; signal = record { id = c.in-Some-signal_named.id; params = c.in-Some-read_values.params }; to = c.in-Some-read_to.to }) d two_fields (g0 ∙ sym e0) c.signal.ensures n1 read t

pub returns-clause-first_named : goal.returns-clause-first_named
returns-clause-first_named c =
    (c.in-Some.ensures.found.1, c.in-Some-signal_named.ensures.found.1, c.in-Some-read_values.ensures.first, c.in-Some-read_to.ensures.first)

pub returns-clause-fits : goal.returns-clause-fits
returns-clause-fits c = (c.in-Some-read_values.ensures.fits, c.in-Some-read_to.ensures.fits)

pub returns-in-Err-clause-fault : goal.returns-in-Err-clause-fault
returns-in-Err-clause-fault c = c.in-Err.ensures.fault c.args.names.now
