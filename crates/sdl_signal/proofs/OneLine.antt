-- A line's text breaks no rule, and no other line has it.
use Rattle.std.proofs.Common.{◌≡◌, ◌≢◌, ℕ, zero, suc, ◌+◌, ◌<◌, ◌≤◌, List, [], ◌∷◌, ◌++◌, length, get_or, Option, Some, None, Ok, Err, Result, refl, sym, ap, ◌∙◌, subst, inl, inr, option_map, slice_get, IfSome, IsSome, IfOk, IfErr, arith, length-append}
use Rattle.std.specs.List.{AllByRecursion}
use Rattle.std.specs.Option.{IsSomeAnd}
use Rattle.std.proofs.lemmas.Option.{same_Some, none-some}
use Rattle.sdl_signal.specs.declared.values.Pid.{Pid}
use Rattle.sdl_signal.specs.declared.values.Value.{Value}
use Rattle.sdl_signal.specs.declared.values.EnvLine.{EnvLine}
use Rattle.sdl_signal.specs.declared.reading.LineFault.{LineFault}
use Rattle.sdl_signal.specs.declared.reading.LineFault.TheVariants.{TooLong, NotAscii, Missing, UnknownGate, UnknownSignal, WrongCount, BadValue, BadTo}
use Rattle.sdl_signal.specs.Names.{Lexicon, DeclaredSignal, IsLexicon}
use Rattle.sdl_signal.specs.Line.{LineFits, PidFits, pid_text, to_part, value_text, value_texts, line_text}
use Rattle.sdl_signal.specs.Writing.{spaced}
use Rattle.sdl_signal.specs.Reading.{IsReading, fields, line_signal, Fails, IsFirstFault, NamesFirst, PidNamesFirst, ValueNamesFirst, HasDistinctNames, IsPidText, HasBadValue}
use Rattle.sdl_signal.specs.declared.values.Sort.{Sort}
use Rattle.sdl_signal.specs.declared.values.Sort.TheVariants as sort
use Rattle.sdl_signal.specs.declared.values.Pid.TheVariants as pid
use Rattle.sdl_signal.specs.declared.values.Value.TheVariants as value
use Rattle.sdl_signal.proofs.Named.{first_is_one, first_if_distinct}
use Rattle.sdl_signal.proofs.Texts.{IsGraphic, IsWord, all_append, inst_text}
use Rattle.sdl_signal.proofs.ValueTexts.{length-value_texts, no_bad_value, texts_of_cons}
use Rattle.sdl_signal.proofs.Words.{IsValueWord, pid_one, values_one}
use Rattle.sdl_signal.proofs.Rules.{gate_known, signal_known, signal_is_known, count_right, value_good, text_of_fields}
use Rattle.sdl_signal.proofs.Cutting.{none_is_empty}
use Rattle.sdl_signal.proofs.LineText.{spaced-append, IsPrintable, printable, printable_spaced, length_spaced, seen_words, seen_to, IsToText, AreParts, AreCut, parts_of, cut_of}

length_to : (to : Option (List ℕ)) → ((t : List ℕ) → to ≡ Some t → IsValueWord t) → length (spaced (to_part to)) ≤ 47
length_to None h = omega arith
length_to (Some t) h = omega (arith, length-append t [], (h t refl).word.few)

spaced_of : (f : List ℕ) (fs : List (List ℕ)) → length (spaced (f ∷ fs)) ≡ 1 + length f + length (spaced fs)
spaced_of f fs = omega (arith, length-append f (spaced fs))

at_byte : (P : ℕ → Type 0) (bs : List ℕ) (k d : ℕ) → AllByRecursion P bs → k < length bs → P (get_or bs k d)
at_byte P [] k d h lt = absurd (omega (arith, lt))
at_byte P (b ∷ bs) zero d h lt = h.0
at_byte P (b ∷ bs) (suc k) d h lt = at_byte P bs k d h.1 (omega (arith, lt))

not_empty : (n : ℕ) (f : List ℕ) → IsWord n f → f ≢ []
not_empty n f w e = let x = ap length e in omega (arith, x, w.some)

none_empty : (fs : List (List ℕ)) → AllByRecursion IsValueWord fs → AllByRecursion (λ f. f ≢ []) fs
none_empty [] h = tt
none_empty (f ∷ fs) h = (not_empty 43 f h.0.word, none_empty fs h.1)

to_not_empty : (to : Option (List ℕ)) → ((t : List ℕ) → to ≡ Some t → IsValueWord t) → AllByRecursion (λ f. f ≢ []) (to_part to)
to_not_empty None h = tt
to_not_empty (Some t) h = (λ e. (let x = ap length e in omega (arith, x)), (not_empty 43 t (h t refl).word, tt))

good_to : (names : Lexicon) (to : Option Pid) (text : Option (List ℕ)) → IfSome to PidFits → IsToText names to text → ¬ IsSomeAnd text (λ t. ¬ IsPidText names t)
good_to names None text fits is h = subst (λ o. IsSomeAnd o (λ t. ¬ IsPidText names t)) is h
good_to names (Some p) text fits is h = subst (λ o. IsSomeAnd o (λ t. ¬ IsPidText names t)) is.1 h (p, fits, is.2)

module _ (names : Lexicon) (l : EnvLine) (line : List ℕ) (p : AreParts names l line) (q : AreCut names l line p) where
  short : length line ≤ 320
  short =
      let rest = p.values ++ to_part p.to in
      let a : length line ≡ length p.gate + length (spaced (p.signal.name ∷ rest)) = ap length p.text ∙ length-append p.gate (spaced (p.signal.name ∷ rest)) in
      let b = spaced_of p.signal.name rest in
      let c : length (spaced rest) ≡ length (spaced p.values) + length (spaced (to_part p.to)) = ap length (spaced-append p.values (to_part p.to)) ∙ length-append (spaced p.values) (spaced (to_part p.to)) in
      let d = length_spaced p.values q.value_words in
      let e = (length-value_texts names p.signal.sorts l.signal.params.items p.values p.values_are).1 in
      let f = length_to p.to q.to_words in
      omega (arith, a, b, c, d, e, f, q.few, q.gate_word.few, q.name_word.few)

  all_printable : AllByRecursion IsPrintable line
  all_printable =
      let seen : AllByRecursion (AllByRecursion IsGraphic) (p.signal.name ∷ p.values ++ to_part p.to) = (q.name_word.seen, all_append (AllByRecursion IsGraphic) p.values (to_part p.to) (seen_words p.values q.value_words) (seen_to p.to q.to_words)) in
      subst (AllByRecursion IsPrintable) (sym p.text) (all_append IsPrintable p.gate (spaced (p.signal.name ∷ p.values ++ to_part p.to)) (printable p.gate q.gate_word.seen) (printable_spaced (p.signal.name ∷ p.values ++ to_part p.to) seen))

  ascii : ¬ Fails names line NotAscii
  ascii (k, b, lt, e, h) =
      let r : IsPrintable b = subst IsPrintable e (at_byte IsPrintable line k b all_printable lt) in
      elim h [ inl low ↦ omega (arith, r.0, low) | inr high ↦ omega (arith, r.1, high) ]

  present : ¬ Fails names line Missing
  present h =
      let full : AllByRecursion (λ f. f ≢ []) (p.gate ∷ p.signal.name ∷ p.values ++ to_part p.to) = (not_empty 32 p.gate q.gate_word, (not_empty 32 p.signal.name q.name_word, all_append (λ f. f ≢ []) p.values (to_part p.to) (none_empty p.values q.value_words) (to_not_empty p.to q.to_words))) in
      elim h [
        | inl few ↦ (let x = ap length q.cut in omega (arith, x, few))
        | inr empty ↦ none_is_empty (fields line) (subst (AllByRecursion (λ f. f ≢ [])) (sym q.cut) full) empty
      ]

  signal_is : NamesFirst names l → line_signal names line ≡ Some p.signal
  signal_is first = signal_known names line p.signal.name l.signal.id.0 (ap (λ fs. slice_get fs 1) q.cut) (ap (option_map (λ s. s.name)) p.signal_at, first.1) ∙ p.signal_at

  no_fault : LineFits l → NamesFirst names l → (f : LineFault) → ¬ Fails names line f
  no_fault fits first TooLong h = omega (arith, short, h)
  no_fault fits first NotAscii h = ascii h
  no_fault fits first Missing h = present h
  no_fault fits first UnknownGate h = gate_known names line p.gate l.gate.0 (ap (λ fs. slice_get fs 0) q.cut) p.gate_at h
  no_fault fits first UnknownSignal h = signal_is_known names line p.signal (signal_is first) h
  no_fault fits first WrongCount h = count_right names line p.signal (signal_is first) (ap length q.values ∙ (length-value_texts names p.signal.sorts l.signal.params.items p.values p.values_are).1) h
  no_fault fits first BadValue h = value_good names line p.signal (signal_is first) (subst (λ vs. ¬ HasBadValue names p.signal.sorts vs) (sym q.values) (no_bad_value names p.signal.sorts l.signal.params.items p.values fits.0 p.values_are)) h
  no_fault fits first BadTo h = good_to names l.to p.to fits.1 p.to_is (subst (λ o. IsSomeAnd o (λ t. ¬ IsPidText names t)) q.to h)

to_one : (names : Lexicon) (a b : Option Pid) (x y : Option (List ℕ)) → IsLexicon names → IfSome a PidFits → IfSome b PidFits → IfSome a (PidNamesFirst names) → IfSome b (PidNamesFirst names) → IsToText names a x → IsToText names b y → x ≡ y → a ≡ b
to_one names None None x y lex fa fb ha hb p q e = refl
to_one names None (Some b) x y lex fa fb ha hb p q e = absurd (none-some q.0 (sym p ∙ e ∙ q.1))
to_one names (Some a) None x y lex fa fb ha hb p q e = absurd (none-some p.0 (sym q ∙ sym e ∙ p.1))
to_one names (Some a) (Some b) x y lex fa fb ha hb p q e =
    ap Some (pid_one names a b q.0 lex fa fb ha hb (p.2 ∙ sym p.1 ∙ e ∙ q.1) q.2)

abbrev line_made : ℕ → ℕ → List Value → Option Pid → EnvLine
line_made gate signal values to = record { gate = record { 0 = gate }; signal = record { id = record { 0 = signal }; params = record { items = values } }; to = to }

made : (a b : ℕ) (i j : ℕ) (vs ws : List Value) (s t : Option Pid) → a ≡ b → i ≡ j → vs ≡ ws → s ≡ t → line_made a i vs s ≡ line_made b j ws t
made a b i j vs ws s t e f g h =
    ap (λ x. line_made x i vs s) e ∙ ap (λ x. line_made b x vs s) f ∙ ap (λ x. line_made b j x s) g ∙ ap (λ x. line_made b j ws x) h

pub one_line : (names : Lexicon) (l m : EnvLine) (line : List ℕ) → IsLexicon names → LineFits l → LineFits m → NamesFirst names l → NamesFirst names m → line_text names l ≡ Some line → line_text names m ≡ Some line → l ≡ m
one_line names l m line lex fl fm hl hm el em =
    let p = parts_of names l line el in
    let q = parts_of names m line em in
    let a = cut_of names l line p lex fl in
    let b = cut_of names m line q lex fm in
    let fs : p.gate ∷ p.signal.name ∷ p.values ++ to_part p.to ≡ q.gate ∷ q.signal.name ∷ q.values ++ to_part q.to = sym a.cut ∙ b.cut in
    let g : p.gate ≡ q.gate = ap (λ k. get_or k 0 []) fs in
    let n : p.signal.name ≡ q.signal.name = ap (λ k. get_or k 1 []) fs in
    let gate : l.gate.0 ≡ m.gate.0 = first_is_one (λ (k : List ℕ). k) names.gates l.gate.0 m.gate.0 (ap (option_map (λ (k : List ℕ). k)) (p.gate_at ∙ ap Some g ∙ sym q.gate_at)) hl.0 hm.0 in
    let names_same : option_map (λ (s : DeclaredSignal). s.name) (slice_get names.signals l.signal.id.0) ≡ option_map (λ (s : DeclaredSignal). s.name) (slice_get names.signals m.signal.id.0) = ap (option_map (λ (s : DeclaredSignal). s.name)) p.signal_at ∙ ap Some n ∙ sym (ap (option_map (λ (s : DeclaredSignal). s.name)) q.signal_at) in
    let id : l.signal.id.0 ≡ m.signal.id.0 = first_is_one (λ (s : DeclaredSignal). s.name) names.signals l.signal.id.0 m.signal.id.0 names_same hl.1 hm.1 in
    let d : p.signal ≡ q.signal = same_Some p.signal q.signal (sym p.signal_at ∙ ap (slice_get names.signals) id ∙ q.signal_at) in
    let vs : p.values ≡ q.values = sym a.values ∙ b.values in
    let to : p.to ≡ q.to = sym a.to ∙ b.to in
    let read : value_texts names p.signal.sorts m.signal.params.items ≡ Some p.values = ap (λ s. value_texts names s.sorts m.signal.params.items) d ∙ q.values_are ∙ ap Some (sym vs) in
    let values : l.signal.params.items ≡ m.signal.params.items = values_one names p.signal.sorts l.signal.params.items m.signal.params.items p.values lex fl.0 fm.0 hl.2 hm.2 p.values_are read in
    let tos : l.to ≡ m.to = to_one names l.to m.to p.to q.to lex fl.1 fm.1 hl.3 hm.3 p.to_is q.to_is to in
    made l.gate.0 m.gate.0 l.signal.id.0 m.signal.id.0 l.signal.params.items m.signal.params.items l.to m.to gate id values tos

-- the line of a text is what the rules read
pub only_line : (names : Lexicon) (line : List ℕ) (r : Result EnvLine LineFault) → IsLexicon names → IfOk r (λ l. line_text names l ≡ Some line) → IfOk r (NamesFirst names) → IfOk r LineFits → IfErr r (IsFirstFault names line) → (l : EnvLine) → LineFits l → NamesFirst names l → line_text names l ≡ Some line → r ≡ Ok l
only_line names line (Ok m) lex read first fits fault l fl hl e = ap Ok (one_line names m l line lex fits fl first hl read e)
only_line names line (Err f) lex read first fits fault l fl hl e =
    let p = parts_of names l line e in
    absurd (no_fault names l line p (cut_of names l line p lex fl) fl hl f fault.0)

-- where the names differ, what a line with a text names is the first of its name
module _ (names : Lexicon) (h : HasDistinctNames names) where
  pid_is_first : (p : Pid) (t : List ℕ) → pid_text names p ≡ Some t → PidNamesFirst names p
  pid_is_first pid.Null t e = tt
  pid_is_first pid.Env t e = tt
  pid_is_first (pid.Inst set serial) t e = let i = inst_text names set serial t e in first_if_distinct (λ (n : List ℕ). n) names.sets set.0 i.name h.2 i.at

  value_is_first : (s : Sort) (v : Value) (t : List ℕ) → value_text names s v ≡ Some t → ValueNamesFirst names v
  value_is_first s (value.Integer n) t e = tt
  value_is_first s (value.Boolean b) t e = tt
  value_is_first sort.Pid (value.Pid p) t e = pid_is_first p t e
  value_is_first sort.Integer (value.Pid p) t e = absurd (none-some t e)
  value_is_first sort.Boolean (value.Pid p) t e = absurd (none-some t e)

  values_are_first : (sorts : List Sort) (values : List Value) (texts : List (List ℕ)) → value_texts names sorts values ≡ Some texts → AllByRecursion (ValueNamesFirst names) values
  values_are_first sorts [] texts e = tt
  values_are_first [] (v ∷ values) texts e = absurd (none-some texts e)
  values_are_first (s ∷ sorts) (v ∷ values) texts e =
      let p = texts_of_cons names s sorts v values texts e in
      (value_is_first s v p.first p.of_first, values_are_first sorts values p.rest p.of_rest)

  to_is_first : (to : Option Pid) (text : Option (List ℕ)) → IsToText names to text → IfSome to (PidNamesFirst names)
  to_is_first None text is = tt
  to_is_first (Some p) text is = pid_is_first p is.0 is.2

  pub names_are_first : (l : EnvLine) (line : List ℕ) → line_text names l ≡ Some line → NamesFirst names l
  names_are_first l line e =
      let p = parts_of names l line e in (
        first_if_distinct (λ (n : List ℕ). n) names.gates l.gate.0 p.gate h.0 p.gate_at,
        first_if_distinct (λ (s : DeclaredSignal). s.name) names.signals l.signal.id.0 p.signal h.1 p.signal_at,
        values_are_first p.signal.sorts l.signal.params.items p.values p.values_are,
        to_is_first l.to p.to p.to_is,
      )

-- where the names differ, a text is that of one line, which breaks no rule, and reading it gives that line
pub one_text : (names : Lexicon) (l m : EnvLine) (text : List ℕ) → IsLexicon names → HasDistinctNames names → LineFits l → LineFits m → line_text names l ≡ Some text → line_text names m ≡ Some text → l ≡ m
one_text names l m text lex h fl fm el em = one_line names l m text lex fl fm (names_are_first names h l text el) (names_are_first names h m text em) el em

pub breaks_no_rule : (names : Lexicon) (l : EnvLine) (text : List ℕ) (f : LineFault) → IsLexicon names → HasDistinctNames names → LineFits l → line_text names l ≡ Some text → ¬ IsFirstFault names text f
breaks_no_rule names l text f lex h fl e fault =
    let p = parts_of names l text e in
    no_fault names l text p (cut_of names l text p lex fl) fl (names_are_first names h l text e) f fault.0

pub reads_back : (names : Lexicon) (l : EnvLine) (text : List ℕ) (read : Result EnvLine LineFault) → IsLexicon names → HasDistinctNames names → LineFits l → line_text names l ≡ Some text → IsReading names text read → read ≡ Ok l
reads_back names l text (Ok m) lex h fl e r = ap Ok (one_text names m l text lex h r.0.2 fl r.0.0 e)
reads_back names l text (Err f) lex h fl e r = absurd (breaks_no_rule names l text f lex h fl e r.1)

-- a line that was read can be written without its TO part
pub without_to : (names : Lexicon) (l : EnvLine) (line : List ℕ) → line_text names l ≡ Some line → IsSome (line_text names (record l { to = None }))
without_to names l line e =
    let p = parts_of names l line e in
    let t = text_of_fields names (record l { to = None }) p.gate p.signal p.values [] p.gate_at p.signal_at p.values_are refl in
    subst IsSome (sym t) refl

pub all_without_to : (names : Lexicon) (line : List ℕ) (r : Result EnvLine LineFault) → IfOk r (λ l. line_text names l ≡ Some line) → IfOk r (λ l. IsSome (line_text names (record l { to = None })))
all_without_to names line (Ok l) e = without_to names l line e
all_without_to names line (Err f) e = tt
