-- The rules of a line in their order: which hold before a rule, and where each is broken.
use Rattle.std.proofs.Common.{◌≡◌, ◌≢◌, ℕ, zero, suc, ◌+◌, ◌<◌, ◌≤◌, List, [], ◌∷◌, ◌++◌, length, get_or, map, take, drop, Option, Some, None, refl, sym, ap, ◌∙◌, subst, inl, inr, slice_get, option_map, option_and_then, arith, Bor}
use Rattle.std.specs.List.{Contains, join_with_byte}
use Rattle.std.specs.Option.{IsSomeAnd}
use Rattle.std.proofs.lemmas.Bool.{cases_lt}
use Rattle.std.proofs.lemmas.List.{length-take-le, length-map, take_all, take-append-drop}
use Rattle.std.proofs.Math.ListN.{get_or-append, get_or-map}
use Rattle.std.proofs.lemmas.List.Splits.{join_with_byte-slice_split}
use Rattle.std.proofs.lemmas.Option.{slice_get-get_or, get_or_from_slice_get, none-some}
use Rattle.sdl_signal.specs.declared.reading.LineFault.{LineFault}
use Rattle.sdl_signal.specs.declared.reading.LineFault.TheVariants.{TooLong, NotAscii, Missing, UnknownGate, UnknownSignal, WrongCount, BadValue, BadTo}
use Rattle.sdl_signal.specs.Names.{Lexicon, DeclaredSignal}
use Rattle.sdl_signal.specs.Reading.{Fails, Passes, IsNamedAt, IsNowhere, HasBadValue, fields, line_signal, signal_named, value_fields, to_field, rule_number}
use Rattle.sdl_signal.proofs.Named.{find_named, find_nowhere, nowhere_not_in, contains_at}
use Rattle.sdl_signal.proofs.LineParts.{nine_are_many, parts_are_whole}
use Rattle.sdl_signal.specs.declared.values.EnvLine.{EnvLine}
use Rattle.sdl_signal.specs.Line.{space, line_text, value_texts, to_texts, to_part, ◌>>=◌}

rule_at : ℕ → LineFault
rule_at (suc (suc zero)) = NotAscii
rule_at (suc (suc (suc zero))) = Missing
rule_at (suc (suc (suc (suc zero)))) = UnknownGate
rule_at (suc (suc (suc (suc (suc zero))))) = UnknownSignal
rule_at (suc (suc (suc (suc (suc (suc zero)))))) = WrongCount
rule_at (suc (suc (suc (suc (suc (suc (suc zero))))))) = BadValue
rule_at (suc (suc (suc (suc (suc (suc (suc (suc zero)))))))) = BadTo
rule_at _ = TooLong

rule_at_number : (f : LineFault) → rule_at (rule_number f) ≡ f
unfolding rule_at
rule_at_number TooLong = refl
rule_at_number NotAscii = refl
rule_at_number Missing = refl
rule_at_number UnknownGate = refl
rule_at_number UnknownSignal = refl
rule_at_number WrongCount = refl
rule_at_number BadValue = refl
rule_at_number BadTo = refl

numbered_from_one : (f : LineFault) → 1 ≤ rule_number f
numbered_from_one TooLong = omega arith
numbered_from_one NotAscii = omega arith
numbered_from_one Missing = omega arith
numbered_from_one UnknownGate = omega arith
numbered_from_one UnknownSignal = omega arith
numbered_from_one WrongCount = omega arith
numbered_from_one BadValue = omega arith
numbered_from_one BadTo = omega arith

pub passes_first : (names : Lexicon) (line : List ℕ) → Passes names line 1
passes_first names line f lt = omega (arith, lt, numbered_from_one f)

pub passes_more : (names : Lexicon) (line : List ℕ) (f : LineFault) → Passes names line (rule_number f) → ¬ Fails names line f → Passes names line (rule_number f + 1)
passes_more names line f p holds g lt =
    let same = λ (h : rule_number f ≤ rule_number g).
    let e : rule_number g ≡ rule_number f = omega arith in
    subst (λ x. ¬ Fails names line x) (sym (rule_at_number f) ∙ ap rule_at (sym e) ∙ rule_at_number g) holds in
    elim (cases_lt (rule_number g) (rule_number f)) [ inl h ↦ p g h | inr h ↦ same h ]

module _ (fs : List (List ℕ)) where
  kept_length : length (take 9 fs) ≤ length fs
  kept_length = elim (cases_lt 9 (length fs)) [ inl h ↦ (let e : length (take 9 fs) ≡ 9 = length-take-le 9 fs (omega arith) in omega arith) | inr h ↦ omega (arith, ap length (take_all 9 fs h)) ]

  pub kept_two : 2 ≤ length (take 9 fs) → 2 ≤ length fs
  kept_two h = omega (arith, kept_length)

  pub kept_one : length (take 9 fs) < 2 → length fs < 2
  kept_one h = elim (cases_lt (length fs) 9) [ inl k ↦ omega (arith, ap length (take_all 9 fs (omega arith))) | inr k ↦ (let e : length (take 9 fs) ≡ 9 = length-take-le 9 fs k in absurd (omega arith)) ]

  pub kept_field : (i : ℕ) → i < length (take 9 fs) → slice_get fs i ≡ Some (get_or (take 9 fs) i [])
  kept_field i h =
      let inside : i < length fs = omega (arith, kept_length) in
      let whole : get_or fs i [] ≡ get_or (take 9 fs) i [] = ap (λ l. get_or l i []) (sym (take-append-drop 9 fs)) ∙ get_or-append (take 9 fs) (drop 9 fs) [] i h in
      slice_get-get_or fs i [] inside ∙ ap Some whole

  -- a line with the right number of values has at most eight fields, which are all kept
  pub kept_all : (n : ℕ) → n ≤ 4 → length (value_fields (take 9 fs)) ≡ n → take 9 fs ≡ fs
  kept_all n l e =
      let many = λ (h : 9 ≤ length fs).
      let size : length (take 9 fs) ≡ 9 = length-take-le 9 fs h in
      let five : 5 ≤ length (value_fields (take 9 fs)) = nine_are_many (take 9 fs) (omega arith) in
      let clash : ⊥ = omega arith in
      absurd {A = take 9 fs ≡ fs} clash in
      elim (cases_lt (length fs) 9) [ inl h ↦ take_all 9 fs (omega arith) | inr h ↦ many h ]

  pub kept_count : (n : ℕ) → n ≤ 4 → length (value_fields (take 9 fs)) ≢ n → length (value_fields fs) ≢ n
  kept_count n l ne e =
      let many = λ (h : 9 ≤ length fs).
      let five : 5 ≤ length (value_fields fs) = nine_are_many fs h in
      let clash : ⊥ = omega arith in clash in
      let few = λ (h : length fs < 9). ne (ap (λ l. length (value_fields l)) (take_all 9 fs (omega arith)) ∙ e) in
      elim (cases_lt (length fs) 9) [ inl h ↦ few h | inr h ↦ many h ]

-- a field that the program kept
pub field_is : (fs : List (List ℕ)) (items slice : List (Bor (List ℕ))) (i : ℕ) → map (λ f. f.now) items ≡ take 9 fs → slice ≡ items → i < length items → slice_get fs i ≡ Some (get_or slice i (record { ref_ptr = (0, 0); now = [] })).now
field_is fs items slice i e s h =
    let now = λ (f : Bor (List ℕ)). f.now in
    let many : length (take 9 fs) ≡ length items = sym (ap length e) ∙ length-map items now in
    kept_field fs i (omega (arith, many))
    ∙ ap (λ l. Some (get_or l i [])) (sym e)
    ∙ ap Some (get_or-map now items i (record { ref_ptr = (0, 0); now = [] }))
    ∙ ap (λ (l : List (Bor (List ℕ))). Some (get_or l i (record { ref_ptr = (0, 0); now = [] })).now) (sym s)

and_at : {A : Type 0} (P : A → Type 0) (o : Option A) (x : A) → o ≡ Some x → P x → IsSomeAnd o P
and_at P o x e p = subst (λ r. IsSomeAnd r P) (sym e) p

pub at_and : {A : Type 0} (P : A → Type 0) (o : Option A) (x : A) → o ≡ Some x → IsSomeAnd o P → P x
at_and P o x e p = subst (λ r. IsSomeAnd r P) e p

pub some_and_map : {A B : Type 0} (f : A → B) (P : B → Type 0) (o : Option A) (r : Option B) → option_map f o ≡ r → IsSomeAnd o (λ x. P (f x)) → IsSomeAnd r P
some_and_map f P None r e h = absurd h
some_and_map f P (Some x) r e h = subst (λ q. IsSomeAnd q P) e h

module _ (names : Lexicon) (line : List ℕ) where
  pub gate_unknown : (text : List ℕ) → slice_get (fields line) 0 ≡ Some text → IsNowhere (λ n. n) names.gates text → Fails names line UnknownGate
  gate_unknown text e h = and_at (λ gate. ¬ Contains names.gates gate) (slice_get (fields line) 0) text e (nowhere_not_in names.gates text h)

  pub gate_known : (text : List ℕ) (i : ℕ) → slice_get (fields line) 0 ≡ Some text → slice_get names.gates i ≡ Some text → ¬ Fails names line UnknownGate
  gate_known text i e h fails = at_and (λ gate. ¬ Contains names.gates gate) (slice_get (fields line) 0) text e fails (contains_at names.gates text i h)

  signal_of : (text : List ℕ) → slice_get (fields line) 1 ≡ Some text → line_signal names line ≡ signal_named names text
  signal_of text e = ap (λ o. option_and_then (signal_named names) o) e

  pub signal_unknown : (text : List ℕ) → slice_get (fields line) 1 ≡ Some text → IsNowhere (λ s. s.name) names.signals text → Fails names line UnknownSignal
  signal_unknown text e h = signal_of text e ∙ find_nowhere (λ s. s.name) names.signals text h

  pub signal_known : (text : List ℕ) (i : ℕ) → slice_get (fields line) 1 ≡ Some text → IsNamedAt (λ s. s.name) names.signals text i → line_signal names line ≡ slice_get names.signals i
  signal_known text i e h = signal_of text e ∙ find_named (λ s. s.name) names.signals text i h

  pub signal_is_known : (d : DeclaredSignal) → line_signal names line ≡ Some d → ¬ Fails names line UnknownSignal
  signal_is_known d e fails = none-some d (sym fails ∙ e)

  pub count_wrong : (d : DeclaredSignal) → line_signal names line ≡ Some d → length (value_fields (fields line)) ≢ length d.sorts → Fails names line WrongCount
  count_wrong d e h = and_at (λ s. length (value_fields (fields line)) ≢ length s.sorts) (line_signal names line) d e h

  pub count_right : (d : DeclaredSignal) → line_signal names line ≡ Some d → length (value_fields (fields line)) ≡ length d.sorts → ¬ Fails names line WrongCount
  count_right d e h fails = at_and (λ s. length (value_fields (fields line)) ≢ length s.sorts) (line_signal names line) d e fails h

  pub value_bad : (d : DeclaredSignal) → line_signal names line ≡ Some d → HasBadValue names d.sorts (value_fields (fields line)) → Fails names line BadValue
  value_bad d e h = and_at (λ s. HasBadValue names s.sorts (value_fields (fields line))) (line_signal names line) d e h

  pub value_good : (d : DeclaredSignal) → line_signal names line ≡ Some d → ¬ HasBadValue names d.sorts (value_fields (fields line)) → ¬ Fails names line BadValue
  value_good d e h fails = h (at_and (λ s. HasBadValue names s.sorts (value_fields (fields line))) (line_signal names line) d e fails)

  pub passes_to_signals : (text : List ℕ) (i : ℕ) → Passes names line 4 → slice_get (fields line) 0 ≡ Some text → slice_get names.gates i ≡ Some text → Passes names line 5
  passes_to_signals text i p e h = passes_more names line UnknownGate p (gate_known text i e h)

  pub passes_to_counts : (d : DeclaredSignal) → Passes names line 5 → line_signal names line ≡ Some d → Passes names line 6
  passes_to_counts d p e = passes_more names line UnknownSignal p (signal_is_known d e)

  pub passes_to_values : (d : DeclaredSignal) → Passes names line 6 → line_signal names line ≡ Some d → length (value_fields (fields line)) ≡ length d.sorts → Passes names line 7
  passes_to_values d p e h = passes_more names line WrongCount p (count_right d e h)

  pub passes_to_to : (d : DeclaredSignal) → Passes names line 7 → line_signal names line ≡ Some d → ¬ HasBadValue names d.sorts (value_fields (fields line)) → Passes names line 8
  passes_to_to d p e h = passes_more names line BadValue p (value_good d e h)

-- the text of a line from its fields
pub text_of_fields : (names : Lexicon) (l : EnvLine) (g : List ℕ) (d : DeclaredSignal) (vs ts : List (List ℕ)) → slice_get names.gates l.gate.0 ≡ Some g → slice_get names.signals l.signal.id.0 ≡ Some d → value_texts names d.sorts l.signal.params.items ≡ Some vs → to_texts names l.to ≡ Some ts → line_text names l ≡ Some (join_with_byte space (g ∷ d.name ∷ vs ++ ts))
text_of_fields names l g d vs ts ge se ve te =
    ap (option_map (join_with_byte space))
    (ap (λ o. o >>= λ gate. slice_get names.signals l.signal.id.0 >>= λ signal. value_texts names signal.sorts l.signal.params.items >>= λ values. option_map (λ to. gate ∷ signal.name ∷ values ++ to) (to_texts names l.to)) ge
    ∙ ap (λ o. o >>= λ signal. value_texts names signal.sorts l.signal.params.items >>= λ values. option_map (λ to. g ∷ signal.name ∷ values ++ to) (to_texts names l.to)) se
    ∙ ap (λ o. o >>= λ values. option_map (λ to. g ∷ d.name ∷ values ++ to) (to_texts names l.to)) ve
    ∙ ap (option_map (λ to. g ∷ d.name ∷ vs ++ to)) te)

-- the text of a line from the parts of its fields
pub text_from_parts : (names : Lexicon) (line : List ℕ) (l : EnvLine) (d : DeclaredSignal) → 2 ≤ length (fields line) → slice_get names.gates l.gate.0 ≡ slice_get (fields line) 0 → slice_get names.signals l.signal.id.0 ≡ Some d → slice_get (fields line) 1 ≡ Some d.name → value_texts names d.sorts l.signal.params.items ≡ Some (value_fields (fields line)) → to_texts names l.to ≡ Some (to_part (to_field (fields line))) → line_text names l ≡ Some line
text_from_parts names line l d two g s n v t =
    let fs = fields line in
    let gate : slice_get names.gates l.gate.0 ≡ Some (get_or fs 0 []) = g ∙ slice_get-get_or fs 0 [] (omega (arith, two)) in
    let name : d.name ≡ get_or fs 1 [] = sym (get_or_from_slice_get fs 1 d.name [] n) in
    text_of_fields names l (get_or fs 0 []) d (value_fields fs) (to_part (to_field fs)) gate s v t
    ∙ ap (λ m. Some (join_with_byte space (get_or fs 0 [] ∷ m ∷ value_fields fs ++ to_part (to_field fs)))) name
    ∙ ap (λ r. Some (join_with_byte space r)) (sym (parts_are_whole fs two))
    ∙ ap Some (join_with_byte-slice_split space line)
