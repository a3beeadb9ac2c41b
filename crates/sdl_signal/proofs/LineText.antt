-- The text of a line: it breaks no rule, and it is the text of one line alone.
use Rattle.std.proofs.Common.{◌≡◌, ◌≢◌, ℕ, zero, suc, ◌*◌, ◌<◌, ◌≤◌, ◌==◌, false, List, [], ◌∷◌, ◌++◌, length, Option, Some, None, refl, sym, ap, ◌∙◌, subst, codes, option_map, slice_get, IfSome, arith, length-append, append-nil, append_assoc}
use Rattle.std.specs.List.{AllByRecursion, All, slice_split, join_with_byte}
use Rattle.std.proofs.lemmas.Bool.Decides.{nat_tests}
use Rattle.std.proofs.lemmas.List.Splits.{slice_split_none, slice_split_at}
use Rattle.std.proofs.lemmas.Option.{same_Some, none-some, option_and_then_some}
use Rattle.sdl_signal.specs.declared.values.Pid.{Pid}
use Rattle.sdl_signal.specs.declared.values.EnvLine.{EnvLine}
use Rattle.sdl_signal.specs.Names.{Lexicon, DeclaredSignal, IsLexicon, IsName}
use Rattle.sdl_signal.specs.Line.{space, LineFits, PidFits, pid_text, value_texts, to_part, to_texts, line_fields, line_text, ◌>>=◌}
use Rattle.sdl_signal.specs.Writing.{spaced}
use Rattle.sdl_signal.specs.Reading.{fields, value_fields, to_field}
use Rattle.sdl_signal.proofs.Texts.{IsGraphic, IsWord, all_at, all_append, name_word, map_is}
use Rattle.sdl_signal.proofs.LineParts.{parts_with_to, parts_without_to}
use Rattle.sdl_signal.proofs.Words.{IsValueWord, value_words, pid_word}

pub join-spaced : (f : List ℕ) (fs : List (List ℕ)) → join_with_byte space (f ∷ fs) ≡ f ++ spaced fs
join-spaced f [] = sym (append-nil f)
join-spaced f (g ∷ fs) = ap (λ r. f ++ space ∷ r) (join-spaced g fs)

pub spaced-append : (fs gs : List (List ℕ)) → spaced (fs ++ gs) ≡ spaced fs ++ spaced gs
spaced-append [] gs = refl
spaced-append (f ∷ fs) gs = ap (λ r. space ∷ f ++ r) (spaced-append fs gs) ∙ ap (λ r. space ∷ r) (sym (append_assoc f (spaced fs) (spaced gs)))

-- a text that can be a field has no space
no_space : (f : List ℕ) → AllByRecursion IsGraphic f → All (λ b. (b == space) ≡ false) f
no_space [] h k d lt = absurd (omega (arith, lt))
no_space (b ∷ f) h zero d lt = grind (arith, nat_tests, h.0.0)
no_space (b ∷ f) h (suc k) d lt = no_space f h.1 k d (omega (arith, lt))

cut_spaced : (f : List ℕ) (fs : List (List ℕ)) → AllByRecursion IsGraphic f → AllByRecursion (AllByRecursion IsGraphic) fs → slice_split (λ b. b == space) (f ++ spaced fs) ≡ f ∷ fs
cut_spaced f [] h k = ap (slice_split (λ b. b == space)) (append-nil f) ∙ slice_split_none (λ b. b == space) f (no_space f h)
cut_spaced f (g ∷ fs) h k = slice_split_at (λ b. b == space) f space (g ++ spaced fs) (no_space f h) refl ∙ ap (λ r. f ∷ r) (cut_spaced g fs k.0 k.1)

-- a byte of a line
abbrev pub IsPrintable : ℕ → Type 0
IsPrintable b = (31 < b) × (b < 127)

pub printable : (f : List ℕ) → AllByRecursion IsGraphic f → AllByRecursion IsPrintable f
printable [] h = tt
printable (b ∷ f) h = ((omega (arith, h.0.0), h.0.1), printable f h.1)

pub printable_spaced : (fs : List (List ℕ)) → AllByRecursion (AllByRecursion IsGraphic) fs → AllByRecursion IsPrintable (spaced fs)
printable_spaced [] h = tt
printable_spaced (f ∷ fs) h = ((omega arith, omega arith), all_append IsPrintable f (spaced fs) (printable f h.0) (printable_spaced fs h.1))

pub length_spaced : (fs : List (List ℕ)) → AllByRecursion IsValueWord fs → length (spaced fs) ≤ 44 * length fs
length_spaced [] h = omega arith
length_spaced (f ∷ fs) h = omega (arith, length-append f (spaced fs), h.0.word.few, length_spaced fs h.1)

pub seen_words : (fs : List (List ℕ)) → AllByRecursion IsValueWord fs → AllByRecursion (AllByRecursion IsGraphic) fs
seen_words [] h = tt
seen_words (f ∷ fs) h = (h.0.word.seen, seen_words fs h.1)

others : (fs : List (List ℕ)) → AllByRecursion IsValueWord fs → AllByRecursion (λ v. v ≢ codes "to") fs
others [] h = tt
others (f ∷ fs) h = (h.0.other, others fs h.1)

-- the text of a TO part's Pid
abbrev pub IsToText : Lexicon → Option Pid → Option (List ℕ) → Type 0
IsToText names None text = text ≡ None
IsToText names (Some p) text = (t : List ℕ) × (text ≡ Some t) × (pid_text names p ≡ Some t)

-- the parts of a line's text
pub record AreParts (names : Lexicon) (l : EnvLine) (line : List ℕ) : Type 0 where
  pub gate : List ℕ
  pub signal : DeclaredSignal
  pub values : List (List ℕ)
  pub to : Option (List ℕ)
  pub gate_at : slice_get names.gates l.gate.0 ≡ Some gate
  pub signal_at : slice_get names.signals l.signal.id.0 ≡ Some signal
  pub values_are : value_texts names signal.sorts l.signal.params.items ≡ Some values
  pub to_is : IsToText names l.to to
  pub text : line ≡ gate ++ spaced (signal.name ∷ values ++ to_part to)

to_of : (names : Lexicon) (to : Option Pid) (ts : List (List ℕ)) → to_texts names to ≡ Some ts → (text : Option (List ℕ)) × IsToText names to text × (ts ≡ to_part text)
to_of names None ts e = (None, refl, sym (same_Some (to_part None) ts e))
to_of names (Some p) ts e =
    let m = map_is (λ (text : List ℕ). to_part (Some text)) (pid_text names p) ts e in
    (Some m.0, (m.0, refl, m.1), sym m.2)

pub parts_of : (names : Lexicon) (l : EnvLine) (line : List ℕ) → line_text names l ≡ Some line → AreParts names l line
parts_of names l line e =
    let j = map_is (join_with_byte space) (line_fields names l) line e in
    let rest = λ (g : List ℕ) (d : DeclaredSignal) (vs : List (List ℕ)). option_map (λ to. g ∷ d.name ∷ vs ++ to) (to_texts names l.to) in
    let goal : Type 0 = AreParts names l line in
    option_and_then_some (λ g. slice_get names.signals l.signal.id.0 >>= λ d. value_texts names d.sorts l.signal.params.items >>= λ vs. rest g d vs) (slice_get names.gates l.gate.0) j.0 j.1 (λ g at f.
    option_and_then_some (λ d. value_texts names d.sorts l.signal.params.items >>= λ vs. rest g d vs) (slice_get names.signals l.signal.id.0) j.0 f (λ d dat h.
    option_and_then_some (λ vs. rest g d vs) (value_texts names d.sorts l.signal.params.items) j.0 h (λ vs vat k.
    let m = map_is (λ (to : List (List ℕ)). g ∷ d.name ∷ vs ++ to) (to_texts names l.to) j.0 k in
    let t = to_of names l.to m.0 m.1 in
    record {
      gate = g;
      signal = d;
      values = vs;
      to = t.0;
      gate_at = at;
      signal_at = dat;
      values_are = vat;
      to_is = t.1;
      text = sym j.2 ∙ ap (join_with_byte space) (sym m.2 ∙ ap (λ x. g ∷ d.name ∷ vs ++ x) t.2) ∙ join-spaced g (d.name ∷ vs ++ to_part t.0);
    })))

-- how the parts stand in the line
pub record AreCut (names : Lexicon) (l : EnvLine) (line : List ℕ) (p : AreParts names l line) : Type 0 where
  pub cut : fields line ≡ p.gate ∷ p.signal.name ∷ p.values ++ to_part p.to
  pub values : value_fields (fields line) ≡ p.values
  pub to : to_field (fields line) ≡ p.to
  pub gate_word : IsWord 32 p.gate
  pub name_word : IsWord 32 p.signal.name
  pub few : length p.signal.sorts ≤ 4
  pub value_words : AllByRecursion IsValueWord p.values
  pub to_words : (t : List ℕ) → p.to ≡ Some t → IsValueWord t

to_words_of : (names : Lexicon) (to : Option Pid) (text : Option (List ℕ)) → IsLexicon names → IfSome to PidFits → IsToText names to text → (t : List ℕ) → text ≡ Some t → IsValueWord t
to_words_of names None text l fits is t e = absurd (none-some t (sym is ∙ e))
to_words_of names (Some p) text l fits is t e = pid_word names p t l fits (is.2 ∙ sym is.1 ∙ e)

pub seen_to : (to : Option (List ℕ)) → ((t : List ℕ) → to ≡ Some t → IsValueWord t) → AllByRecursion (AllByRecursion IsGraphic) (to_part to)
seen_to None h = tt
seen_to (Some t) h = (search arith, ((h t refl).word.seen, tt))

parts_at : (g s : List ℕ) (vs : List (List ℕ)) (to : Option (List ℕ)) → AllByRecursion (λ v. v ≢ codes "to") vs → (value_fields (g ∷ s ∷ vs ++ to_part to) ≡ vs) × (to_field (g ∷ s ∷ vs ++ to_part to) ≡ to)
parts_at g s vs None h = subst (λ r. (value_fields (g ∷ s ∷ r) ≡ vs) × (to_field (g ∷ s ∷ r) ≡ None)) (sym (append-nil vs)) (parts_without_to g s vs h)
parts_at g s vs (Some t) h = parts_with_to g s vs t

pub cut_of : (names : Lexicon) (l : EnvLine) (line : List ℕ) (p : AreParts names l line) → IsLexicon names → LineFits l → AreCut names l line p
cut_of names l line p lex fits =
    let gate = name_word p.gate (all_at IsName names.gates l.gate.0 p.gate lex.gates.0 p.gate_at) in
    let d = all_at (λ s. IsName s.name × (length s.sorts ≤ 4)) names.signals l.signal.id.0 p.signal lex.signals.0 p.signal_at in
    let name = name_word p.signal.name d.0 in
    let vw = value_words names p.signal.sorts l.signal.params.items p.values lex fits.0 p.values_are in
    let tw = to_words_of names l.to p.to lex fits.1 p.to_is in
    let seen : AllByRecursion (AllByRecursion IsGraphic) (p.signal.name ∷ p.values ++ to_part p.to) = (name.seen, all_append (AllByRecursion IsGraphic) p.values (to_part p.to) (seen_words p.values vw) (seen_to p.to tw)) in
    let cut : fields line ≡ p.gate ∷ p.signal.name ∷ p.values ++ to_part p.to = ap fields p.text ∙ cut_spaced p.gate (p.signal.name ∷ p.values ++ to_part p.to) gate.seen seen in
    let at = parts_at p.gate p.signal.name p.values p.to (others p.values vw) in
    record { cut = cut; values = ap value_fields cut ∙ at.0; to = ap to_field cut ∙ at.1; gate_word = gate; name_word = name; few = d.1; value_words = vw; to_words = tw }
