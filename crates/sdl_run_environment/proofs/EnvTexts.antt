-- What the text of a line shows of its parts, and which lines have a text.
use Rattle.std.proofs.Common.{◌≡◌, ℕ, zero, suc, ◌<◌, ◌≤◌, Bool, true, false, List, [], ◌∷◌, map, length, Option, None, Some, IsSome, IfSome, option_map, option_and_then, slice_get, is_some, nat_lt, if◌then◌else◌, true≢false, refl, ap, sym, ◌∙◌, subst, arith, rules, tests}
use Rattle.std.specs.List.{AllByRecursion}
use Rattle.std.proofs.lemmas.Option.{slice_get_within}
use Rattle.sdl_signal.specs.declared.values.EnvLine.{EnvLine}
use Rattle.sdl_signal.specs.declared.values.Sort.{Sort}
use Rattle.sdl_signal.specs.declared.values.Sort.TheVariants as sort
use Rattle.sdl_signal.specs.declared.values.Value.{Value}
use Rattle.sdl_signal.specs.declared.values.Value.TheVariants as value
use Rattle.sdl_signal.specs.declared.values.Pid.{Pid}
use Rattle.sdl_signal.specs.declared.values.Pid.TheVariants as pid
use Rattle.sdl_signal.specs.Names.{Lexicon, DeclaredSignal}
use Rattle.sdl_signal.specs.Line.{pid_text, value_text, value_texts, to_texts, line_fields, line_text}
use Rattle.sdl_transition_behaviour.specs.Offers.{IsLegalPid, IsLegalValue}
use Rattle.sdl_signal.specs.Sorts.{sort_of}

-- nothing is not something
pub none_some : false ≡ true → ⊥
none_some h = true≢false (sym h)

pub some_of : {X : Type 0} (o : Option X) → IsSome o → (x : X) × (o ≡ Some x)
some_of None h = absurd (none_some h)
some_of (Some x) h = (x, refl)

pub some_is : {X : Type 0} (o : Option X) (x : X) → o ≡ Some x → IsSome o
some_is o x e = ap is_some e

-- a chain that gives something
then_some : {A B : Type 0} (o : Option A) (f : A → Option B) → IsSome (option_and_then f o) → (x : A) × (o ≡ Some x) × IsSome (f x)
then_some None f h = absurd (none_some h)
then_some (Some x) f h = (x, refl, h)

then_is : {A B : Type 0} (o : Option A) (f : A → Option B) (x : A) → o ≡ Some x → IsSome (f x) → IsSome (option_and_then f o)
then_is o f x e h = subst (λ p. IsSome (option_and_then f p)) (sym e) h

map_some : {A B : Type 0} (f : A → B) (o : Option A) → IsSome (option_map f o) → IsSome o
map_some f None h = h
map_some f (Some x) h = refl

map_is : {A B : Type 0} (f : A → B) (o : Option A) → IsSome o → IsSome (option_map f o)
map_is f None h = h
map_is f (Some x) h = refl

within_some : {X : Type 0} (xs : List X) (k : ℕ) → k < length xs → IsSome (slice_get xs k)
within_some [] k h = absurd (omega (arith, h))
within_some (x ∷ xs) zero h = refl
within_some (x ∷ xs) (suc k) h = within_some xs k (omega (arith, h))

some_within : {X : Type 0} (xs : List X) (k : ℕ) → IsSome (slice_get xs k) → k < length xs
some_within xs k h = let (x, is) = some_of (slice_get xs k) h in slice_get_within xs k x is

-- an instance has a text where its set has a name and its serial number is at least 1
both_some : {A B : Type 0} (b : Bool) (f : A → B) (o : Option A) → IsSome (if b then option_map f o else None) → (b ≡ true) × IsSome o
both_some true f o h = (refl, map_some f o h)
both_some false f o h = absurd (none_some h)

both_is : {A B : Type 0} (b : Bool) (f : A → B) (o : Option A) → b ≡ true → IsSome o → IsSome (if b then option_map f o else None)
both_is true f o e h = map_is f o h
both_is false f o e h = absurd (true≢false (sym e))

counts_from_1 : (n : ℕ) → nat_lt 0 n ≡ true → 1 ≤ n
counts_from_1 n h = search (rules, tests)

is_at_least_1 : (n : ℕ) → 1 ≤ n → nat_lt 0 n ≡ true
is_at_least_1 n h = search (rules, tests)

legal_pid : (names : Lexicon) (p : Pid) → IsSome (pid_text names p) → IsLegalPid (length names.sets) p
legal_pid names pid.Null h = tt
legal_pid names pid.Env h = tt
legal_pid names (pid.Inst set serial) h =
    let both = both_some (nat_lt 0 serial) _ (slice_get names.sets set.0) h in
    (some_within names.sets set.0 both.1, counts_from_1 serial both.0)

has_pid_text : (names : Lexicon) (p : Pid) → IsLegalPid (length names.sets) p → IsSome (pid_text names p)
has_pid_text names pid.Null h = refl
has_pid_text names pid.Env h = refl
has_pid_text names (pid.Inst set serial) h = both_is (nat_lt 0 serial) _ (slice_get names.sets set.0) (is_at_least_1 serial h.1) (within_some names.sets set.0 h.0)

-- a value with a text has its sort, and is legal
same_sort : (names : Lexicon) (t : Sort) (v : Value) → IsSome (value_text names t v) → sort_of v ≡ t
same_sort names sort.Integer (value.Integer n) h = refl
same_sort names sort.Boolean (value.Boolean b) h = refl
same_sort names sort.Pid (value.Pid p) h = refl
same_sort names _ _ h = absurd (none_some h)

legal_value : (names : Lexicon) (t : Sort) (v : Value) → IsSome (value_text names t v) → IsLegalValue (length names.sets) v
legal_value names t (value.Integer n) h = tt
legal_value names t (value.Boolean b) h = tt
legal_value names sort.Pid (value.Pid p) h = legal_pid names p h
legal_value names sort.Integer (value.Pid p) h = absurd (none_some h)
legal_value names sort.Boolean (value.Pid p) h = absurd (none_some h)

has_value_text : (names : Lexicon) (v : Value) → IsLegalValue (length names.sets) v → IsSome (value_text names (sort_of v) v)
has_value_text names (value.Integer n) h = refl
has_value_text names (value.Boolean b) h = refl
has_value_text names (value.Pid p) h = has_pid_text names p h

legal_values : (names : Lexicon) (sorts : List Sort) (values : List Value) → IsSome (value_texts names sorts values)
    → (map sort_of values ≡ sorts) × AllByRecursion (IsLegalValue (length names.sets)) values
legal_values names [] [] h = (refl, tt)
legal_values names (t ∷ sorts) (v ∷ values) h =
    let (text, is, more) = then_some (value_text names t v) (λ text. option_map (λ texts. text ∷ texts) (value_texts names sorts values)) h in
    let one = some_is (value_text names t v) text is in
    let rest = legal_values names sorts values (map_some (λ texts. text ∷ texts) (value_texts names sorts values) more) in
    (ap (λ x. x ∷ map sort_of values) (same_sort names t v one) ∙ ap (λ l. t ∷ l) rest.0, (legal_value names t v one, rest.1))
legal_values names [] (v ∷ values) h = absurd (none_some h)
legal_values names (t ∷ sorts) [] h = absurd (none_some h)

has_value_texts : (names : Lexicon) (values : List Value) → AllByRecursion (IsLegalValue (length names.sets)) values → IsSome (value_texts names (map sort_of values) values)
has_value_texts names [] h = refl
has_value_texts names (v ∷ values) h =
    let (text, is) = some_of (value_text names (sort_of v) v) (has_value_text names v h.0) in
    then_is (value_text names (sort_of v) v) (λ text. option_map (λ texts. text ∷ texts) (value_texts names (map sort_of values) values)) text is
    (map_is (λ texts. text ∷ texts) (value_texts names (map sort_of values) values) (has_value_texts names values h.1))

legal_to : (names : Lexicon) (to : Option Pid) → IsSome (to_texts names to) → IfSome to (IsLegalPid (length names.sets))
legal_to names None h = tt
legal_to names (Some p) h = legal_pid names p (map_some _ (pid_text names p) h)

-- what the text of a line shows
pub record IsLegalLine (names : Lexicon) (line : EnvLine) : Type 0 where
  pub declared : DeclaredSignal
  pub signal : slice_get names.signals line.signal.id.0 ≡ Some declared
  pub sorts : map sort_of line.signal.params.items ≡ declared.sorts
  pub values : AllByRecursion (IsLegalValue (length names.sets)) line.signal.params.items
  pub to : IfSome line.to (IsLegalPid (length names.sets))

pub legal_line : (names : Lexicon) (line : EnvLine) → IsSome (line_text names line) → IsLegalLine names line
legal_line names line h =
    let fields : IsSome (line_fields names line) = map_some _ (line_fields names line) h in
    let (gate, gate_is, a) = then_some (slice_get names.gates line.gate.0) _ fields in
    let (declared, signal_is, b) = then_some (slice_get names.signals line.signal.id.0) _ a in
    let (texts, texts_are, d) = then_some (value_texts names declared.sorts line.signal.params.items) _ b in
    let values = legal_values names declared.sorts line.signal.params.items (some_is _ texts texts_are) in
    record { declared = declared; signal = signal_is; sorts = values.0; values = values.1; to = legal_to names line.to (map_some _ (to_texts names line.to) d) }

-- a line at a gate of the system, with legal values of its signal's sorts and without a TO part, has a text
pub has_text : (names : Lexicon) (line : EnvLine) (gate : List ℕ) (declared : DeclaredSignal) → line.to ≡ None → slice_get names.gates line.gate.0 ≡ Some gate → slice_get names.signals line.signal.id.0 ≡ Some declared
    → map sort_of line.signal.params.items ≡ declared.sorts → AllByRecursion (IsLegalValue (length names.sets)) line.signal.params.items → IsSome (line_text names line)
has_text names line gate declared no_to gate_is signal_is sorts values =
    let P : List Sort → Type 0 = λ sorts. IsSome (value_texts names sorts line.signal.params.items) in
    let (texts, texts_are) = some_of (value_texts names declared.sorts line.signal.params.items) (subst P sorts (has_value_texts names line.signal.params.items values)) in
    let Q : Option Pid → Type 0 = λ to. IsSome (to_texts names to) in
    map_is _ (line_fields names line)
    (then_is (slice_get names.gates line.gate.0) _ gate gate_is
    (then_is (slice_get names.signals line.signal.id.0) _ declared signal_is
    (then_is (value_texts names declared.sorts line.signal.params.items) _ texts texts_are
    (map_is _ (to_texts names line.to) (subst Q (sym no_to) refl)))))
