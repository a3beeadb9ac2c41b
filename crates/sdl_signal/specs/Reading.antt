-- The rules by which a line is read, in their order.
use Rattle.std.specs.Prelude.{◌≡◌, ◌≢◌, Result, IfOk, IfErr, ℕ, ◌-◌, ◌<◌, ◌⊎◌, Bool, ◌&&◌, nat_lt, ◌==◌, if◌then◌else◌, List, [], ◌∷◌, length, take, drop, Option, Some, None, option_map, IsSomeAnd, slice_get, slice_index_or, codes, bytes_eq, find, Any, Contains, IfSome, ⊤}
use Rattle.std.specs.List.{slice_split, AllByRecursion}
use Rattle.sdl_signal.specs.declared.values.Sort.{Sort}
use Rattle.sdl_signal.specs.declared.values.Pid.{Pid}
use Rattle.sdl_signal.specs.declared.values.Pid.TheVariants as pid
use Rattle.sdl_signal.specs.declared.values.Value.{Value}
use Rattle.sdl_signal.specs.declared.values.Value.TheVariants as value
use Rattle.sdl_signal.specs.declared.ids.GateId.{GateId}
use Rattle.sdl_signal.specs.declared.values.Signal.{Signal}
use Rattle.sdl_signal.specs.declared.values.EnvLine.{EnvLine}
use Rattle.sdl_signal.specs.declared.reading.LineFault.{LineFault}
use Rattle.sdl_signal.specs.declared.reading.LineFault.TheVariants.{TooLong, NotAscii, Missing, UnknownGate, UnknownSignal, WrongCount, BadValue, BadTo}
use Rattle.sdl_signal.specs.Names.{Lexicon, DeclaredSignal}
use Rattle.sdl_signal.specs.Line.{space, PidFits, ValueFits, LineFits, pid_text, value_text, line_text, ◌>>=◌}

-- the line, cut at each space
abbrev pub fields : List ℕ → List (List ℕ)
fields line = slice_split (λ b. b == space) line

-- the last two fields are a TO part: there are four or more, and the last but one is `to`
abbrev pub has_to : List (List ℕ) → Bool
has_to fs = nat_lt 3 (length fs) && bytes_eq (slice_index_or fs (length fs - 2) []) (codes "to")

-- the field of the TO part that names a Pid
abbrev pub to_field : List (List ℕ) → Option (List ℕ)
to_field fs = if has_to fs then slice_get fs (length fs - 1) else None

-- the fields between the second and the TO part
abbrev pub value_fields : List (List ℕ) → List (List ℕ)
value_fields fs = drop 2 (if has_to fs then take (length fs - 2) fs else fs)

-- the first signal of this name
abbrev pub signal_named : Lexicon → List ℕ → Option DeclaredSignal
signal_named names text = find (λ s. bytes_eq s.name text) names.signals

-- the signal that the line names
abbrev pub line_signal : Lexicon → List ℕ → Option DeclaredSignal
line_signal names line = slice_get (fields line) 1 >>= signal_named names

-- a value of the sort has this text, and a Pid has
abbrev pub IsValueText : Lexicon → Sort → List ℕ → Type 0
IsValueText names sort text = (v : Value) × ValueFits v × (value_text names sort v ≡ Some text)

abbrev pub IsPidText : Lexicon → List ℕ → Type 0
IsPidText names text = (p : Pid) × PidFits p × (pid_text names p ≡ Some text)

-- some field isn't a value of the sort in its place
abbrev pub HasBadValue : Lexicon → List Sort → List (List ℕ) → Type 0
HasBadValue names (s ∷ sorts) (f ∷ fs) = ¬ IsValueText names s f ⊎ HasBadValue names sorts fs
HasBadValue names _ _ = ⊥

-- the rule of this fault fails
abbrev pub Fails : Lexicon → List ℕ → LineFault → Type 0
Fails names line TooLong = 320 < length line
Fails names line NotAscii = Any (λ b. (b < 32) ⊎ (126 < b)) line
Fails names line Missing = (length (fields line) < 2) ⊎ Contains (fields line) []
Fails names line UnknownGate = IsSomeAnd (slice_get (fields line) 0) (λ gate. ¬ Contains names.gates gate)
Fails names line UnknownSignal = line_signal names line ≡ None
Fails names line WrongCount = IsSomeAnd (line_signal names line) (λ s. length (value_fields (fields line)) ≢ length s.sorts)
Fails names line BadValue = IsSomeAnd (line_signal names line) (λ s. HasBadValue names s.sorts (value_fields (fields line)))
Fails names line BadTo = IsSomeAnd (to_field (fields line)) (λ to. ¬ IsPidText names to)

-- the order of the rules
abbrev pub rule_number : LineFault → ℕ
rule_number TooLong = 1
rule_number NotAscii = 2
rule_number Missing = 3
rule_number UnknownGate = 4
rule_number UnknownSignal = 5
rule_number WrongCount = 6
rule_number BadValue = 7
rule_number BadTo = 8

-- the rules before the n-th hold
abbrev pub Passes : Lexicon → List ℕ → ℕ → Type 0
Passes names line n = (fault : LineFault) → rule_number fault < n → ¬ Fails names line fault

-- the first rule that fails
abbrev pub IsFirstFault : Lexicon → List ℕ → LineFault → Type 0
IsFirstFault names line fault = Fails names line fault × Passes names line (rule_number fault)

-- of equal names the first counts
abbrev pub IsFirstNamed : {A : Type 0} → (A → List ℕ) → List A → ℕ → Type 0
IsFirstNamed name xs i = (k : ℕ) → k < i → option_map name (slice_get xs k) ≢ option_map name (slice_get xs i)

-- the first element of this name stands at i
abbrev pub IsNamedAt : {A : Type 0} → (A → List ℕ) → List A → List ℕ → ℕ → Type 0
IsNamedAt name xs text i = (option_map name (slice_get xs i) ≡ Some text) × IsFirstNamed name xs i

-- no element has this name
abbrev pub IsNowhere : {A : Type 0} → (A → List ℕ) → List A → List ℕ → Type 0
IsNowhere name xs text = (i : ℕ) → option_map name (slice_get xs i) ≢ Some text

-- no two names of the list are equal
abbrev pub AreDistinct : {A : Type 0} → (A → List ℕ) → List A → Type 0
AreDistinct name xs = (i : ℕ) → i < length xs → IsFirstNamed name xs i

abbrev pub HasDistinctNames : Lexicon → Type 0
HasDistinctNames names = AreDistinct (λ n. n) names.gates × AreDistinct (λ s. s.name) names.signals × AreDistinct (λ n. n) names.sets

-- the set of a Pid is the first of its name
abbrev pub PidNamesFirst : Lexicon → Pid → Type 0
PidNamesFirst names (pid.Inst set serial) = IsFirstNamed (λ n. n) names.sets set.0
PidNamesFirst names _ = ⊤

abbrev pub ValueNamesFirst : Lexicon → Value → Type 0
ValueNamesFirst names (value.Pid p) = PidNamesFirst names p
ValueNamesFirst names _ = ⊤

-- each gate, signal and set that the line names is the first of its name: in its parameters and in its TO part too
abbrev pub NamesFirst : Lexicon → EnvLine → Type 0
NamesFirst names line =
    IsFirstNamed (λ n. n) names.gates line.gate.0
    × IsFirstNamed (λ s. s.name) names.signals line.signal.id.0
    × AllByRecursion (ValueNamesFirst names) line.signal.params.items
    × IfSome line.to (PidNamesFirst names)

-- what the reading of a text answers: a line that has this text, whose names are each the first of its name, or the first
-- rule that fails
abbrev pub IsReading : Lexicon → List ℕ → Result EnvLine LineFault → Type 0
IsReading names text read =
    IfOk read (λ l. (line_text names l ≡ Some text) × NamesFirst names l × LineFits l) × IfErr read (IsFirstFault names text)

-- a signal at a gate, without a TO part
abbrev pub line_without_to : GateId → Signal → EnvLine
line_without_to gate signal = record { gate = gate; signal = signal; to = None }

-- a line into which a text can be read: it has no values and no TO part
abbrev pub IsBlankLine : EnvLine → Type 0
IsBlankLine line = (line.signal.params.items ≡ []) × (line.to ≡ None)
