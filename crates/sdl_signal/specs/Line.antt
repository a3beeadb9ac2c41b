-- The text of a line of the environment: a gate, a signal, its parameters and an optional TO part, with one space between.
use Rattle.std.specs.Prelude.{ℕ, ◌^◌, ◌-◌, ◌<◌, ◌≤ℤ◌, ℤ, pos, negsuc, nat_lt, if◌then◌else◌, List, [], ◌∷◌, ◌++◌, Option, Some, None, option_map, option_and_then, codes, decimal, slice_get, IfSome, ⊤}
use Rattle.std.specs.List.{join_with_byte, AllByRecursion}
use Rattle.std.specs.Fmt.{signed_decimal}
use Rattle.sdl_signal.specs.declared.values.Sort.{Sort}
use Rattle.sdl_signal.specs.declared.values.Sort.TheVariants as sort
use Rattle.sdl_signal.specs.declared.values.Pid.{Pid}
use Rattle.sdl_signal.specs.declared.values.Pid.TheVariants as pid
use Rattle.sdl_signal.specs.declared.values.Value.{Value}
use Rattle.sdl_signal.specs.declared.values.Value.TheVariants as value
use Rattle.sdl_signal.specs.declared.values.EnvLine.{EnvLine}
use Rattle.sdl_signal.specs.Names.{Lexicon}

abbrev pub space : ℕ
space = 32

abbrev pub colon : ℕ
colon = 58

infixl 10 ◌>>=◌
abbrev pub ◌>>=◌ : {A B : Type 0} → Option A → (A → Option B) → Option B
o >>= f = option_and_then f o

-- a number of 64 bits with its sign
abbrev pub IsInteger : ℤ → Type 0
IsInteger n = (negsuc (2 ^ 63 - 1) ≤ℤ n) × (n ≤ℤ pos (2 ^ 63 - 1))

-- the numbers are those that a Pid, a value and a line can hold
abbrev pub PidFits : Pid → Type 0
PidFits (pid.Inst set serial) = serial < 2 ^ 32
PidFits _ = ⊤

abbrev pub ValueFits : Value → Type 0
ValueFits (value.Integer n) = IsInteger n
ValueFits (value.Boolean b) = ⊤
ValueFits (value.Pid p) = PidFits p

abbrev pub LineFits : EnvLine → Type 0
LineFits line = AllByRecursion ValueFits line.signal.params.items × IfSome line.to PidFits

-- `null`, `env`, or a set's name, a colon and the serial number, which counts from 1
abbrev pub pid_text : Lexicon → Pid → Option (List ℕ)
pid_text names pid.Null = Some (codes "null")
pid_text names pid.Env = Some (codes "env")
pid_text names (pid.Inst set serial) =
    if nat_lt 0 serial then option_map (λ name. name ++ colon ∷ decimal serial) (slice_get names.sets set.0) else None

-- the one text of a value of a sort
abbrev pub value_text : Lexicon → Sort → Value → Option (List ℕ)
value_text names sort.Integer (value.Integer n) = Some (signed_decimal n)
value_text names sort.Boolean (value.Boolean b) = Some (if b then codes "true" else codes "false")
value_text names sort.Pid (value.Pid p) = pid_text names p
value_text names _ _ = None

-- the texts of as many values as there are sorts
abbrev pub value_texts : Lexicon → List Sort → List Value → Option (List (List ℕ))
value_texts names [] [] = Some []
value_texts names (s ∷ sorts) (v ∷ values) =
    value_text names s v >>= λ text. option_map (λ texts. text ∷ texts) (value_texts names sorts values)
value_texts names _ _ = None

-- the fields of the TO part: none, or `to` and a Pid's text
abbrev pub to_part : Option (List ℕ) → List (List ℕ)
to_part None = []
to_part (Some text) = codes "to" ∷ text ∷ []

abbrev pub to_texts : Lexicon → Option Pid → Option (List (List ℕ))
to_texts names None = Some (to_part None)
to_texts names (Some p) = option_map (λ text. to_part (Some text)) (pid_text names p)

-- the fields of a line in order
abbrev pub line_fields : Lexicon → EnvLine → Option (List (List ℕ))
line_fields names line =
    slice_get names.gates line.gate.0 >>= λ gate.
    slice_get names.signals line.signal.id.0 >>= λ signal.
    value_texts names signal.sorts line.signal.params.items >>= λ values.
    option_map (λ to. gate ∷ signal.name ∷ values ++ to) (to_texts names line.to)

-- the text of a line, without its newline
abbrev pub line_text : Lexicon → EnvLine → Option (List ℕ)
line_text names line = option_map (join_with_byte space) (line_fields names line)
