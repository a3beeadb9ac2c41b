-- Worked lines, on the names of Echo.
use Rattle.std.proofs.Common.{◌≡◌, ℕ, ap, zero, suc, get_or, ◌++◌, ◌<◌, [], ◌∷◌, Some, None, length, refl, codes, arith, pos, inl, inr}
use Rattle.std.specs.Fmt.{digits}
use Rattle.sdl_signal.specs.declared.values.Sort.TheVariants as sort
use Rattle.sdl_signal.specs.declared.values.Pid.TheVariants as pid
use Rattle.sdl_signal.specs.declared.values.Value.TheVariants as value
use Rattle.sdl_signal.specs.declared.values.EnvLine.{EnvLine}
use Rattle.sdl_signal.specs.declared.reading.LineFault.TheVariants.{NotAscii, Missing, UnknownGate, WrongCount}
use Rattle.sdl_signal.specs.Names.{Lexicon, is_name}
use Rattle.sdl_signal.specs.Line.{line_text}
use Rattle.sdl_signal.specs.Reading.{Fails, IsBlankLine}
use Rattle.std.specs.Prelude.{true, false}

abbrev pub echo : Lexicon
echo = record {
  gates = codes "line" ∷ [];
  signals = record { name = codes "ping"; sorts = sort.Integer ∷ [] } ∷ record { name = codes "pong"; sorts = sort.Integer ∷ [] } ∷ [];
  sets = codes "E" ∷ [];
}

abbrev pub ping_seven : EnvLine
ping_seven = record { gate = record { 0 = 0 }; signal = record { id = record { 0 = 0 }; params = record { items = value.Integer (pos 7) ∷ [] } }; to = None }

abbrev pub ping_to : EnvLine
ping_to = record ping_seven { to = Some (pid.Inst (record { 0 = 0 }) 12) }

pub ping_text : line_text echo ping_seven ≡ Some (codes "line ping 7")
unfolding digits
ping_text = refl

pub ping_to_text : line_text echo ping_to ≡ Some (codes "line ping 7 to E:12")
unfolding digits
ping_to_text = refl

-- the names of the rule
pub line_is_name : is_name (codes "line") ≡ true
line_is_name = refl

pub env_is_no_name : is_name (codes "env") ≡ false
env_is_no_name = refl

-- lines that are refused
pub empty_missing : Fails echo [] Missing
empty_missing = inl (omega arith)

pub two_spaces_missing : Fails echo (codes "line  ping 7") Missing
two_spaces_missing = inr (1, omega arith, refl)

pub no_value_count : Fails echo (codes "line ping") WrongCount
no_value_count = λ e. omega (arith, e)

pub loose_to_count : Fails echo (codes "line ping 7 to") WrongCount
loose_to_count = λ e. omega (arith, e)

not_line : (k : ℕ) → k < 1 → get_or (codes "line" ∷ []) k (codes "door") ≡ codes "door" → ⊥
not_line zero lt e = let h : 108 ≡ 100 = ap (λ l. get_or l 0 0) e in omega (arith, h)
not_line (suc k) lt e = omega (arith, lt)

pub door_unknown : Fails echo (codes "door ping 7") UnknownGate
door_unknown h = not_line h.0 h.1 h.2

-- a carriage return is no character of a line
pub return_not_ascii : Fails echo (codes "line ping 7" ++ 13 ∷ []) NotAscii
return_not_ascii = (11, 13, omega arith, refl, inl (omega arith))

-- a line into which a text can be read
pub ping_alone_blank : IsBlankLine (record ping_seven { signal = record { id = record { 0 = 0 }; params = record { items = [] } } })
ping_alone_blank = (refl, refl)

pub ping_seven_filled : IsBlankLine ping_seven → ⊥
ping_seven_filled blank = let n : length (value.Integer (pos 7) ∷ []) ≡ 0 = ap length blank.0 in omega (arith, n)
