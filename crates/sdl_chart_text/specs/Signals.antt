-- The texts of Pids, values and signals in a chart. (This project's own.)
use Rattle.std.specs.Prelude.{ℕ, List, [], ◌∷◌, ◌++◌, if◌then◌else◌, flat_map, codes, decimal}
use Rattle.std.specs.Fmt.{signed_decimal}
use Rattle.sdl_signal.specs.declared.values.Pid.{Pid}
use Rattle.sdl_signal.specs.declared.values.Pid.TheVariants as pid
use Rattle.sdl_signal.specs.declared.values.Value.{Value}
use Rattle.sdl_signal.specs.declared.values.Value.TheVariants as value
use Rattle.sdl_signal.specs.declared.values.Signal.{Signal}
use Rattle.sdl_structure_parts.specs.Structure.{Structure}
use Rattle.sdl_app_file_commands.specs.Texts.{signal_text, set_text}

-- `null`, `env`, or the set's name, a mark and the serial number
abbrev pub marked_pid_text : Structure → List ℕ → Pid → List ℕ
marked_pid_text s mark pid.Null = codes "null"
marked_pid_text s mark pid.Env = codes "env"
marked_pid_text s mark (pid.Inst set serial) = set_text s set ++ mark ++ decimal serial

-- a number with its sign, `true`, `false`, or a Pid
abbrev pub marked_value_text : Structure → List ℕ → Value → List ℕ
marked_value_text s mark (value.Integer n) = signed_decimal n
marked_value_text s mark (value.Boolean b) = if b then codes "true" else codes "false"
marked_value_text s mark (value.Pid p) = marked_pid_text s mark p

-- a value behind a comma and a space
abbrev pub next_value_text : Structure → List ℕ → Value → List ℕ
next_value_text s mark v = codes ", " ++ marked_value_text s mark v

-- the values of a signal in brackets; nothing where it has none
abbrev pub marked_values_text : Structure → List ℕ → List Value → List ℕ
marked_values_text s mark [] = []
marked_values_text s mark (v ∷ vs) = codes "(" ++ marked_value_text s mark v ++ flat_map (next_value_text s mark) vs ++ codes ")"

-- In the lines of a chart the mark is a colon: a Pid, and a signal, which is its name and its values.
abbrev pub pid_text : Structure → Pid → List ℕ
pid_text s p = marked_pid_text s (codes ":") p

abbrev pub signal_with_values : Structure → Signal → List ℕ
signal_with_values s x = signal_text s x.id ++ marked_values_text s (codes ":") x.params.items
