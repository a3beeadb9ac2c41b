-- Names, Pids and values in the textual form of Z.120. (What is done to keywords is this project's own.)
use Rattle.std.specs.Prelude.{ℕ, ◌==◌, ◌&&◌, Bool, true, false, List, [], ◌∷◌, ◌++◌, if◌then◌else◌, codes}
use Rattle.std.specs.Char.{to_ascii_lowercase}
use Rattle.std.specs.List.{list_any, slice_split}
use Rattle.sdl_signal.specs.declared.values.Pid.{Pid}
use Rattle.sdl_signal.specs.declared.values.Value.{Value}
use Rattle.sdl_structure_parts.specs.Structure.{Structure}
use Rattle.sdl_chart_text.specs.Signals.{marked_pid_text, marked_values_text}
use Rattle.sdl_chart_msc.specs.declared.names.TheConstants.{KEYWORDS}

abbrev pub space : ℕ
space = 32

abbrev pub underscore : ℕ
underscore = 95

-- the name is the word in any case, with or without underscores behind it
abbrev pub are_underscores : List ℕ → Bool
are_underscores [] = true
are_underscores (c ∷ cs) = (c == underscore) && are_underscores cs

abbrev pub is_word : List ℕ → List ℕ → Bool
is_word [] name = are_underscores name
is_word (w ∷ ws) [] = false
is_word (w ∷ ws) (c ∷ cs) = (w == to_ascii_lowercase c) && is_word ws cs

-- the name is one of the keywords
unfoldable pub is_keyword : List ℕ → Bool
is_keyword name = list_any (λ word. is_word word name) (slice_split (λ b. b == space) KEYWORDS.now)

-- A name: a keyword gets one more underscore behind it.
abbrev pub sign_text : List ℕ → List ℕ
sign_text name = if is_keyword name then codes "_" else []

abbrev pub name_text : List ℕ → List ℕ
name_text name = name ++ sign_text name

-- in this form the mark is an underscore
abbrev pub pid_text : Structure → Pid → List ℕ
pid_text s p = marked_pid_text s (codes "_") p

abbrev pub values_text : Structure → List Value → List ℕ
values_text s vs = marked_values_text s (codes "_") vs

-- a Pid behind a text, at the end of a line
abbrev pub pid_line : Structure → List ℕ → Pid → List ℕ
pid_line s before p = before ++ pid_text s p ++ codes ";\n"
