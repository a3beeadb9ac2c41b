-- What the options of `chart` ask for. (This project's own.)
use Rattle.std.specs.Prelude.{ℕ, ◌+◌, ◌-◌, ◌*◌, ◌==◌, ◌&&◌, ◌||◌, Bool, nat_lt, true, false, not, is_some, if◌then◌else◌, List, [], ◌∷◌, Option, Some, None, option_and_then, option_map, unwrap_or, codes, bytes_eq}
use Rattle.sdl_app_command.specs.Arguments.{is_option}
use Rattle.sdl_chart_words.specs.declared.asked.ChartForm.{ChartForm}
use Rattle.sdl_chart_words.specs.declared.asked.ChartForm.TheVariants as form
use Rattle.sdl_chart_words.specs.declared.asked.Request.{Request}
use Rattle.sdl_chart_words.specs.declared.asked.Reading.{Reading}
use Rattle.sdl_chart_words.specs.declared.asked.ValueOption.{ValueOption}
use Rattle.sdl_chart_words.specs.declared.asked.ValueOption.TheVariants as option

-- a number with a digit behind it, and with several, where it stays below 2 ^ 32
abbrev pub with_digit : ℕ → ℕ → Option ℕ
with_digit n b =
    if nat_lt b 48 then None
    else if nat_lt 57 b then None
    else if nat_lt (n * 10 + (b - 48)) 4294967296 then Some (n * 10 + (b - 48))
    else None

abbrev pub with_digits : ℕ → List ℕ → Option ℕ
with_digits n [] = Some n
with_digits n (b ∷ bs) = option_and_then (λ more. with_digits more bs) (with_digit n b)

abbrev pub positive : ℕ → Option ℕ
positive n = if n == 0 then None else Some n

-- the number that a word of digits writes, where it is at least 1
abbrev pub number_of : List ℕ → Option ℕ
number_of word = option_and_then positive (with_digits 0 word)

-- nothing is awaited behind an option; or something is
abbrev pub at_rest : Request → Reading
at_rest r = record { request = r; awaited = None }

abbrev pub awaiting : Request → ValueOption → Reading
awaiting r o = record { request = r; awaited = Some o }

-- the number of the first event, that of the last one, or a set
abbrev pub begun : Request → Option ℕ → Option Request
begun r None = None
begun r (Some n) = Some (record r { from = Some n })

abbrev pub ended : Request → Option ℕ → Option Request
ended r None = None
ended r (Some n) = Some (record r { to = Some n })

abbrev pub named : Request → List ℕ → Option Request
named r word = if is_option word then None else Some (record r { only = true })

abbrev pub valued : Request → ValueOption → List ℕ → Option Request
valued r option.From word = begun r (number_of word)
valued r option.To word = ended r (number_of word)
valued r option.Only word = named r word

-- one form alone is asked for, once or more
abbrev pub same_form : ChartForm → ChartForm → Bool
same_form form.Text form.Text = true
same_form form.Svg form.Svg = true
same_form form.Msc form.Msc = true
same_form _ _ = false

abbrev pub formed : Request → ChartForm → Option ChartForm → Option Request
formed r f None = Some (record r { form = Some f })
formed r f (Some g) = if same_form f g then Some r else None

abbrev pub with_form : Request → List ℕ → Option Request
with_form r word =
    if bytes_eq word (codes "--text") then formed r form.Text r.form
    else if bytes_eq word (codes "--svg") then formed r form.Svg r.form
    else if bytes_eq word (codes "--msc") then formed r form.Msc r.form
    else None

-- an option
abbrev pub alone : Request → List ℕ → Option Request
alone r word =
    if bytes_eq word (codes "--serial") then Some (record r { serial = true })
    else if bytes_eq word (codes "--by-set") then Some (record r { by_set = true })
    else with_form r word

abbrev pub with_option : Request → List ℕ → Option Reading
with_option r word =
    if bytes_eq word (codes "--from") then Some (awaiting r option.From)
    else if bytes_eq word (codes "--to") then Some (awaiting r option.To)
    else if bytes_eq word (codes "--only") then Some (awaiting r option.Only)
    else option_map at_rest (alone r word)

-- an option, or what one awaits
abbrev pub with_awaited : Request → Option ValueOption → List ℕ → Option Reading
with_awaited r None word = with_option r word
with_awaited r (Some o) word = option_map at_rest (valued r o word)

abbrev pub with_word : Reading → List ℕ → Option Reading
with_word x word = with_awaited x.request x.awaited word

-- all words, behind which nothing is awaited
abbrev pub complete : Request → Option ValueOption → Option Request
complete r None = Some r
complete r (Some o) = None

abbrev pub with_words : Reading → List (List ℕ) → Option Request
with_words x [] = complete x.request x.awaited
with_words x (word ∷ words) = option_and_then (λ next. with_words next words) (with_word x word)

-- the last event is not before the first, which is the run's first one where none is named
abbrev pub in_order : ℕ → Option ℕ → Bool
in_order first None = true
in_order first (Some last) = not (nat_lt last first)

-- a drawing has 500 events at most
abbrev pub are_few : ℕ → Option ℕ → Bool
are_few first None = true
are_few first (Some last) = nat_lt last (first + 500)

-- Sets are chosen in a drawing alone, and events not in Z.120's text, which tells of a whole run. Without a form it is lines.
abbrev pub chooses_sets : Request → Bool
chooses_sets r = r.only || r.by_set

abbrev pub chooses_events : Request → Bool
chooses_events r = is_some r.from || is_some r.to

abbrev pub suits : Request → Option ChartForm → Bool
suits r (Some form.Svg) = are_few (unwrap_or r.from 1) r.to
suits r (Some form.Msc) = not (chooses_sets r || chooses_events r)
suits r _ = not (chooses_sets r)

abbrev pub proper : Request → Option Request
proper r = if in_order (unwrap_or r.from 1) r.to && suits r r.form then Some r else None

abbrev pub nothing : Request
nothing = record { serial = false; form = None; from = None; to = None; only = false; by_set = false }

-- options in any order, each once or more: the last number counts, and each set
abbrev pub request_of : List (List ℕ) → Option Request
request_of words = option_and_then proper (with_words (at_rest nothing) words)
