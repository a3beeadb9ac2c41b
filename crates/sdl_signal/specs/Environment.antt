-- The environment's reading of an input.
use Rattle.std.specs.Prelude.{◌≡◌, ℕ, ◌+◌, ◌<◌, ◌≤◌, ◌⊎◌, List, [], ◌∷◌, ◌++◌, length, Option, Some, None, IsSome, IfSome, flat_map, ⊤}
use Rattle.std.specs.Io.KnownBytes.{Consumes}
use Rattle.std.specs.List.{AllByRecursion}
use Rattle.sdl_signal.specs.declared.values.EnvLine.{EnvLine}
use Rattle.sdl_signal.specs.declared.reading.LineFault.{LineFault}
use Rattle.sdl_signal.specs.declared.reading.LineFault.TheVariants.{TooLong}
use Rattle.sdl_signal.specs.declared.ends.InputEnd.{InputEnd}
use Rattle.sdl_signal.specs.declared.ends.InputEnd.TheVariants as ends
use Rattle.sdl_signal.specs.declared.environment.EnvRead.{EnvRead}
use Rattle.sdl_signal.specs.declared.environment.EnvRead.TheVariants as env
use Rattle.sdl_signal_lines.specs.declared.sources.Ended.TheVariants as ended
use Rattle.sdl_signal.specs.Names.{Lexicon}
use Rattle.sdl_signal.specs.Line.{line_text}
use Rattle.sdl_signal.specs.Reading.{IsFirstFault, NamesFirst}
use Rattle.sdl_signal_lines.specs.Source.{Source}
use Rattle.sdl_signal_lines.specs.Bytes.{HasNoNewline, IsFirstLine, BeginsWithLines, BeginsTooLong, ended_line}

-- how many lines of an input are carried out at most
abbrev pub most_lines : ℕ
most_lines = 16384

-- these are the readings of the lines, one each
abbrev pub AreRead : Lexicon → List (List ℕ) → List EnvLine → Type 0
AreRead names [] [] = ⊤
AreRead names (line ∷ lines) (l ∷ ls) = (line_text names l ≡ Some line) × NamesFirst names l × AreRead names lines ls
AreRead names _ _ = ⊥

-- the next line has the fault; of one that is too long its first 321 bytes suffice
abbrev pub NextIsBad : Lexicon → List ℕ → LineFault → Type 0
NextIsBad names input fault =
    ((fault ≡ TooLong) × BeginsTooLong input) ⊎ ((line rest : List ℕ) × IsFirstLine input line rest × IsFirstFault names line fault)

-- The environment's reading of an input, of which the reader gave some bytes: which lines were carried out, up to the end, a
-- fault or the limit. At a read fault at most 320 bytes of a further line had come.
abbrev pub IsReadingOf : Lexicon → List ℕ → List ℕ → List EnvLine → InputEnd → Type 0
IsReadingOf names input given carried ends.Whole =
    (lines : List (List ℕ)) × BeginsWithLines input lines [] × AreRead names lines carried × (length lines ≤ most_lines)
IsReadingOf names input given carried (ends.BadLine n fault) =
    (lines : List (List ℕ)) × (rest : List ℕ) × BeginsWithLines input lines rest × AreRead names lines carried × (length lines < most_lines)
    × (n ≡ length lines + 1) × NextIsBad names rest fault
IsReadingOf names input given carried ends.ReadFault =
    (lines : List (List ℕ)) × (partial : List ℕ) × (given ≡ flat_map ended_line lines ++ partial) × AllByRecursion HasNoNewline lines
    × HasNoNewline partial × (length partial ≤ 320) × AreRead names lines carried × (length lines ≤ most_lines)
IsReadingOf names input given carried ends.TooMuch =
    (lines : List (List ℕ)) × (rest : List ℕ) × BeginsWithLines input lines rest × AreRead names lines carried × (length lines ≡ most_lines) × (0 < length rest)
IsReadingOf names input given carried (ends.Stopped n) =
    (lines : List (List ℕ)) × (rest : List ℕ) × BeginsWithLines input lines rest × AreRead names lines carried × (length lines ≤ most_lines) × (n ≡ length lines)

-- a reading on its way: its source of lines, and how many were carried out
pub record Reading : Type 0 where
  pub source : Source
  pub carried : ℕ

-- Of an input, these lines were handed out, and the rest is what waits and what the reader has left.
abbrev pub HasCome : List ℕ → List (List ℕ) → Source → List ℕ → Type 0
HasCome input lines source left =
    ((source.ended ≡ None) × (input ≡ flat_map ended_line lines ++ (source.ahead ++ left)) × AllByRecursion HasNoNewline lines)
    ⊎ ((source.ended ≡ Some ended.Done) × BeginsWithLines input lines [] × (source.ahead ++ left ≡ []))

-- What was carried out so far of an input, where the reader told its bytes at the start.
abbrev pub HasCarried : Lexicon → Option (List ℕ) → Option (List ℕ) → Reading → List EnvLine → Type 0
HasCarried names start now reading carried =
    IfSome start (λ input. (left : List ℕ) × (lines : List (List ℕ)) × (now ≡ Some left) × AreRead names lines carried × (length lines ≡ reading.carried)
    × HasCome input lines reading.source left)

-- the whole reading of an input that the reader told at the start, where it tells at the end what it has left
abbrev pub HasRead : Lexicon → Option (List ℕ) → Option (List ℕ) → List EnvLine → InputEnd → Type 0
HasRead names start now carried end =
    IfSome start (λ input. (given : List ℕ) × Consumes start now given × IsReadingOf names input given carried end)

-- how a reading goes on: a line more was carried out, or this was the whole of it
abbrev pub GoesOn : Lexicon → Option (List ℕ) → Option (List ℕ) → Reading → List EnvLine → EnvRead → Type 0
GoesOn names start now reading carried (env.Line l) = HasCarried names start now reading (carried ++ l ∷ [])
GoesOn names start now reading carried (env.Ended end) = HasRead names start now carried end

-- a line that is carried out is one of the environment's, and without its TO part it has a text too
abbrev pub IsEnvLine : Lexicon → EnvRead → Type 0
IsEnvLine names (env.Line l) = IsSome (line_text names l) × NamesFirst names l × IsSome (line_text names (record l { to = None }))
IsEnvLine names (env.Ended end) = ⊤

-- each line that is carried out counts, and their number has a limit
abbrev pub Counts : Reading → Reading → EnvRead → Type 0
Counts old new (env.Line l) = (new.carried ≡ old.carried + 1) × (new.carried ≤ most_lines)
Counts old new (env.Ended end) = new.carried ≡ old.carried

-- a reading ends by itself: only the run that reads can make it stop short
abbrev pub EndsItself : EnvRead → Type 0
EndsItself (env.Ended (ends.Stopped n)) = ⊥
EndsItself _ = ⊤
