-- The lines of an input, and how a line is written.
use Rattle.std.specs.Prelude.{◌≡◌, ◌≢◌, ℕ, ◌+◌, ◌<◌, ◌⊎◌, List, [], ◌∷◌, ◌++◌, length, take, Option}
use Rattle.std.specs.List.{AllByRecursion}
use Rattle.std.specs.Io.KnownBytes.{Appends}
use Rattle.sdl_signal_lines.specs.declared.sinks.Written.{Written}
use Rattle.sdl_signal_lines.specs.declared.sinks.Written.TheVariants as written

abbrev pub newline : ℕ
newline = 10

abbrev pub HasNoNewline : List ℕ → Type 0
HasNoNewline bytes = AllByRecursion (λ b. b ≢ newline) bytes

-- a line as it stands in an input and in an output: its bytes and a newline
abbrev pub ended_line : List ℕ → List ℕ
ended_line line = line ++ newline ∷ []

-- The first line of an input, and what follows it: a piece that a newline ends, or else all of the input, where it is not empty.
abbrev pub IsFirstLine : List ℕ → List ℕ → List ℕ → Type 0
IsFirstLine input line rest =
    HasNoNewline line × ((input ≡ ended_line line ++ rest) ⊎ ((input ≡ line) × (0 < length line) × (rest ≡ [])))

-- the input begins with these lines, and the rest follows them
abbrev pub BeginsWithLines : List ℕ → List (List ℕ) → List ℕ → Type 0
BeginsWithLines input [] rest = input ≡ rest
BeginsWithLines input (line ∷ lines) rest = (after : List ℕ) × IsFirstLine input line after × BeginsWithLines after lines rest

-- the first line is over 320 bytes, as its first 321 show
abbrev pub BeginsTooLong : List ℕ → Type 0
BeginsTooLong input = (start more : List ℕ) × (input ≡ start ++ more) × (length start ≡ 321) × HasNoNewline start

-- the line and a newline were written, or exactly their first n bytes
abbrev pub IsWritten : Option (List ℕ) → Option (List ℕ) → List ℕ → Written → Type 0
IsWritten old new line written.Whole = Appends old new (ended_line line)
IsWritten old new line (written.Fault n) = (n < length line + 1) × Appends old new (take n (ended_line line))
