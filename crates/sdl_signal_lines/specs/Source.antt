-- A source of lines: what it answers, by the bytes that were to come.
use Rattle.std.specs.Prelude.{◌≡◌, ℕ, ◌<◌, ◌≤◌, ◌⊎◌, List, [], ◌+◌, ◌++◌, length, take, drop, Option, Some, None, IfSome, ⊤}
use Rattle.std.specs.Io.KnownBytes.{Keeps, Consumes, IsAtEnd, prepend_known}
use Rattle.sdl_signal_lines.specs.declared.ahead.BlockRead.{BlockRead}
use Rattle.sdl_signal_lines.specs.declared.ahead.BlockRead.TheVariants as blocks
use Rattle.sdl_signal_lines.specs.declared.sources.LineRead.{LineRead}
use Rattle.sdl_signal_lines.specs.declared.sources.LineRead.TheVariants as reads
use Rattle.sdl_signal_lines.specs.declared.sources.Seen.{Seen}
use Rattle.sdl_signal_lines.specs.declared.sources.Seen.TheVariants as seen
use Rattle.sdl_signal_lines.specs.declared.sources.Waiting.{Waiting}
use Rattle.sdl_signal_lines.specs.declared.sources.Waiting.TheVariants as waiting
use Rattle.sdl_signal_lines.specs.declared.sources.Ended.{Ended}
use Rattle.sdl_signal_lines.specs.declared.sources.Ended.TheVariants as ended
use Rattle.sdl_signal_lines.specs.Bytes.{HasNoNewline, BeginsTooLong, ended_line}

-- a source of lines: the bytes that it took from the reader and has not handed out, and how it ended, where it has
pub record Source : Type 0 where
  pub ahead : List ℕ
  pub ended : Option Ended

-- among the bytes are those of a whole line, or the first 321 of one
abbrev pub HoldsLine : List ℕ → Type 0
HoldsLine ahead = ¬ (HasNoNewline ahead × (length ahead ≤ 320))

-- what was seen next in a source, as an answer that holds the line
abbrev pub line_read : Source → Seen → LineRead
line_read source (seen.Line count passed) = reads.Line (record { items = take count source.ahead })
line_read source seen.Over = reads.Over
line_read source seen.Done = reads.Done
line_read source seen.Fault = reads.Fault

-- the source once the line that was seen is passed
abbrev pub passed_over : Source → Seen → Source
passed_over source (seen.Line count passed) = record source { ahead = drop passed source.ahead }
passed_over source seen.Over = source
passed_over source seen.Done = source
passed_over source seen.Fault = source

-- the line that was seen, and what is to be passed with it, stand in the source
abbrev pub CanPass : Source → Seen → Type 0
CanPass source (seen.Line count passed) = (count ≤ length source.ahead) × (count ≤ 320) × (passed ≤ length source.ahead)
CanPass source seen.Over = ⊤
CanPass source seen.Done = ⊤
CanPass source seen.Fault = ⊤

-- what a source that ended answers for ever
abbrev pub last_answer : Ended → LineRead
last_answer ended.Over = reads.Over
last_answer ended.Done = reads.Done
last_answer ended.Fault = reads.Fault

-- the bytes that a source has yet to hand out, where the reader tells its bytes
abbrev pub to_come : Source → Option (List ℕ) → Option (List ℕ)
to_come source remaining = prepend_known source.ahead remaining

-- The next line was handed out: one that a newline ended, or the last one, with which the input has ended.
abbrev pub HandsOut : Option (List ℕ) → Option (List ℕ) → List ℕ → Option Ended → Type 0
HandsOut before after line end =
    (Consumes before after (ended_line line) × (end ≡ None))
    ⊎ (Consumes before after line × (0 < length line) × IsAtEnd after × (end ≡ Some ended.Done))

-- What a source that had not ended answers, and how it then stands, by the bytes that were to come before and after the call.
-- At a fault of the reader at most 320 bytes of a line wait: with more the reader was not to be asked again.
abbrev pub IsNextLine : Option (List ℕ) → Option (List ℕ) → Source → LineRead → Type 0
IsNextLine before after new (reads.Line line) = HasNoNewline line.items × (length line.items ≤ 320) × HandsOut before after line.items new.ended
IsNextLine before after new reads.Over = IfSome before BeginsTooLong × Keeps before after × (new.ended ≡ Some ended.Over)
IsNextLine before after new reads.Done = IsAtEnd before × Keeps before after × (new.ended ≡ Some ended.Done)
IsNextLine before after new reads.Fault = Keeps before after × HasNoNewline new.ahead × (length new.ahead ≤ 320) × (new.ended ≡ Some ended.Fault)

-- What the bytes that wait come to: a whole line, or that it is too long, or no whole line.
abbrev pub IsWaitingLine : List ℕ → Waiting → Type 0
IsWaitingLine ahead (waiting.Line count) =
    (ahead ≡ ended_line (take count ahead) ++ drop (count + 1) ahead) × HasNoNewline (take count ahead) × (count ≤ 320) × (count + 1 ≤ length ahead)
IsWaitingLine ahead waiting.Over = BeginsTooLong ahead
IsWaitingLine ahead waiting.Part = HasNoNewline ahead × (length ahead ≤ 320)

-- what they come to where the input has ended
abbrev pub IsLastLine : Source → Source → Seen → Type 0
IsLastLine old new (seen.Line count passed) = (count ≡ length old.ahead) × (passed ≡ count) × (0 < count) × (new ≡ record old { ended = Some ended.Done })
IsLastLine old new seen.Over = ⊥
IsLastLine old new seen.Done = (old.ahead ≡ []) × (new ≡ record old { ended = Some ended.Done })
IsLastLine old new seen.Fault = ⊥

-- what the read of a block did to the bytes that the reader has left, and which bytes came
abbrev pub IsBlockRead : Option (List ℕ) → Option (List ℕ) → List ℕ → BlockRead → Type 0
IsBlockRead before after block (blocks.Bytes n) = (0 < n) × (n ≤ length block) × Consumes before after (take n block)
IsBlockRead before after block blocks.End = Keeps before after × IsAtEnd after
IsBlockRead before after block blocks.Fault = Keeps before after

-- what it did to the bytes that wait
abbrev pub IsFilled : Option (List ℕ) → Option (List ℕ) → List ℕ → List ℕ → BlockRead → Type 0
IsFilled before after old new (blocks.Bytes n) =
    (bytes : List ℕ) × (0 < length bytes) × (new ≡ old ++ bytes) × Consumes before after bytes
IsFilled before after old new blocks.End = (new ≡ old) × Keeps before after × IsAtEnd after
IsFilled before after old new blocks.Fault = (new ≡ old) × Keeps before after
