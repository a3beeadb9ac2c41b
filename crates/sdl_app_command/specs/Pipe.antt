-- Lines through one queue: what is written of what was read.
use Rattle.std.specs.Prelude.{◌≡◌, ℕ, ◌+◌, ◌<◌, List, [], ◌∷◌, length, take, Option, None, IsSome, unwrap_or, flat_map, codes, ⊤, ◌⊎◌}
use Rattle.std.specs.Io.KnownBytes.{Appends, Keeps}
use Rattle.sdl_app_command.specs.Status.{HasFlushed, status_of}
use Rattle.sdl_signal.specs.declared.values.Sort.TheVariants as sort
use Rattle.sdl_signal.specs.declared.values.Pid.TheVariants as pid
use Rattle.sdl_signal.specs.declared.values.Signal.{Signal}
use Rattle.sdl_signal.specs.declared.values.Item.{Item}
use Rattle.sdl_signal.specs.declared.values.EnvLine.{EnvLine}
use Rattle.sdl_signal.specs.declared.ends.InputEnd.{InputEnd}
use Rattle.sdl_signal.specs.declared.ends.OutputEnd.{OutputEnd}
use Rattle.sdl_signal.specs.declared.ends.OutputEnd.TheVariants as output
use Rattle.sdl_signal.specs.Names.{Lexicon}
use Rattle.sdl_signal.specs.Line.{line_text}
use Rattle.sdl_signal_lines.specs.Bytes.{ended_line}
use Rattle.sdl_signal.specs.declared.environment.EnvRead.TheVariants as env
use Rattle.sdl_signal.specs.Environment.{HasRead, EndsItself}

-- the gate `line`, and the signal `ping` with a parameter of the sort Integer
abbrev pub pipe_lexicon : Lexicon
pipe_lexicon = record { gates = codes "line" ∷ []; signals = record { name = codes "ping"; sorts = sort.Integer ∷ [] } ∷ []; sets = [] }

-- the line that a signal is written as: at the gate `line`, without a TO part
abbrev pub line_at_gate : Signal → EnvLine
line_at_gate signal = record { gate = record { 0 = 0 }; signal = signal; to = None }

-- a line's text, which an unreadable one has not
abbrev pub text_or_none : Lexicon → EnvLine → List ℕ
text_or_none names line = unwrap_or (line_text names line) []

-- the text of the lines that were carried out, without their TO parts, each with a newline
abbrev pub piped_text : Lexicon → List EnvLine → List ℕ
piped_text names carried = flat_map (λ l. ended_line (text_or_none names (record l { to = None }))) carried

-- the text was written whole, or a shorter front of it
abbrev pub HasWrittenText : Option (List ℕ) → Option (List ℕ) → List ℕ → OutputEnd → Type 0
HasWrittenText old new text output.Whole = Appends old new text
HasWrittenText old new text output.WriteFault = (n : ℕ) × (n < length text) × Appends old new (take n text)

-- The lines of an input were read up to its end, its first fault or the limit, and written again: the reading is not stopped
-- short of these.
abbrev pub IsPiped : Option (List ℕ) → Option (List ℕ) → Option (List ℕ) → Option (List ℕ) → InputEnd → OutputEnd → Type 0
IsPiped unread rest old new end written =
    EndsItself (env.Ended end)
    × ((carried : List EnvLine) × HasRead pipe_lexicon unread rest carried end × HasWrittenText old new (piped_text pipe_lexicon carried) written)

-- The lines were piped, the output was flushed, and the status is that of both ends; or memory was refused, and nothing was
-- written.
abbrev pub IsPipedAs : Option (List ℕ) → Option (List ℕ) → Option (List ℕ) → Option (List ℕ) → ℕ → Type 0
IsPipedAs unread rest old new status =
    ((ended : Option (List ℕ)) × (end : InputEnd) × (written : OutputEnd) × (flushed : OutputEnd)
    × IsPiped unread rest old ended end written × Keeps ended new × HasFlushed written flushed × (status ≡ status_of end flushed))
    ⊎ ((status ≡ 3) × Keeps old new)

-- the item of a line's signal, by the line's position from 0
abbrev pub queued_item : ℕ → Signal → Item
queued_item number signal = record {
  origin = record { worker = 0; number = number };
  stamp = 0;
  signal = signal;
  sender = pid.Env;
  to = None;
  route = record { 0 = 0 };
}

-- the items of the lines that were carried out, numbered from the one given on
abbrev pub queued_items : ℕ → List EnvLine → List Item
queued_items number [] = []
queued_items number (l ∷ carried) = queued_item number l.signal ∷ queued_items (number + 1) carried

-- each line that was carried out has a text without its TO part
abbrev pub AreWritable : Lexicon → List EnvLine → Type 0
AreWritable names [] = ⊤
AreWritable names (l ∷ carried) = IsSome (line_text names (record l { to = None })) × AreWritable names carried

abbrev pub HasQueued : Lexicon → List EnvLine → List Item → Type 0
HasQueued names carried queue = (queue ≡ queued_items 0 carried) × AreWritable names carried

-- an item's signal has a text at the gate `line`
abbrev pub IsWritable : Lexicon → Item → Type 0
IsWritable names item = IsSome (line_text names (line_at_gate item.signal))

-- the text of items, each as a line at the gate `line`
abbrev pub text_of : Lexicon → List Item → List ℕ
text_of names items = flat_map (λ i. ended_line (text_or_none names (line_at_gate i.signal))) items
