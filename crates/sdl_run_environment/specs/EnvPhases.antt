-- The parts of a step of the environment, one by one.
use Rattle.std.specs.Prelude.{◌≡◌, ◌≢◌, ℕ, ◌+◌, ◌≤◌, ◌⊎◌, Bool, true, false, List, [], ◌∷◌, ◌++◌, Option, None, Some, IsSome, Result, Ok, Err, length}
use Rattle.sdl_signal.specs.declared.values.Item.{Item}
use Rattle.sdl_signal.specs.declared.values.EnvLine.{EnvLine}
use Rattle.sdl_signal.specs.declared.ends.InputEnd.{InputEnd}
use Rattle.sdl_signal.specs.declared.environment.EnvRead.TheVariants as env
use Rattle.sdl_signal.specs.Names.{Lexicon}
use Rattle.sdl_signal.specs.Line.{line_text}
use Rattle.sdl_signal.specs.Environment.{HasCarried, HasRead, IsEnvLine, most_lines}
use Rattle.sdl_structure_parts.specs.Structure.{Structure}
use Rattle.sdl_routes.specs.declared.route.TableRow.{TableRow}
use Rattle.sdl_routes.specs.declared.route.Station.{Station}
use Rattle.sdl_routes.specs.declared.route.Station.TheVariants.{Outlet}
use Rattle.sdl_forward.specs.Boards.{waiting, ChangesOnly}
use Rattle.sdl_block_hand.specs.declared.hand.Refused.{Refused}
use Rattle.sdl_block_hand.specs.Puts.{answer_of}
use Rattle.sdl_run_outcome.specs.declared.environment_output.EnvOut.{EnvOut}
use Rattle.sdl_run_outcome.specs.EnvironmentWork.{EnvWorking, GoesOut, received_line, received_text, sent_of, IsOutputOf, AreOutputsOf, HasWritten, EnvStepsAs}

-- the item's route ends in the environment, and its line has a text
abbrev pub IsWritable : Lexicon → List TableRow → Item → Type 0
IsWritable names routes i = GoesOut routes i × IsSome (line_text names (received_line routes i))

-- what was read so far of an input that told its bytes at the start, by the names of its lines
abbrev pub ReadBy : Lexicon → Option (List ℕ) → Option (List ℕ) → EnvWorking → List EnvLine → Type 0
ReadBy names start now w lines = elim w.ended [ None ↦ HasCarried names start now w.reading lines | Some end ↦ HasRead names start now lines end ]

abbrev pub HasReadBy : Lexicon → List TableRow → ℕ → Option (List ℕ) → Option (List ℕ) → EnvWorking → Type 0
HasReadBy names routes worker start now w = (lines : List EnvLine) × AreOutputsOf routes worker 0 lines w.put × ReadBy names start now w lines

-- what was written so far
abbrev pub HasWrittenBy : Lexicon → List TableRow → Option (List ℕ) → Option (List ℕ) → EnvWorking → Type 0
HasWrittenBy names routes start now w = HasWritten start now (received_text names routes w.received) w.output

-- a line was read and output, and what is sent is in hand
pub record ReadsLine (names : Lexicon) (routes : List TableRow) (old new : EnvWorking) : Type 0 where
  pub line : EnvLine
  pub out : EnvOut
  pub named : IsEnvLine names (env.Line line)
  pub output : IsOutputOf routes old.number (length old.put) line out
  pub same : new ≡ record old { reading = new.reading; put = old.put ++ out ∷ []; outgoing = old.outgoing ++ sent_of out }
  pub count : new.reading.carried ≡ old.reading.carried + 1
  pub few : new.reading.carried ≤ most_lines

-- the reading ended
pub record ReadsEnd (old new : EnvWorking) : Type 0 where
  pub end : InputEnd
  pub same : new ≡ record old { reading = new.reading; ended = Some end }
  pub count : new.reading.carried ≡ old.reading.carried

-- A line is read, or the end; nothing is where the reading has ended, or memory is refused.
abbrev pub Reads : Lexicon → List TableRow → EnvWorking → Result Bool Refused → EnvWorking → Type 0
Reads names routes old (Ok true) new = (old.ended ≡ None) × (ReadsLine names routes old new ⊎ ReadsEnd old new)
Reads names routes old (Ok false) new = (new ≡ old) × (old.ended ≢ None)
Reads names routes old (Err _) new = new ≡ old

-- The front of the outlet is taken and noted; nothing is where the outlet is empty, or memory is refused.
abbrev pub Receives : EnvWorking → List (Station × List Item) → Result Bool Refused → EnvWorking → List (Station × List Item) → Type 0
Receives old before (Ok true) new after =
    (i : Item) × (waiting before Outlet ≡ i ∷ waiting after Outlet) × ChangesOnly before after Outlet
    × (new ≡ record old { received = old.received ++ i ∷ []; output = new.output })
Receives old before (Ok false) new after = (new ≡ old) × (after ≡ before) × (waiting before Outlet ≡ [])
Receives old before (Err _) new after = (new ≡ old) × (after ≡ before)

abbrev pub EnvStepsTo : Structure → List TableRow → ℕ → EnvWorking → List (Station × List Item) → Result Bool Refused → EnvWorking → List (Station × List Item) → Type 0
EnvStepsTo structure routes worker old before result new after = EnvStepsAs structure routes worker old before (answer_of result) new after
