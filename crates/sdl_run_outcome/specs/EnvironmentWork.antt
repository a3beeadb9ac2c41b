-- The environment at work: what it reads, outputs, receives and writes. The environment is one agent (Z.101); its worker and
-- the lines are this project's own.
use Rattle.std.specs.Prelude.{◌≡◌, ◌≢◌, ℕ, ◌+◌, ◌<◌, ◌≤◌, ◌⊎◌, List, [], ◌∷◌, ◌++◌, Option, None, Some, All, length, map, take, flat_map, slice_get, unwrap_or, ⊤}
use Rattle.std.specs.Io.KnownBytes.{Appends}
use Rattle.sdl_signal.specs.declared.ids.GateId.{GateId}
use Rattle.sdl_signal.specs.declared.values.Pid.{Pid}
use Rattle.sdl_signal.specs.declared.values.Pid.TheVariants as pid
use Rattle.sdl_signal.specs.declared.values.Origin.{Origin}
use Rattle.sdl_signal.specs.declared.values.Item.{Item}
use Rattle.sdl_signal.specs.declared.values.EnvLine.{EnvLine}
use Rattle.sdl_signal.specs.declared.ends.InputEnd.{InputEnd}
use Rattle.sdl_signal.specs.declared.ends.InputEnd.TheVariants as input
use Rattle.sdl_signal.specs.declared.ends.OutputEnd.{OutputEnd}
use Rattle.sdl_signal.specs.declared.ends.OutputEnd.TheVariants as output
use Rattle.sdl_signal.specs.declared.environment.EnvRead.TheVariants as env
use Rattle.sdl_signal.specs.Names.{Lexicon}
use Rattle.sdl_signal.specs.Line.{line_text}
use Rattle.sdl_signal_lines.specs.Bytes.{ended_line}
use Rattle.sdl_signal.specs.Environment.{Reading, HasCarried, HasRead, EndsItself, most_lines}
use Rattle.sdl_structure_parts.specs.Structure.{Structure, lexicon_of}
use Rattle.sdl_routes.specs.declared.route.TableRow.{TableRow}
use Rattle.sdl_routes.specs.declared.route.Goal.{Goal}
use Rattle.sdl_routes.specs.declared.route.Goal.TheVariants as goal
use Rattle.sdl_routes.specs.declared.route.Source.TheVariants as source
use Rattle.sdl_routes.specs.declared.route.EndPoint.TheVariants as ends
use Rattle.sdl_routes.specs.declared.route.Via.TheVariants as via
use Rattle.sdl_routes.specs.declared.route.Wish.{Wish}
use Rattle.sdl_routes.specs.declared.route.Station.{Station}
use Rattle.sdl_routes.specs.declared.route.Station.TheVariants.{Outlet}
use Rattle.sdl_instances.specs.Legal.{IsLegal}
use Rattle.sdl_instances.specs.Machine.{FitsAt, NoneFits, goal_at}
use Rattle.sdl_instances.specs.Core.{signals_of, sets_of}
use Rattle.sdl_forward.specs.Boards.{stations_of, waiting}
use Rattle.sdl_block_hand.specs.declared.hand.Stepped.{Stepped}
use Rattle.sdl_block_hand.specs.declared.hand.Stepped.TheVariants.{Did, Idle, Memory}
use Rattle.sdl_block_hand.specs.Work.{beginning_at}
use Rattle.sdl_run_outcome.specs.declared.environment_output.EnvOut.{EnvOut}
use Rattle.sdl_run_outcome.specs.declared.environment_output.EnvOut.TheVariants as env_out

-- The environment at work, as contracts see it: the number of its worker; its reading, and how that ended; what became of the
-- lines read; what was sent and is yet to be put; what it received; and whether all of that could be written.
pub record EnvWorking : Type 0 where
  pub number : ℕ
  pub reading : Reading
  pub ended : Option InputEnd
  pub put : List EnvOut
  pub outgoing : List Item
  pub received : List Item
  pub output : OutputEnd

-- what of an output went along a route
abbrev pub sent_of : EnvOut → List Item
sent_of (env_out.Sent i) = i ∷ []
sent_of (env_out.NoRoute o line) = []

abbrev pub env_sent : List EnvOut → List Item
env_sent outs = flat_map sent_of outs

-- where an output comes from
abbrev pub origin_of : EnvOut → Origin
origin_of (env_out.Sent i) = i.origin
origin_of (env_out.NoRoute o line) = o

abbrev pub env_origins : List EnvOut → List Origin
env_origins outs = map origin_of outs

-- the origins have this worker, and the numbers n, n + 1, n + 2 and so on
abbrev pub AreCounted : ℕ → ℕ → List Origin → Type 0
AreCounted worker n [] = Unit {0}
AreCounted worker n (o ∷ more) = (o.worker ≡ worker) × (o.number ≡ n) × AreCounted worker (n + 1) more

-- the goal of a line's TO part
abbrev pub goal_to : Option Pid → Goal
goal_to None = goal.Anywhere
goal_to (Some p) = goal_at p

-- what the output of a line asks of its route
abbrev pub wish_for : EnvLine → Wish
wish_for line = record { source = source.Gate line.gate; signal = line.signal.id; goal = goal_to line.to; via = via.Any }

-- The n-th output of the environment is that of the line: along a fitting route, or none fits.
abbrev pub IsOutputOf : List TableRow → ℕ → ℕ → EnvLine → EnvOut → Type 0
IsOutputOf routes worker n line (env_out.Sent i) =
    (i ≡ record { origin = record { worker = worker; number = n }; stamp = 0; signal = line.signal; sender = pid.Env; to = line.to; route = i.route })
    × FitsAt routes (wish_for line) i.route
IsOutputOf routes worker n line (env_out.NoRoute o l) =
    (o ≡ record { worker = worker; number = n }) × (l ≡ line) × NoneFits routes (wish_for line)

-- one output for each line, numbered from n on
abbrev pub AreOutputsOf : List TableRow → ℕ → ℕ → List EnvLine → List EnvOut → Type 0
AreOutputsOf routes worker n [] [] = ⊤
AreOutputsOf routes worker n (line ∷ lines) (out ∷ outs) = IsOutputOf routes worker n line out × AreOutputsOf routes worker (n + 1) lines outs
AreOutputsOf routes worker n _ _ = ⊥

-- the line that a received item is written as: at the gate where its route ends, without a TO part
abbrev pub end_gate_of : List TableRow → Item → GateId
end_gate_of routes i = elim (slice_get routes i.route.0) [ None ↦ record { 0 = 0 } | Some row ↦ row.route.end_gate ]

abbrev pub received_line : List TableRow → Item → EnvLine
received_line routes i = record { gate = end_gate_of routes i; signal = i.signal; to = None }

-- the text of received items, each as a line with its newline
abbrev pub received_text : Lexicon → List TableRow → List Item → List ℕ
received_text names routes items = flat_map (λ i. ended_line (unwrap_or (line_text names (received_line routes i)) [])) items

-- the text was written whole, or a shorter front of it
abbrev pub HasWritten : Option (List ℕ) → Option (List ℕ) → List ℕ → OutputEnd → Type 0
HasWritten old new text output.Whole = Appends old new text
HasWritten old new text output.WriteFault = (n : ℕ) × (n < length text) × Appends old new (take n text)

-- the item's route ends in the environment
abbrev pub GoesOut : List TableRow → Item → Type 0
GoesOut routes i = (row : TableRow) × (gate : GateId) × (slice_get routes i.route.0 ≡ Some row) × (row.route.end ≡ ends.Environment gate)

-- the item's route starts in the environment
abbrev pub ComesIn : List TableRow → Item → Type 0
ComesIn routes i = (row : TableRow) × (gate : GateId) × (slice_get routes i.route.0 ≡ Some row) × (row.source ≡ source.Gate gate)

-- before anything was read
pub record IsEnvFresh (worker : ℕ) (w : EnvWorking) : Type 0 where
  pub number : w.number ≡ worker
  pub begins : (names : Lexicon) (start : Option (List ℕ)) → HasCarried names start start w.reading []
  pub none : w.reading.carried ≡ 0
  pub ended : w.ended ≡ None
  pub put : w.put ≡ []
  pub outgoing : w.outgoing ≡ []
  pub received : w.received ≡ []
  pub output : w.output ≡ output.Whole

-- where the reading has ended, it ended by itself
abbrev pub OwnEnd : Option InputEnd → Type 0
OwnEnd None = ⊤
OwnEnd (Some end) = EndsItself (env.Ended end)

-- how the reading ended: where it did not, it stopped after so many lines
abbrev pub input_end : EnvWorking → InputEnd
input_end w = elim w.ended [ None ↦ input.Stopped (length w.put) | Some end ↦ end ]

module _ (structure : Structure) (routes : List TableRow) (worker : ℕ) where
  -- the item may travel
  abbrev pub IsLegalItem : Item → Type 0
  IsLegalItem i = IsLegal (signals_of structure) (length (sets_of structure)) routes i

  -- What was read so far of an input that told its bytes at the start: the lines that were output, or, after the end of the
  -- reading, the whole of it.
  abbrev pub ReadSoFar : Option (List ℕ) → Option (List ℕ) → EnvWorking → List EnvLine → Type 0
  ReadSoFar start now w lines = elim w.ended [ None ↦ HasCarried (lexicon_of structure) start now w.reading lines | Some end ↦ HasRead (lexicon_of structure) start now lines end ]

  abbrev pub HasReadSoFar : Option (List ℕ) → Option (List ℕ) → EnvWorking → Type 0
  HasReadSoFar start now w = (lines : List EnvLine) × AreOutputsOf routes worker 0 lines w.put × ReadSoFar start now w lines

  -- The whole reading: each line gave one output.
  abbrev pub HasReadAll : Option (List ℕ) → Option (List ℕ) → List EnvOut → InputEnd → Type 0
  HasReadAll start now outs end = (lines : List EnvLine) × AreOutputsOf routes worker 0 lines outs × HasRead (lexicon_of structure) start now lines end

  -- what was written so far
  abbrev pub HasWrittenSoFar : Option (List ℕ) → Option (List ℕ) → EnvWorking → Type 0
  HasWrittenSoFar start now w = HasWritten start now (received_text (lexicon_of structure) routes w.received) w.output

  -- Between two steps: what is in hand may travel and comes from the environment, and the lines read are not too many.
  pub record IsEnvSound (w : EnvWorking) : Type 0 where
    pub number : w.number ≡ worker
    pub legal : All IsLegalItem w.outgoing
    pub coming : All (ComesIn routes) w.outgoing
    pub few : w.reading.carried ≤ most_lines
    pub one : length w.outgoing ≤ 1
    pub counted : length w.put ≡ w.reading.carried

  -- how a step read on: the reading had ended, or a line more was output, or the reading ended
  abbrev pub ReadsOn : EnvWorking → List EnvOut → EnvWorking → Type 0
  ReadsOn old outs new =
      ((outs ≡ []) × (new.ended ≡ old.ended) × (new.reading ≡ old.reading))
      ⊎ ((old.ended ≡ None) × (new.ended ≡ None) × (length outs ≡ 1) × (new.reading.carried ≡ old.reading.carried + 1))
      ⊎ ((old.ended ≡ None) × (new.ended ≢ None) × (outs ≡ []) × (new.reading.carried ≡ old.reading.carried))

  -- A step from old to new: what it output, what it put, and what it took from the outlet.
  pub record EnvWorks (old : EnvWorking) (before : List (Station × List Item)) (new : EnvWorking) (after : List (Station × List Item)) : Type 0 where
    pub outs : List EnvOut
    pub put : List Item
    pub taken : List Item
    -- it takes at most one item, the front of the outlet; each item that it puts goes to the back of its route's first
    -- station, in order; nothing else on the board changes
    pub one : length taken ≤ 1
    pub outlet : waiting before Outlet ++ beginning_at routes Outlet put ≡ taken ++ waiting after Outlet
    pub others : (s : Station) → s ≢ Outlet → waiting after s ≡ waiting before s ++ beginning_at routes s put
    pub stations : stations_of after ≡ stations_of before
    -- it receives what it takes
    pub came : new.received ≡ old.received ++ taken
    -- what it puts, and then what is in hand, was in hand, or is sent by the new outputs
    pub went : put ++ new.outgoing ≡ old.outgoing ++ env_sent outs
    -- the outputs go on by the new ones, which are numbered on and may travel
    pub outputs : new.put ≡ old.put ++ outs
    pub numbered : AreCounted worker (length old.put) (env_origins outs)
    pub reads : ReadsOn old outs new
    pub legal : All IsLegalItem (env_sent outs)
    pub coming : All (ComesIn routes) (env_sent outs)
    pub sound : IsEnvSound new

  -- there is nothing to do: the reading has ended, nothing is in hand, and the outlet is empty
  pub record IsEnvAtRest (w : EnvWorking) (board : List (Station × List Item)) : Type 0 where
    pub ended : w.ended ≢ None
    pub outgoing : w.outgoing ≡ []
    pub outlet : waiting board Outlet ≡ []

  -- What a step did, by its answer. A step that did something read a line or the end, put an item, or took one.
  abbrev pub EnvStepsAs : EnvWorking → List (Station × List Item) → Stepped → EnvWorking → List (Station × List Item) → Type 0
  EnvStepsAs old before Did new after =
      (w : EnvWorks old before new after) × ((new.ended ≡ old.ended) × (w.outs ≡ []) × (w.put ≡ []) × (w.taken ≡ []) → ⊥)
  EnvStepsAs old before Idle new after = (new ≡ old) × (after ≡ before) × IsEnvAtRest old before
  EnvStepsAs old before Memory new after = EnvWorks old before new after
