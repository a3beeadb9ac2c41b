-- The lines of a chart in the textual form of Z.120. (This project's own.)
use Rattle.std.specs.Prelude.{◌≡◌, ℕ, ◌==◌, Bool, true, false, List, [], ◌∷◌, ◌++◌, flat_map, Option, None, Some, if◌then◌else◌, option_map, unwrap_or, slice_get, slice_index_or, codes, decimal}
use Rattle.sdl_signal.specs.declared.ids.StateId.{StateId}
use Rattle.sdl_signal.specs.declared.values.Item.{Item}
use Rattle.sdl_signal.specs.declared.values.Origin.{Origin}
use Rattle.sdl_signal.specs.declared.values.Pid.{Pid}
use Rattle.sdl_signal.specs.declared.values.Pid.TheVariants as pid
use Rattle.sdl_signal.specs.declared.values.Signal.{Signal}
use Rattle.sdl_structure_parts.specs.Structure.{Structure}
use Rattle.sdl_routes.specs.declared.route.TableRow.{TableRow}
use Rattle.sdl_transition_behaviour.specs.declared.step.Frame.{Frame}
use Rattle.sdl_transition_behaviour.specs.declared.step.Next.{Next}
use Rattle.sdl_transition_behaviour.specs.declared.step.Next.TheVariants as next
use Rattle.sdl_transition_behaviour.specs.declared.step.Step.{Step}
use Rattle.sdl_instances_log.specs.declared.event.Done.{Done}
use Rattle.sdl_instances_log.specs.declared.event.Done.TheVariants as done
use Rattle.sdl_instances_log.specs.declared.event.Event.{Event}
use Rattle.sdl_instances_log.specs.declared.event.Event.TheVariants as event
use Rattle.sdl_instances_log.specs.declared.event.Trigger.{Trigger}
use Rattle.sdl_instances_log.specs.declared.event.Trigger.TheVariants as trigger
use Rattle.sdl_run_outcome.specs.declared.environment_output.EnvOut.{EnvOut}
use Rattle.sdl_run_outcome.specs.declared.environment_output.EnvOut.TheVariants as env_out
use Rattle.sdl_app_file_commands.specs.Texts.{signal_text, set_text, gate_text}
use Rattle.sdl_chart_page.specs.declared.page.Row.{Row}
use Rattle.sdl_chart_page.specs.Entries.{entries}
use Rattle.sdl_chart_page.specs.Pages.{Sheet}
use Rattle.sdl_chart_text.specs.Legends.{start_text, end_gate_text, state_of}
use Rattle.sdl_chart_msc.specs.declared.lines.Scene.{Scene}
use Rattle.sdl_chart_msc.specs.declared.messages.Fate.{Fate}
use Rattle.sdl_chart_msc.specs.declared.messages.Fate.TheVariants as fate
use Rattle.sdl_chart_msc.specs.declared.places.Place.{Place}
use Rattle.sdl_chart_msc.specs.Messages.{number_by, logged_at, above_in, fates_in}
use Rattle.sdl_chart_msc.specs.Names.{name_text, pid_text, pid_line, values_text}
use Rattle.sdl_chart_msc.specs.Places.{is_same, ArePlacesOf}

-- What the lines are written by: the structure and its routes; the names of the states of each set; the number of each item's message,
-- and what became of it.
pub record Script : Type 0 where
  pub structure : Structure
  pub routes : List TableRow
  pub states : List (List (List ℕ))
  pub number : Origin → ℕ
  pub fate : Origin → Fate

abbrev pub fate_by : List Fate → ℕ → Fate
fate_by fates n = slice_index_or fates n fate.Astray

abbrev pub script_by : Structure → List TableRow → List (List (List ℕ)) → Sheet → List ℕ → List Fate → Script
script_by s routes states page above fates =
    record { structure = s; routes = routes; states = states; number = number_by page above; fate = λ o. fate_by fates (number_by page above o) }

abbrev pub script_of : Scene → Script
script_of c = script_by c.structure.now c.routes.now c.states.now c.page.now c.messages.now.above.items c.messages.now.fates.items

-- an item as a message: its signal, `m` and the number of the message, and the values
abbrev pub message_text : Script → List ℕ → Item → List ℕ
message_text g before i =
    (before ++ name_text (signal_text g.structure i.signal.id)) ++ (codes ",m" ++ decimal (g.number i.origin)) ++ values_text g.structure i.signal.params.items

-- a consumption, and who sent the item: an instance, or the environment by a gate
abbrev pub source_by : Script → Item → Pid → List ℕ
source_by g i pid.Null = pid_line g.structure (codes " from ") pid.Null
source_by g i pid.Env = codes " from env via " ++ name_text (start_text g.structure g.routes i.route) ++ codes ";\n"
source_by g i (pid.Inst set serial) = pid_line g.structure (codes " from ") (pid.Inst set serial)

abbrev pub source_text : Script → Item → List ℕ
source_text g i = source_by g i i.sender

abbrev pub in_text : Script → Item → List ℕ
in_text g i = message_text g (codes "    in ") i ++ source_text g i

-- An output, and to whom the item went: to the instance that consumed it, or to the environment. It is lost where none did, and the
-- instance is named whose port it entered.
abbrev pub address_text : Script → Item → Fate → List ℕ
address_text g i fate.Astray = codes " to lost;\n"
address_text g i (fate.Entered p) = pid_line g.structure (codes " to lost ") p
address_text g i (fate.Consumed p) = pid_line g.structure (codes " to ") p
address_text g i fate.Received = codes " to env via " ++ name_text (end_gate_text g.structure g.routes i.route) ++ codes ";\n"

abbrev pub out_text : Script → Item → List ℕ
out_text g i = message_text g (codes "    out ") i ++ address_text g i (g.fate i.origin)

-- what an action did
abbrev pub made_text : Structure → Pid → List ℕ
made_text s pid.Null = codes "    action 'created none';\n"
made_text s pid.Env = pid_line s (codes "    create ") pid.Env
made_text s (pid.Inst set serial) = pid_line s (codes "    create ") (pid.Inst set serial)

abbrev pub done_text : Script → Done → List ℕ
done_text g (done.Sent i) = out_text g i
done_text g (done.NoRoute o x) = codes "    action 'no route for " ++ signal_text g.structure x ++ codes "';\n"
done_text g (done.Made p) = made_text g.structure p

-- what a turn begins with; a start has no line
abbrev pub trigger_text : Script → Trigger → List ℕ
trigger_text g trigger.Start = []
trigger_text g (trigger.Fire i) = in_text g i
trigger_text g (trigger.Implicit i) = in_text g i ++ codes "    action 'no transition';\n"

-- how a turn ended: the state is written where it is another than that before
abbrev pub is_at : Option StateId → StateId → Bool
is_at None q = false
is_at (Some r) q = r.0 == q.0

abbrev pub condition_text : Script → Frame → StateId → List ℕ
condition_text g f q = if is_at f.state q then [] else codes "    condition " ++ name_text (state_of g.states f.self_pid q) ++ codes ";\n"

abbrev pub next_text : Script → Frame → Next → List ℕ
next_text g f (next.State q) = condition_text g f q
next_text g f next.Stop = codes "    stop;\n"

abbrev pub end_text : Script → Frame → Option Step → List ℕ
end_text g f None = []
end_text g f (Some step) = next_text g f step.next

abbrev pub turn_text : Script → Trigger → Frame → Option Step → List Done → List ℕ
turn_text g t f step did = trigger_text g t ++ flat_map (done_text g) did ++ end_text g f step

-- an event of a block: only turns have lines
abbrev pub event_text : Script → Event → List ℕ
event_text g (event.Entered i p) = []
event_text g (event.Discarded i c) = []
event_text g (event.Turn p t f step did stopped) = turn_text g t f step did.items

-- the event of a row, where it is one of a log
abbrev pub row_text : Script → List (List Event) → Row → List ℕ
row_text g logs r = unwrap_or (option_map (event_text g) (logged_at logs r)) []

-- a note of an output of the environment that no instance consumed, and of one that has no route
abbrev pub remark_text : Structure → List ℕ → Signal → List ℕ → List ℕ
remark_text s gate x end = (codes "  /* env " ++ name_text gate) ++ (codes ": " ++ name_text (signal_text s x.id)) ++ values_text s x.params.items ++ end

abbrev pub is_consumed : Fate → Bool
is_consumed fate.Astray = false
is_consumed (fate.Entered p) = false
is_consumed (fate.Consumed p) = true
is_consumed fate.Received = false

abbrev pub sent_note : Script → Item → List ℕ
sent_note g i = if is_consumed (g.fate i.origin) then [] else remark_text g.structure (start_text g.structure g.routes i.route) i.signal (codes ", not consumed */\n")

abbrev pub note_text : Script → EnvOut → List ℕ
note_text g (env_out.Sent i) = sent_note g i
note_text g (env_out.NoRoute o line) = remark_text g.structure (gate_text g.structure line.gate) line.signal (codes ", no route */\n")

-- an instance begins at its first place, and ends behind its last one
abbrev pub head_text : Structure → Place → List ℕ
head_text s p = codes "  instance " ++ pid_text s (pid.Inst (record { 0 = p.set }) p.serial) ++ (codes ": process " ++ name_text (set_text s (record { 0 = p.set })) ++ codes ";\n")

abbrev pub foot_text : Option Place → List ℕ
foot_text None = []
foot_text (Some p) = codes "  endinstance;\n"

abbrev pub joint_text : Structure → Option Place → Place → List ℕ
joint_text s None p = head_text s p
joint_text s (Some before) p = if is_same before p then [] else foot_text (Some before) ++ head_text s p

-- what an instance did in a row, where it did something
abbrev pub acts_text : Script → List (List Event) → List Row → Place → List ℕ
acts_text g logs rows p = if p.acts then unwrap_or (option_map (row_text g logs) (slice_get rows p.row)) [] else []

-- a place behind another one, if any
abbrev pub place_text : Script → List (List Event) → List Row → Option Place → Place → List ℕ
place_text g logs rows before p = joint_text g.structure before p ++ acts_text g logs rows p

-- the lines of places, each behind the one before it
abbrev pub lines_after : (Option Place → Place → List ℕ) → Option Place → List Place → List ℕ
lines_after line before [] = []
lines_after line before (p ∷ ps) = line before p ++ lines_after line (Some p) ps

abbrev pub last_of : Option Place → List Place → Option Place
last_of before [] = before
last_of before (p ∷ ps) = last_of (Some p) ps

-- the text of a chart: its notes, and its instances by their places
abbrev pub msc_text : Script → List (List Event) → List EnvOut → List Row → List Place → List ℕ
msc_text g logs put rows places =
    (codes "msc " ++ name_text g.structure.system ++ codes ";\n") ++ flat_map (note_text g) put
    ++ (lines_after (place_text g logs rows) None places ++ foot_text (last_of None places)) ++ codes "endmsc;\n"

-- The chart of a page of these lists: each instance that they tell of has its own lines, in which each of its turns stands once, in the
-- order of its log. An item has the same number of a message where it is output and where it is consumed.
abbrev pub script_with : Structure → List TableRow → List (List (List ℕ)) → List (List Event) → List Item → List EnvOut → Sheet → Script
script_with s routes states logs received put page =
    script_by s routes states page (above_in (entries logs received put) page) (fates_in logs received (entries logs received put) page)

pub record IsMscOf (s : Structure) (routes : List TableRow) (states : List (List (List ℕ))) (logs : List (List Event)) (received : List Item) (put : List EnvOut) (page : Sheet) (text : List ℕ) : Type 0 where
  pub places : List Place
  pub are : ArePlacesOf logs page.rows places
  pub is : text ≡ msc_text (script_with s routes states logs received put page) logs put page.rows places
