-- The lines of a chart. (This project's own.)
use Rattle.std.specs.Prelude.{ℕ, ◌+◌, ◌-◌, nat_lt, ◌==◌, List, [], ◌∷◌, ◌++◌, length, flat_map, Option, None, Some, if◌then◌else◌, option_map, unwrap_or, slice_get, slice_index_or, take, drop, codes, decimal}
use Rattle.sdl_signal.specs.declared.values.Item.{Item}
use Rattle.sdl_signal.specs.declared.values.Pid.{Pid}
use Rattle.sdl_signal.specs.declared.values.Pid.TheVariants as pid
use Rattle.sdl_transition_behaviour.specs.declared.step.Frame.{Frame}
use Rattle.sdl_transition_behaviour.specs.declared.step.Next.{Next}
use Rattle.sdl_transition_behaviour.specs.declared.step.Next.TheVariants as next
use Rattle.sdl_transition_behaviour.specs.declared.step.Step.{Step}
use Rattle.sdl_instances_log.specs.declared.event.Cause.{Cause}
use Rattle.sdl_instances_log.specs.declared.event.Cause.TheVariants as cause
use Rattle.sdl_instances_log.specs.declared.event.Done.{Done}
use Rattle.sdl_instances_log.specs.declared.event.Done.TheVariants as done
use Rattle.sdl_instances_log.specs.declared.event.Event.{Event}
use Rattle.sdl_instances_log.specs.declared.event.Event.TheVariants as event
use Rattle.sdl_instances_log.specs.declared.event.Trigger.{Trigger}
use Rattle.sdl_instances_log.specs.declared.event.Trigger.TheVariants as trigger
use Rattle.sdl_run_outcome.specs.declared.environment_output.EnvOut.{EnvOut}
use Rattle.sdl_run_outcome.specs.declared.environment_output.EnvOut.TheVariants as env_out
use Rattle.sdl_structure_parts.specs.Structure.{Structure}
use Rattle.sdl_app_file_commands.specs.Texts.{signal_text, block_text, gate_text}
use Rattle.sdl_chart_page.specs.declared.page.Row.{Row}
use Rattle.sdl_chart_text.specs.Signals.{pid_text, signal_with_values}
use Rattle.sdl_chart_text.specs.Legends.{Legend, spot_text, start_text, end_gate_text, finish_text, state_of, left_text}

-- a signal, and where its item was output; who sent it; and to whom it goes: the Pid that TO named, or else the end of its route
abbrev pub known_text : Legend → Item → List ℕ
known_text g i = signal_with_values g.structure i.signal ++ spot_text g i.origin

abbrev pub sender_text : Legend → Item → List ℕ
sender_text g i = codes " from " ++ pid_text g.structure i.sender

abbrev pub goal_text : Legend → Item → Option Pid → List ℕ
goal_text g i None = finish_text g.structure g.routes i.route
goal_text g i (Some p) = pid_text g.structure p

abbrev pub whom_text : Legend → Item → List ℕ
whom_text g i = codes " to " ++ goal_text g i i.to

-- the TO part of an output of the environment
abbrev pub to_text : Legend → Option Pid → List ℕ
to_text g None = []
to_text g (Some p) = codes " to " ++ pid_text g.structure p

-- the state before a turn, and what was consumed in it
abbrev pub before_text : Legend → Frame → List ℕ
before_text g f = elim f.state [ None ↦ [] | Some q ↦ state_of g.states f.self_pid q ]

abbrev pub consumed_text : Legend → Item → Frame → List ℕ
consumed_text g i f = (codes " " ++ before_text g f ++ codes ": ") ++ known_text g i ++ sender_text g i

abbrev pub trigger_text : Legend → Trigger → Frame → List ℕ
trigger_text g trigger.Start f = codes " starts"
trigger_text g (trigger.Fire i) f = consumed_text g i f
trigger_text g (trigger.Implicit i) f = consumed_text g i f ++ codes "; no transition"

-- what an action did
abbrev pub sent_text : Legend → Item → List ℕ
sent_text g i =
    codes "; sent " ++ signal_with_values g.structure i.signal ++ whom_text g i ++ (codes " over " ++ start_text g.structure g.routes i.route)
    ++ left_text g.structure (g.left i.origin)

abbrev pub made_text : Structure → Pid → List ℕ
made_text s pid.Null = codes "; created none"
made_text s pid.Env = codes "; created " ++ pid_text s pid.Env
made_text s (pid.Inst set serial) = codes "; created " ++ pid_text s (pid.Inst set serial)

abbrev pub done_text : Legend → Done → List ℕ
done_text g (done.Sent i) = sent_text g i
done_text g (done.NoRoute o x) = codes "; no route for " ++ signal_text g.structure x
done_text g (done.Made p) = made_text g.structure p

-- how a turn ended
abbrev pub stop_text : Option ℕ → List ℕ
stop_text None = codes "; stops"
stop_text (Some n) = codes "; stops" ++ (if n == 0 then [] else codes ", " ++ decimal n ++ codes " dropped")

abbrev pub next_text : Legend → Frame → Next → Option ℕ → List ℕ
next_text g f (next.State q) stopped = codes "; next " ++ state_of g.states f.self_pid q
next_text g f next.Stop stopped = stop_text stopped

abbrev pub end_text : Legend → Frame → Option Step → Option ℕ → List ℕ
end_text g f None stopped = codes "; stays " ++ before_text g f
end_text g f (Some step) stopped = next_text g f step.next stopped

abbrev pub cause_text : Cause → List ℕ
cause_text cause.NoInstance = codes "noinstance"
cause_text cause.Gone = codes "gone"

-- an event of a block
abbrev pub event_text : Legend → ℕ → Event → List ℕ
event_text g b (event.Entered i p) = pid_text g.structure p ++ codes " receives " ++ known_text g i
event_text g b (event.Discarded i c) = (block_text g.structure (record { 0 = b }) ++ codes " discards ") ++ known_text g i ++ whom_text g i ++ (codes ", " ++ cause_text c)
event_text g b (event.Turn p t f step did stopped) = pid_text g.structure p ++ trigger_text g t f ++ flat_map (done_text g) did.items ++ end_text g f step stopped

-- a receipt of the environment, and an output of it
abbrev pub receipt_text : Legend → Item → List ℕ
receipt_text g i = (codes "env " ++ end_gate_text g.structure g.routes i.route ++ codes " receives ") ++ known_text g i ++ sender_text g i

abbrev pub output_text : Legend → EnvOut → List ℕ
output_text g (env_out.Sent i) =
    (codes "env " ++ start_text g.structure g.routes i.route ++ codes " sends ") ++ signal_with_values g.structure i.signal ++ to_text g i.to ++ left_text g.structure (g.left i.origin)
output_text g (env_out.NoRoute o line) =
    (codes "env " ++ gate_text g.structure line.gate ++ codes " sends ") ++ signal_with_values g.structure line.signal ++ to_text g line.to ++ codes ", no route"

-- an event of a list, by its place
abbrev pub text_at : {X : Type 0} → (X → List ℕ) → List X → ℕ → List ℕ
text_at text xs n = unwrap_or (option_map text (slice_get xs n)) []

-- the event of a row: of a log, of the receipts or of the outputs of the environment
abbrev pub row_text : Legend → List (List Event) → List Item → List EnvOut → Row → List ℕ
row_text g logs received put r =
    if nat_lt r.list (length logs) then text_at (event_text g r.list) (slice_index_or logs r.list []) r.number
    else if r.list == length logs then text_at (receipt_text g) received r.number
    else text_at (output_text g) put r.number

-- a line: the number of its row, which counts from 1, and the event
abbrev pub line_text : Legend → List (List Event) → List Item → List EnvOut → ℕ → Row → List ℕ
line_text g logs received put n r = (decimal (n + 1) ++ codes " ") ++ row_text g logs received put r ++ codes "\n"

-- what rows give one behind the other, as their lines; they are numbered from this number on
abbrev pub gathered_from : {X : Type 0} → (ℕ → Row → List X) → ℕ → List Row → List X
gathered_from give n [] = []
gathered_from give n (r ∷ rows) = give n r ++ gathered_from give (n + 1) rows

-- the text of a chart from one row to before another: line N is the text of row N
abbrev pub chart_text : Legend → List (List Event) → List Item → List EnvOut → ℕ → ℕ → List Row → List ℕ
chart_text g logs received put first past rows = gathered_from (line_text g logs received put) first (take (past - first) (drop first rows))
