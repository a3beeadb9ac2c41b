-- The events that a past stands for, the earliest first.
use Rattle.std.specs.Prelude.{List, [], ◌∷◌, ◌++◌, None, Some}
use Rattle.sdl_instances_log.specs.declared.event.Event.{Event}
use Rattle.sdl_instances_log.specs.declared.event.Event.TheVariants as event
use Rattle.sdl_instances_log.specs.declared.event.Trigger.TheVariants as trigger
use Rattle.sdl_instances_log.specs.declared.past.Past.{Past, Nothing, Entered', Discarded', Turn', Skipped'}

abbrev pub events_of : Past → List Event
events_of Nothing = []
events_of (Entered' shape before item pid) = events_of before ++ event.Entered item.value pid ∷ []
events_of (Discarded' shape before item cause) = events_of before ++ event.Discarded item.value cause ∷ []
events_of (Turn' shape before pid trigger frame step done stopped) =
    events_of before ++ event.Turn pid trigger.value frame.value (Some step.value) done.value stopped ∷ []
events_of (Skipped' shape before frame item) =
    events_of before ++ event.Turn frame.value.self_pid (trigger.Implicit item.value) frame.value None (record { items = [] }) None ∷ []
