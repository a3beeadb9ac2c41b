-- What a turn consumes is not saved in the state of its instance.
use Rattle.std.proofs.Common.{◌≡◌, ℕ, List, Option, None, Some, Bool, false}
use Rattle.sdl_signal.specs.declared.ids.StateId.{StateId}
use Rattle.sdl_signal.specs.declared.values.Pid.{Pid}
use Rattle.sdl_signal.specs.declared.values.Item.{Item}
use Rattle.sdl_transition_saves.specs.Saves.{saved_by}
use Rattle.sdl_transition_behaviour.specs.declared.step.Frame.{Frame}
use Rattle.sdl_transition_behaviour.specs.declared.step.Step.{Step}
use Rattle.sdl_instances_log.specs.declared.event.Done.{Done}
use Rattle.sdl_instances_log.specs.declared.event.Trigger.TheVariants as trigger
use Rattle.sdl_routes.specs.declared.route.Wish.{Wish}
use Rattle.sdl_signal.specs.declared.ids.RouteId.{RouteId}
use Rattle.sdl_instances.specs.Machine.{State, System, Turns}
use Rattle.sdl_instances.specs.Saved.{IsUnsavedBy}

module _ (may : ℕ → Frame → Step → Type 0) (takes : Wish → RouteId → Type 0) (sys : System) where
  pub fired_unsaved : (p : Pid) (old : State) (i : Item) (f : Frame) (step : Option Step) (did : List Done) (stopped : Option ℕ) (new : State)
      → Turns may takes sys p old (trigger.Fire i) f step did stopped new → IsUnsavedBy p i old
  fired_unsaved p old i f None did stopped new h = absurd h
  fired_unsaved p old i f (Some step) did stopped new (r, rest, q, rules, rule, mid, state, out, own, row, became, shown, made) =
      (r, q, (became.place, became.was), state, out.not_saved)

  pub implicit_unsaved : (p : Pid) (old : State) (i : Item) (f : Frame) (step : Option Step) (did : List Done) (stopped : Option ℕ) (new : State)
      → Turns may takes sys p old (trigger.Implicit i) f step did stopped new → IsUnsavedBy p i old
  implicit_unsaved p old i f (Some step) did stopped new h = absurd h
  implicit_unsaved p old i f None did (Some dropped) new h = absurd h
  implicit_unsaved p old i f None did None new (r, rest, q, rules, state, out, own, row, became, shown, nothing) =
      (r, q, (became.place, became.was), state, out.not_saved)
