use Rattle.std.proofs.Common.{◌≡◌, ℕ, ◌<◌, List, Some, slice_get}
use Rattle.sdl_signal.specs.declared.values.Item.{Item}
use Rattle.sdl_routes.specs.declared.route.Station.{Station}
use Rattle.sdl_queue.specs.declared.rest.Rest.{Rest}
use Rattle.sdl_queue.specs.declared.rest.Rest.TheVariants.{Serial}
use Rattle.sdl_run_audit.proofs.recount.are_serial.Given as goal

abbrev pub invariant-loop-number : goal.invariant-loop-number
invariant-loop-number l = (k : ℕ) → k < l.number → (e : Station × Rest) → slice_get l.rests k ≡ Some e → (queue : List Item) × (e.1 ≡ Serial queue)
