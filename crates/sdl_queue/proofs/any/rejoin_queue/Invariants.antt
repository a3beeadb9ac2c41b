use Rattle.std.proofs.Common.{◌≡◌, map}
use Rattle.std.specs.Arc.{arc_value}
use Rattle.crossbeam_queue.specs.SegTies.{IsSegPassOf}
use Rattle.sdl_queue.specs.Rule.{IsTap, tap_of}
use Rattle.sdl_queue.specs.Ends.{put_of}
use Rattle.sdl_queue.proofs.any.rejoin_queue.Given as goal

abbrev pub invariant-loop-feed : goal.invariant-loop-feed
invariant-loop-feed g l =
    (goal.iterator-loop-feed g).can_next l.feed-iterator ×
    (goal.iterator-loop-feed g).is_finite l.feed-iterator ×
    IsSegPassOf (arc_value l.line).queue l.pass × IsTap l.pass.me.view.client
    × ((tap_of l.pass.me.view.client).feeders ≡ l.fn.tap.feeders)
    × ((tap_of l.pass.me.view.client).taken ≡ l.fn.tap.taken)
    × ((tap_of l.pass.me.view.client).joined ≡ map put_of l.yielded)
