use Rattle.std.proofs.Common.{◌≡◌, List, ◌++◌}
use Rattle.std.specs.VecDeque.Iter.{deque_iter_rest}
use Rattle.sdl_signal.specs.declared.values.Item.{Item}
use Rattle.sdl_run_recount.specs.Sorted.{lists_in, Gains}
use Rattle.sdl_run_recount.specs.Along.{stands_at, given}
use Rattle.sdl_run_recount.proofs.by_route.ByRoute.add_queue.Given as goal

abbrev pub invariant-loop-item : goal.invariant-loop-item
invariant-loop-item l = (done : List Item) × (l.queue ≡ done ++ deque_iter_rest l.item-iterator) × Gains (λ r. given (stands_at l.routes l.place l.station r) done) (lists_in l.fn.self) (lists_in l.self)
