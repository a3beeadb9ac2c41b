use Rattle.std.proofs.Common.{[], List, ap, ◌∙◌, get_or, deque_items}
use Rattle.std.proofs.Math.Seq.{map-set_same}
use Rattle.sdl_instances_processes.specs.declared.numbered.Numbered.{Numbered}
use Rattle.sdl_instances_processes.proofs.by_signal.make_room.Goals as goal

pub returns-clause-same : goal.returns-clause-same
returns-clause-same c n =
    ap (λ (l : List (List Numbered)). get_or l n [])
    (map-set_same deque_items c.extend.new.queues.items c.args.place c.reserve.new.self c.index_mut-queue.result.now (c.reserve.ensures.items ∙ ap deque_items c.index_mut-queue.ensures.value))
    ∙ c.extend.ensures.same n
