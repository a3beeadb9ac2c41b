use Rattle.std.proofs.Common.{List, [], ◌∷◌, ◌++◌, append_assoc, ap, sym, ◌∙◌, subst}
use Rattle.std.proofs.lemmas.List.{append-nil}
use Rattle.std.specs.VecDeque.Iter.{deque_iter_rest}
use Rattle.sdl_signal.specs.declared.values.Item.{Item}
use Rattle.sdl_run_recount.specs.Sorted.{lists_in, Gains}
use Rattle.sdl_run_recount.specs.Along.{stands_at, given}
use Rattle.sdl_run_recount.proofs.Sorting.{queue_begins, queue_more, none_left}
use Rattle.sdl_run_recount.proofs.by_route.ByRoute.add_queue.Goals as goal

pub loop-item-init : goal.loop-item-init
loop-item-init c = (
  [],
  sym c.left-item-items.ensures ∙ ap deque_iter_rest (sym c.into_iter-item-iterator.ensures.into_iter_gives),
  queue_begins (stands_at c.args.routes.now c.args.place c.args.station) (lists_in c.args.self.now),
)

pub loop-item-preserved : goal.loop-item-preserved
loop-item-preserved c =
    let i = c.loop-item.invariant in
    let item = c.in-Some.item.now in (
      i.0 ++ item ∷ [],
      i.1 ∙ (ap (λ (xs : List Item). i.0 ++ xs) c.in-Some.ensures.steps ∙ sym (append_assoc i.0 (item ∷ []) (deque_iter_rest c.next.new.self))),
      queue_more (stands_at c.args.routes.now c.args.place c.args.station) i.0 item i.2 c.in_ok-add_standing.ensures,
    )

pub returns : goal.returns
returns c =
    let i = c.loop-item.invariant in
    subst (λ (xs : List Item). Gains (λ r. given (stands_at c.args.routes.now c.args.place c.args.station r) xs) (lists_in c.args.self.now) (lists_in c.loop-item.self))
    (sym (i.1 ∙ (ap (λ (xs : List Item). i.0 ++ xs) (none_left (deque_iter_rest c.loop-item.item-iterator) c.in-None.ensures.steps.0) ∙ append-nil i.0))) i.2
