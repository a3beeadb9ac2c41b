use Rattle.std.proofs.Common.{◌≡◌, ◌<◌, length, sym, ◌∙◌, arith, below_more}
use Rattle.std.proofs.lemmas.List.{length-map}
use Rattle.sdl_run_recount.specs.Sorted.{lists_in, items_at}
use Rattle.sdl_run_recount.proofs.Sorting.{read_at}
use Rattle.sdl_run_recount.proofs.by_route.ByRoute.first_other.Goals as goal
use Rattle.sdl_run_recount.proofs.by_route.ByRoute.first_other.Goals.{After-are_same}

here : (c : After-are_same) → (items_at (lists_in c.args.self.now) c.loop-route.route ≡ c.as_slice.result.now) × (items_at (lists_in c.args.other.now) c.loop-route.route ≡ c.as_slice-in-loop-route.result.now)
here c =
    let mine = length-map c.args.self.now.lists.items (λ v. v.items) in
    let other = length-map c.args.other.now.lists.items (λ v. v.items) in
    let e = c.requires.routes in
    let f : c.loop-route.route < length c.args.self.now.lists.items = omega arith in
    let g : c.loop-route.route < length c.args.other.now.lists.items = omega arith in (
      read_at (λ v. v.items) c.args.self.now.lists.items c.loop-route.route c.index.result.now f c.index.ensures ∙ sym c.as_slice.ensures.value,
      read_at (λ v. v.items) c.args.other.now.lists.items c.loop-route.route c.index-in-loop-route.result.now g c.index-in-loop-route.ensures ∙ sym c.as_slice-in-loop-route.ensures.value,
    )

pub loop-route-preserved : goal.loop-route-preserved
loop-route-preserved c =
    let h = here (goal.at.loop-route-preserved c).After-are_same in
    below_more (λ r. items_at (lists_in c.args.self.now) r ≡ items_at (lists_in c.args.other.now) r) c.loop-route.route c.loop-route.invariant (h.0 ∙ (c.if-not-are_same.ensures ∙ sym h.1))

pub returns-then-not-are_same : goal.returns-then-not-are_same
returns-then-not-are_same c =
    let h = here (goal.at.returns-then-not-are_same c).After-are_same in
    let mine = length-map c.args.self.now.lists.items (λ v. v.items) in
    (omega arith, (λ e. c.if-not-are_same.ensures (sym h.0 ∙ (e ∙ h.1))), c.loop-route.invariant)
