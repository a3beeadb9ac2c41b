use Rattle.std.proofs.Common.{◌≡◌, List, Contains, IfSome, IfNone, option_copied, sym, ◌∙◌, subst}
use Rattle.sdl_routes.specs.declared.entries.Entry.{Entry}
use Rattle.sdl_routes.specs.Index.{group_place, goal_place, HasEntry}
use Rattle.sdl_routes.proofs.Groups.{found_at}
use Rattle.sdl_routes.proofs.index.Index.entry_of.Goals as goal

pub returns-in-Some-get-clause-found : goal.returns-in-Some-get-clause-found
returns-in-Some-get-clause-found c =
    let w = c.args.wish.now in
    let group = c.in-Some.ensures.lookup in
    let list = c.in-Some-get.ensures.lookup in
    let at = found_at c.args.self.now.groups.items c.deref.result.now c.place_of_group.result (group_place w.source w.signal) c.place_of_goal.result (goal_place w.goal)
    c.in-Some.group.now c.deref-in-Some.result.now c.in-Some-get.entries.now
    c.deref.ensures.value c.place_of_group.ensures.place group.3.0 group.1 c.deref-in-Some.ensures.value c.place_of_goal.ensures list.3.0 list.1 in
    subst (λ (l : List Entry). IfSome (option_copied c.find.result) (λ (e : Entry). (e.wish ≡ w) × Contains l e)) (c.as_slice.ensures.value ∙ sym at) c.find.ensures.found

pub returns-in-Some-get-clause-none : goal.returns-in-Some-get-clause-none
returns-in-Some-get-clause-none c =
    let w = c.args.wish.now in
    let group = c.in-Some.ensures.lookup in
    let list = c.in-Some-get.ensures.lookup in
    let at = found_at c.args.self.now.groups.items c.deref.result.now c.place_of_group.result (group_place w.source w.signal) c.place_of_goal.result (goal_place w.goal)
    c.in-Some.group.now c.deref-in-Some.result.now c.in-Some-get.entries.now
    c.deref.ensures.value c.place_of_group.ensures.place group.3.0 group.1 c.deref-in-Some.ensures.value c.place_of_goal.ensures list.3.0 list.1 in
    subst (λ (l : List Entry). IfNone (option_copied c.find.result) (HasEntry l w → ⊥)) (c.as_slice.ensures.value ∙ sym at) c.find.ensures.none
