use Rattle.std.proofs.Common.{◌≡◌, ◌≢◌, ℕ, ◌+◌, ◌<◌, ◌≤◌, List, Vec, Global, length, slice_set, refl, ap, sym, ◌∙◌, arith}
use Rattle.std.proofs.lemmas.List.{length-set}
use Rattle.sdl_routes.specs.declared.entries.Entry.{Entry}
use Rattle.sdl_routes.specs.Index.{group_place, goal_place, end_goal, AreEntries}
use Rattle.sdl_routes.proofs.Indexed.{on_ok}
use Rattle.sdl_routes.proofs.Groups.{group_at, grouped, list_at_other, end_goal_place}
use Rattle.sdl_routes.proofs.index.add_to_group.Goals as goal

pub returns : goal.returns
returns c =
    let row = c.args.row.now in
    let n = c.args.number in
    let p : ℕ = group_place row.source row.route.signal in
    let old : List (Vec Entry Global) = c.args.group.now.items in
    let lists : List (Vec Entry Global) = c.extend.new.lists.items in
    let first : Vec Entry Global = c.add_entries.new.entries in
    let second : Vec Entry Global = c.add_entries-2.new.entries in
    let i : ℕ = c.place_of_goal-place.result in
    let place : i ≡ goal_place (end_goal row.route.end) = c.place_of_goal-place.ensures ∙ ap goal_place c.goal_of-goal.ensures in
    let some : 0 < goal_place (end_goal row.route.end) = end_goal_place row.route.end in
    let count : i + 1 ≤ length lists = c.in_ok-extend.ensures.count in
    let within : i < length lists = omega arith in
    let not : i ≢ 0 = λ e. omega arith in
    let long : length (slice_set lists 0 first) ≡ length lists = length-set lists 0 first in
    let same = c.in_ok-extend.ensures.same in
    on_ok c.add_entries-2.result
    (λ more rows at are.
    let one : AreEntries rows (n + 1) p 0 first.items =
    c.in_ok-add_entries.ensures rows p 0 at (record { group = refl; goal = refl })
    (group_at rows n p 0 old lists c.index_mut.result.now are (same 0) (omega arith) c.index_mut.ensures.value) in
    let two : AreEntries rows (n + 1) p i second.items =
    more rows p i at (record { group = refl; goal = sym c.place_of_goal-place.ensures })
    (group_at rows n p i old (slice_set lists 0 first) c.index_mut-2.result.now are (list_at_other lists 0 i first not ∙ same i) (omega arith) c.index_mut-2.ensures.value) in
    grouped rows n p i row old lists first second at same within place one two are)
    c.add_entries-2.ensures
