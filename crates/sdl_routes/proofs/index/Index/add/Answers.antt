use Rattle.std.proofs.Common.{◌≡◌, ℕ, ◌+◌, ◌<◌, ◌≤◌, List, Vec, Global, length, sym, subst, arith}
use Rattle.sdl_routes.specs.declared.entries.Entry.{Entry}
use Rattle.sdl_routes.specs.Index.{group_place, IsGroup}
use Rattle.sdl_routes.proofs.Indexed.{on_ok}
use Rattle.sdl_routes.proofs.Groups.{groups_at, indexed}
use Rattle.sdl_routes.proofs.index.Index.add.Goals as goal

pub returns : goal.returns
returns c =
    let row = c.args.row.now in
    let n = c.args.number in
    let old : List (Vec (Vec Entry Global) Global) = c.args.self.now.groups.items in
    let lists : List (Vec (Vec Entry Global) Global) = c.extend.new.lists.items in
    let group : Vec (Vec Entry Global) Global = c.add_to_group.new.group in
    let i : ℕ = c.place_of_group-place.result in
    let place : i ≡ group_place row.source row.route.signal = c.place_of_group-place.ensures.place in
    let count : i + 1 ≤ length lists = c.in_ok-extend.ensures.count in
    let within : i < length lists = omega arith in
    let same = c.in_ok-extend.ensures.same in
    on_ok c.add_to_group.result
    (λ more rows at are.
    let was : IsGroup rows n i c.index_mut.result.now.items = groups_at rows n i old lists c.index_mut.result.now are (same i) within c.index_mut.ensures.value in
    let is : IsGroup rows (n + 1) i group.items =
    subst (λ (m : ℕ). IsGroup rows (n + 1) m group.items) (sym place) (more rows at (subst (λ (m : ℕ). IsGroup rows n m c.index_mut.result.now.items) place was)) in
    indexed rows n i row old lists group at same within place is are)
    c.add_to_group.ensures
