use Rattle.std.proofs.Common.{◌≡◌, ◌<◌, ◌++◌, ◌∷◌, [], length, map, get_or, slice_set, ap, sym, subst, ◌∙◌, arith}
use Rattle.std.proofs.lemmas.List.{get_or-map, length-map, map-set}
use Rattle.sdl_instances_processes.specs.Places.{BySet}
use Rattle.sdl_instances_processes.proofs.SetPlaces.{items_of}
use Rattle.sdl_instances_processes.proofs.by_set.PlacesBySet.add.Goals as goal

pub returns-clause-lists : goal.returns-clause-lists
returns-clause-lists c =
    let vs = c.self.inside.lists.items in
    let i = c.args.set.0 in
    let old = c.index_mut-list.result.now in
    let long = length-map vs items_of in
    let is_in = subst (λ (b : BySet). i < length b.lists) (sym c.self.view_is) c.requires.set in
    let within : i < length vs = omega (arith, long, is_in) in
    let there : old.items ≡ get_or (map items_of vs) i [] = ap items_of c.index_mut-list.ensures.value ∙ sym (get_or-map items_of vs i old [] within) in
    map-set items_of vs i c.push.new.self
    ∙ ap (slice_set (map items_of vs) i) (c.in-Ok.ensures.items ∙ ap (λ l. l ++ c.args.place ∷ []) there)
    ∙ ap (λ (b : BySet). slice_set b.lists i (get_or b.lists i [] ++ c.args.place ∷ [])) c.self.view_is
