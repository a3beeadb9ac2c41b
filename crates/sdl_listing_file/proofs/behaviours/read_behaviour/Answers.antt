use Rattle.std.proofs.Common.{arith, ◌≡◌, ◌≢◌, List, AllPairs, ◌+◌, ◌<◌, Some, None, set, slice_get, get_or, length, refl, sym, ap, subst, ◌∙◌}
use Rattle.std.proofs.lemmas.List.{length-set, get_or_default}
use Rattle.std.proofs.lemmas.Option.{slice_get_within}
use Rattle.sdl_signal.specs.declared.ids.SetId.{SetId}
use Rattle.sdl_listing_file.specs.declared.place.AgentsKey.TheVariants as key
use Rattle.sdl_listing_file.specs.Tables.{texts_at}
use Rattle.sdl_listing_file.specs.File.{IsListed, IsNamedIn, AreSlots, taken}
use Rattle.sdl_listing_file.specs.Walks.{file_of, own}
use Rattle.sdl_listing_file.proofs.SlotLemmas.{AreFree, free_here, free_behind, free_at_first, named_here, is_listed, listed_put, taken_put}
use Rattle.sdl_listing_file.proofs.behaviours.read_behaviour.Goals as goal

pub loop-set-init : goal.loop-set-init
loop-set-init c = record {
  all = refl;
  listed = c.requires.listed;
  count = omega arith;
  free = free_at_first c.args.slots.now.items c.as_slice.result.now c.in_ok-sets.sets.items c.as_slice-each.result.now c.as_slice.ensures.value c.as_slice-each.ensures.value c.in_ok-sets.ensures.sets.free;
}

pub put-requires : goal.put-requires
put-requires c =
    let zero : SetId = record { 0 = 0 } in
    let sets : List SetId = c.as_slice-each.result.now in
    let i = c.loop-set.set-index in
    let x : SetId = get_or sets i zero in
    let is : x ≡ get_or sets i x = get_or_default sets i zero x c.loop-set-test.true in
    let free = free_here c.loop-set.slots.items sets i x c.loop-set.invariant.free c.loop-set-test.true is in
    let within = slice_get_within c.loop-set.slots.items x.0 None free in
    subst (λ (x : SetId). x.0 < length c.loop-set.slots.items) (sym c.in_ok-listed.ensures.listed.set) within

pub loop-set-preserved : goal.loop-set-preserved
loop-set-preserved c =
    let zero : SetId = record { 0 = 0 } in
    let sets : List SetId = c.as_slice-each.result.now in
    let i = c.loop-set.set-index in
    let x : SetId = get_or sets i zero in
    let is : x ≡ get_or sets i x = get_or_default sets i zero x c.loop-set-test.true in
    let slots = c.loop-set.slots.items in
    let l = c.in_ok-listed.listed in
    let w = c.args.walk.now in
    let P = IsListed c.args.structure.now c.args.constants.now (file_of w) in
    let names = texts_at key.Sets (own w) in
    let same : l.set ≡ x = c.in_ok-listed.ensures.listed.set in
    let put : c.put.new.slots.items ≡ set slots l.set.0 (Some l) = c.put.ensures in
    let free = free_here slots sets i x c.loop-set.invariant.free c.loop-set-test.true is in
    let named : IsNamedIn c.args.structure.now names x = named_here c.args.structure.now names c.in_ok-sets.sets.items sets i x c.as_slice-each.ensures.value c.in_ok-sets.ensures.sets.named c.loop-set-test.true is in
    let own_free : slice_get slots l.set.0 ≡ Some None = subst (λ (y : SetId). slice_get slots y.0 ≡ Some None) (sym same) free in
    let listed : P l = is_listed c.args.structure.now c.args.constants.now (file_of w) (own w) _ l c.in_ok-listed.ensures.listed (record { structure = refl; constants = refl; variables = c.in_ok-variables.ensures.read; states = c.in_ok-states.ensures.names }) c.requires.table named in
    let apart : AllPairs (λ (a b : SetId). a.0 ≢ b.0) sets = subst (λ (xs : List SetId). AllPairs (λ (a b : SetId). a.0 ≢ b.0) xs) (sym c.as_slice-each.ensures.value) c.in_ok-sets.ensures.sets.apart in
    let behind : AreFree (set slots x.0 (Some l)) sets (i + 1) = free_behind slots sets i x (Some l) apart c.loop-set.invariant.free c.loop-set-test.true is in
    record {
      all = ap (λ xs. length xs) put ∙ (length-set slots l.set.0 (Some l) ∙ c.loop-set.invariant.all);
      listed = subst (λ xs. AreSlots P xs) (sym put) (listed_put P slots l c.loop-set.invariant.listed listed);
      count = ap taken put ∙ (taken_put slots l.set.0 l own_free ∙ omega (arith, c.loop-set.invariant.count));
      free = subst (λ xs. AreFree xs sets (i + 1)) (sym put) (subst (λ (y : SetId). AreFree (set slots y.0 (Some l)) sets (i + 1)) (sym same) behind);
    }

pub returns-clause-count : goal.returns-clause-count
returns-clause-count c =
    let long : length c.as_slice-each.result.now ≡ length c.in_ok-sets.sets.items = ap (λ (xs : List SetId). length xs) c.as_slice-each.ensures.value in
    omega (arith, c.loop-set.invariant.count, long, c.in_ok-sets.ensures.sets.all)
