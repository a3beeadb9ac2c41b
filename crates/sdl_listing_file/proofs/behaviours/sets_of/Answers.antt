use Rattle.std.proofs.Common.{rules, arith, ◌≡◌, ◌≢◌, Some, None, slice_get, length, ap, ◌∙◌}
use Rattle.std.proofs.lemmas.Bool.Decides.{nat_tests}
use Rattle.std.proofs.lemmas.List.{length-map}
use Rattle.std.proofs.lemmas.List.Elements.{All-push}
use Rattle.std.proofs.lemmas.List.Quantifiers.{all_pairs_push}
use Rattle.sdl_signal.specs.declared.ids.SetId.{SetId}
use Rattle.sdl_listing_file.specs.declared.place.AgentsKey.TheVariants as key
use Rattle.sdl_listing_file.specs.Tables.{texts_at, text_of}
use Rattle.sdl_listing_file.specs.File.{IsNamedIn}
use Rattle.sdl_listing_file.specs.Walks.{own}
use Rattle.sdl_listing_file.proofs.SlotLemmas.{set_is_named}
use Rattle.sdl_listing_file.proofs.behaviours.sets_of.Goals as goal

pub push-requires : goal.push-requires
push-requires c = grind (arith, nat_tests)

pub loop-value-preserved : goal.loop-value-preserved
loop-value-preserved c =
    let sets = c.loop-value.sets.items in
    let set = c.in-Some.set in
    let names = texts_at key.Sets (own c.args.walk.now) in
    let others = rw c.as_slice.ensures.value at c.in_default-place_of.ensures in
    let named : IsNamedIn c.args.structure.now names set = set_is_named c.args.structure.now names c.in_ok-texts.texts.now c.loop-value.value-index c.value-item.result c.text_of.result.now set c.loop-value-test.true c.value-item.is c.text_of.ensures c.in_ok-texts.ensures.texts (search rules) in
    record {
      long = omega (arith, c.push.ensures.len, c.loop-value.invariant.long);
      named = rw c.push.ensures.items (All-push (IsNamedIn c.args.structure.now names) sets set c.loop-value.invariant.named named);
      free = rw c.push.ensures.items (All-push (λ (x : SetId). slice_get c.args.slots.now x.0 ≡ Some None) sets set c.loop-value.invariant.free (c.is_free.ensures (search rules)));
      apart = rw c.push.ensures.items (all_pairs_push (λ (x y : SetId). x.0 ≢ y.0) sets set c.loop-value.invariant.apart others);
    }

pub returns-clause-sets : goal.returns-clause-sets
returns-clause-sets c =
    let vs = c.in_ok-texts.texts.now in
    let names = texts_at key.Sets (own c.args.walk.now) in
    let count : length names ≡ length vs = ap (λ l. length l) c.in_ok-texts.ensures.texts ∙ length-map vs text_of in
    record {
      all = omega (arith, count, c.loop-value.invariant.long);
      named = c.loop-value.invariant.named;
      free = c.loop-value.invariant.free;
      apart = c.loop-value.invariant.apart;
    }
