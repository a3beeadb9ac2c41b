use Rattle.std.proofs.Common.{◌≡◌, ◌∙◌, ℕ, ◌+◌, [], ◌∷◌, ◌++◌, length, map, IfSome, ap, sym, subst, append_assoc, arith}
use Rattle.std.specs.List.{AllByRecursion}
use Rattle.std.proofs.lemmas.List.{nil_from_length, length-append}
use Rattle.sdl_listing_body.specs.Sound.{IsSound}
use Rattle.sdl_listing_binding.specs.Parts.{transition_parts, listed_transitions, head_parts, count_of}
use Rattle.sdl_listing_runs.proofs.Longer.{one_longer}
use Rattle.sdl_listing_runs.proofs.Stored.{stored_on, stored_all}
use Rattle.sdl_listing_runs.proofs.runs.run_rows.Goals as goal

pub loop-row-preserved : goal.loop-row-preserved
loop-row-preserved g c =
    let rest = c.next.new.self.rest.items in
    let row = c.in-Some.row in
    let yielded = c.loop-row.yielded in
    let first : c.loop-row.row-iterator.rest.items ≡ row ∷ rest = c.in-Some.ensures.steps.0 in
    let number = c.loop-row.invariant.number in
    let longer : length (yielded ++ row ∷ []) ≡ length yielded + 1 = length-append yielded (row ∷ []) in
    record {
      can_next = tt;
      is_finite = tt;
      all = append_assoc yielded (row ∷ []) rest ∙ (ap (λ l. yielded ++ l) (sym first) ∙ c.loop-row.invariant.all);
      number = omega (arith, longer, number);
      count = one_longer _ c.keep.new.stored.items c.loop-row.stored.items _ c.in_ok-keep.ensures.kept ∙ ap (λ (n : ℕ). n + 1) c.loop-row.invariant.count;
      parts = stored_on c.store.result (map transition_parts c.loop-row.stored.items) (map transition_parts c.keep.new.stored.items) (listed_transitions 0 g.K.Listing.rows)
          c.loop-row.number row c.loop-row.row-iterator.rest.items rest
          c.in_ok-keep.ensures.kept c.store.ensures.number (c.store.ensures.offer ∙ c.offer_of-offer.ensures) first c.loop-row.invariant.parts;
      sound = (subst (AllByRecursion IsSound) first c.loop-row.invariant.sound).1;
      allowed = c.in_ok-keep.ensures.all;
    }

pub run_waiting-requires-clause-count : goal.run_waiting-requires-clause-count
run_waiting-requires-clause-count g c κs outlives =
    let left = c.loop-row.row-iterator.rest in
    let none = nil_from_length left.items (sym left.ok.0 ∙ c.in-None.ensures.steps.0) in
    let parts : length (c.loop-row.yielded ++ left.items) ≡ length c.loop-row.yielded + length left.items = length-append c.loop-row.yielded left.items in
    let all : length (c.loop-row.yielded ++ left.items) ≡ length g.K.Listing.rows = ap length c.loop-row.invariant.all in
    let own : length c.args.to_store.rows.items ≡ length g.K.Listing.rows = ap length c.requires.listed in
    let empty : length left.items ≡ 0 = ap length none in
    let number = c.loop-row.invariant.number in
    let count = c.loop-row.invariant.count in
    let same : length c.args.to_store.rows.items ≡ length c.loop-row.stored.items = omega (arith, parts, all, own, empty, number, count) in
    subst (λ (n : ℕ). IfSome c.args.waiting.now (λ job. n ≡ count_of (map head_parts job.others.heads.items))) same c.requires.count

pub returns-clause-made : goal.returns-clause-made
returns-clause-made g c = λ sets rows heads.
    let left = c.loop-row.row-iterator.rest in
    let none = nil_from_length left.items (sym left.ok.0 ∙ c.in-None.ensures.steps.0) in
    let stored : map transition_parts c.loop-row.stored.items ≡ listed_transitions 0 g.K.Listing.rows =
    stored_all (map transition_parts c.loop-row.stored.items) (listed_transitions 0 g.K.Listing.rows) c.loop-row.number left.items none c.loop-row.invariant.parts in
    c.run_waiting.ensures.made sets (stored ∙ ap (listed_transitions 0) rows) heads
