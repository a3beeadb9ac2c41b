use Rattle.std.proofs.Common.{◌≡◌, ◌∙◌, ◌∷◌, ◌++◌, map, ap, sym, arith}
use Rattle.sdl_listing_binding.specs.Parts.{head_parts, behaviour_head, count_of}
use Rattle.sdl_listing_binding.proofs.Listed.{one_more, taken_last, all_last}
use Rattle.sdl_listing_binding.proofs.behaviours.behaviours_of.Goals as goal

pub loop-head-preserved : goal.loop-head-preserved
loop-head-preserved g c =
    let rest = c.next.new.self.rest.items in
    let old = c.loop-head.made.items in
    let new = c.push_last.new.list.items in
    let b = c.in_ok-behaviour.behaviour in
    let first : c.loop-head.head-iterator.rest.items ≡ c.in-Some.head ∷ rest = c.in-Some.ensures.steps.0 in
    record {
      can_next = tt;
      is_finite = tt;
      count = let all = ap (λ l. count_of (map head_parts l)) first in omega (arith, all, c.in_ok-behaviour.ensures.less, c.loop-head.invariant.count);
      heads = one_more behaviour_head new old b (head_parts c.in-Some.head) (map head_parts rest) c.in_ok-push_last.ensures c.in_ok-behaviour.ensures.head
          ∙ (sym (ap (λ l. map behaviour_head old ++ map head_parts l) first) ∙ c.loop-head.invariant.heads);
      taken = taken_last new old b c.behaviour_of.new.left.items c.loop-head.left.items c.in_ok-push_last.ensures c.in_ok-behaviour.ensures.taken ∙ c.loop-head.invariant.taken;
      by_offer = all_last _ new old b c.in_ok-push_last.ensures c.loop-head.invariant.by_offer c.in_ok-behaviour.ensures.by_offer;
    }
