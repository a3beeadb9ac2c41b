use Rattle.std.proofs.Common.{◌≡◌, ◌+◌, List, [], ◌∷◌, ◌++◌, length, map, ap, ◌∙◌}
use Rattle.std.proofs.lemmas.List.{map-append, length-append}
use Rattle.sdl_signal.specs.declared.values.Item.{Item}
use Rattle.sdl_run_recount.specs.Sorted.{items_at}
use Rattle.sdl_run_recount.proofs.Sorting.{none_more}
use Rattle.sdl_run_recount.proofs.by_route.ByRoute.new.Goals as goal

pub loop-number-preserved : goal.loop-number-preserved
loop-number-preserved c =
    let before = map (λ v. v.items) c.loop-number.lists.items in
    let is : map (λ v. v.items) c.push.new.self.items ≡ before ++ [] ∷ [] =
    ap (map (λ v. v.items)) c.in_ok-push.ensures.items ∙ (map-append (λ v. v.items) c.loop-number.lists.items (c.new.result ∷ []) ∙ ap (λ (xs : List Item). before ++ xs ∷ []) c.new.ensures.items) in (
      ap length is ∙ (length-append before ([] ∷ []) ∙ ap (λ n. n + 1) c.loop-number.invariant.0),
      λ r. ap (λ (xss : List (List Item)). items_at xss r) is ∙ none_more before c.loop-number.invariant.1 r,
    )
