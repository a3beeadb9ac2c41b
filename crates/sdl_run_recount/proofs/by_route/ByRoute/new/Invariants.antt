use Rattle.std.proofs.Common.{◌≡◌, ℕ, [], length, map}
use Rattle.sdl_run_recount.specs.Sorted.{items_at}
use Rattle.sdl_run_recount.proofs.by_route.ByRoute.new.Given as goal

abbrev pub invariant-loop-number : goal.invariant-loop-number
invariant-loop-number l = (length (map (λ v. v.items) l.lists.items) ≡ l._number) × ((r : ℕ) → items_at (map (λ v. v.items) l.lists.items) r ≡ [])
