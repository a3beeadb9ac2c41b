use Rattle.std.proofs.Common.{◌≡◌, ℕ, length}
use Rattle.sdl_routes.specs.Index.{list_at}
use Rattle.sdl_routes.proofs.index.extend.Given as goal

abbrev pub invariant-loop : goal.invariant-loop
invariant-loop g l =
    ((n : ℕ) → list_at l.lists.items n ≡ list_at l.fn.lists.items n)
    × (length l.lists.items ≡ l.counter)
