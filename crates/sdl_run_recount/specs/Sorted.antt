-- Items that are sorted by their routes. (This project's own.)
use Rattle.std.specs.Prelude.{◌≡◌, ℕ, zero, suc, ◌<◌, List, [], ◌∷◌, ◌++◌, map, length}
use Rattle.sdl_signal.specs.declared.values.Item.{Item}
use Rattle.sdl_run_outcome.specs.Books.{of_route}
use Rattle.sdl_run_recount.specs.declared.by_route.ByRoute.{ByRoute}

-- the lists, by the numbers of the routes
abbrev pub lists_in : ByRoute → List (List Item)
lists_in sorted = map (λ v. v.items) sorted.lists.items

-- the list of a route; none where there is no such route
abbrev pub items_at : List (List Item) → ℕ → List Item
items_at [] r = []
items_at (xs ∷ more) zero = xs
items_at (xs ∷ more) (suc r) = items_at more r

-- the routes below n have the same items in both
abbrev pub AreSameBelow : ℕ → List (List Item) → List (List Item) → Type 0
AreSameBelow n xss yss = (r : ℕ) → r < n → items_at xss r ≡ items_at yss r

-- each route gets, at the back of its list, those of the items named for it that are its own
pub record Gains (named : ℕ → List Item) (old new : List (List Item)) : Type 0 where
  pub routes : length new ≡ length old
  pub each : (r : ℕ) → r < length old → items_at new r ≡ items_at old r ++ of_route r (named r)
