-- The routes found so far: those whose places are before a bound.
use Rattle.std.specs.Prelude.{◌≡◌, ℕ, suc, List, [], ◌∷◌, ⊤, Contains}
use Rattle.std.specs.List.{AllByRecursion}
use Rattle.sdl_structure_parts.specs.Structure.{Structure}
use Rattle.sdl_routes.specs.declared.route.TableRow.{TableRow}
use Rattle.sdl_routes.specs.Routes.{IsRoute, row_place, AreInOrder}
use Rattle.sdl_structure_parts.specs.Order.{IsBefore}

-- the first place behind all that begin with this one
abbrev pub place_behind : List ℕ → List ℕ
place_behind [] = []
place_behind (x ∷ []) = suc x ∷ []
place_behind (x ∷ y ∷ ys) = x ∷ place_behind (y ∷ ys)

-- the second list begins with the first
abbrev pub Begins : List ℕ → List ℕ → Type 0
Begins [] ys = ⊤
Begins (x ∷ xs) [] = ⊥
Begins (x ∷ xs) (y ∷ ys) = (y ≡ x) × Begins xs ys

-- the rows are the routes before the bound, each once, in order
pub record HasFound (s : Structure) (bound : List ℕ) (rows : List TableRow) : Type 0 where
  pub sound : AllByRecursion (λ row. IsRoute s row × IsBefore (row_place row) bound) rows
  pub order : AreInOrder rows
  pub complete : (row : TableRow) → IsRoute s row → IsBefore (row_place row) bound → Contains rows row
