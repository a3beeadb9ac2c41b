-- The routes found grow from bound to bound.
use Rattle.std.proofs.Common.{◌≡◌, ◌≢◌, ℕ, ◌<◌, List, [], ◌∷◌, ◌++◌, Contains, inl, inr, refl, sym, subst, arith, lit<}
use Rattle.std.specs.List.{AllByRecursion}
use Rattle.std.proofs.lemmas.List.Elements.{Contains-append_left, Contains-append_right}
use Rattle.sdl_structure_parts.specs.Structure.{Structure}
use Rattle.sdl_routes.specs.declared.route.TableRow.{TableRow}
use Rattle.sdl_routes.specs.Routes.{IsRoute, StandsBefore, row_place, AreInOrder}
use Rattle.sdl_structure_parts.specs.Order.{IsBefore}
use Rattle.sdl_routes.specs.Found.{place_behind, Begins, HasFound}
use Rattle.sdl_routes.proofs.Places.{before_after_cases, before_to_after, begins_to_after, before_longer, before_first, before_longer_cases, begins_cases, below_number}

pub each_of : {X : Type 0} (P Q : X → Type 0) (xs : List X) → ((x : X) → P x → Q x) → AllByRecursion P xs → AllByRecursion Q xs
each_of P Q [] f h = tt
each_of P Q (x ∷ xs) f h = (f x h.0, each_of P Q xs f h.1)

pub each_more : {X : Type 0} (P : X → Type 0) (xs : List X) (y : X) → AllByRecursion P xs → P y → AllByRecursion P (xs ++ y ∷ [])
each_more P [] y h p = (p, tt)
each_more P (x ∷ xs) y h p = (h.0, each_more P xs y h.1 p)

pub order_more : (rows : List TableRow) (row : TableRow) → AreInOrder rows → AllByRecursion (λ r. StandsBefore r row) rows → AreInOrder (rows ++ row ∷ [])
order_more [] row order before = (tt, tt)
order_more (r ∷ rows) row order before =
    (each_more (λ y. StandsBefore r y) rows row order.0 before.0, order_more rows row order.1 before.1)

pub found_moves : (s : Structure) (low high : List ℕ) (rows : List TableRow) → HasFound s low rows
    → ((row : TableRow) → IsRoute s row → IsBefore (row_place row) low → IsBefore (row_place row) high)
    → ((row : TableRow) → IsRoute s row → IsBefore (row_place row) high → IsBefore (row_place row) low)
    → HasFound s high rows
found_moves s low high rows found up down = record {
  sound = each_of _ (λ row. IsRoute s row × IsBefore (row_place row) high) rows (λ row h. (h.0, up row h.0 h.1)) found.sound;
  order = found.order;
  complete = λ row route before. found.complete row route (down row route before);
}

pub found_none : (s : Structure) → HasFound s (0 ∷ []) []
found_none s = record {
  sound = tt;
  order = tt;
  complete = λ row route before. elim before [ inl lt ↦ absurd (omega arith) | inr same ↦ absurd same.1 ];
}

-- no route has the place itself
pub found_enter : (s : Structure) (p : List ℕ) (rows : List TableRow) → ((row : TableRow) → IsRoute s row → row_place row ≢ p)
    → HasFound s p rows → HasFound s (p ++ 0 ∷ []) rows
found_enter s p rows none found =
    found_moves s p (p ++ 0 ∷ []) rows found (λ row route h. before_longer p (0 ∷ []) (row_place row) h)
    (λ row route h. elim (before_first p (row_place row) h) [ inl less ↦ less | inr e ↦ absurd (none row route e) ])

-- no route begins so
pub found_skip : (s : Structure) (p : List ℕ) (rows : List TableRow) → ((row : TableRow) → IsRoute s row → ¬ Begins p (row_place row))
    → HasFound s p rows → HasFound s (place_behind p) rows
found_skip s p rows none found =
    found_moves s p (place_behind p) rows found (λ row route h. before_to_after p (row_place row) h)
    (λ row route h. elim (before_after_cases p (row_place row) h) [ inl less ↦ less | inr begins ↦ absurd (none row route begins) ])

-- each route that begins so goes on with a number below the end
pub found_leave : (s : Structure) (x : ℕ) (xs : List ℕ) (end : ℕ) (rows : List TableRow)
    → ((row : TableRow) → IsRoute s row → row_place row ≢ x ∷ xs)
    → ((row : TableRow) (n : ℕ) (rest : List ℕ) → IsRoute s row → row_place row ≡ (x ∷ xs) ++ n ∷ rest → n < end)
    → HasFound s ((x ∷ xs) ++ end ∷ []) rows → HasFound s (place_behind (x ∷ xs)) rows
found_leave s x xs end rows none below found =
    let p : List ℕ = x ∷ xs in
    found_moves s (p ++ end ∷ []) (place_behind p) rows found
    (λ row route h. elim (before_longer_cases p (end ∷ []) (row_place row) h)
    [ inl less ↦ before_to_after p (row_place row) less | inr begins ↦ begins_to_after x xs (row_place row) begins ])
    (λ row route h. elim (before_after_cases p (row_place row) h) [
      | inl less ↦ before_longer p (end ∷ []) (row_place row) less
      | inr begins ↦ elim (begins_cases p (row_place row) begins) [
        | inl e ↦ absurd (none row route e)
        | inr (n, rest, e) ↦
            let P : List ℕ → Type 0 = λ q. IsBefore q (p ++ end ∷ []) in
            subst P (sym e) (below_number p n end rest (below row n rest route e))
      ]
    ])

begins_all : (p : List ℕ) → Begins p p
begins_all [] = tt
begins_all (x ∷ xs) = (refl, begins_all xs)

-- the one route that begins so
pub found_push : (s : Structure) (x : ℕ) (xs : List ℕ) (row : TableRow) (rows : List TableRow) → IsRoute s row → row_place row ≡ x ∷ xs
    → ((other : TableRow) → IsRoute s other → Begins (x ∷ xs) (row_place other) → other ≡ row)
    → HasFound s (x ∷ xs) rows → HasFound s (place_behind (x ∷ xs)) (rows ++ row ∷ [])
found_push s x xs row rows route at only found =
    let p : List ℕ = x ∷ xs in
    let Sound : TableRow → Type 0 = λ r. IsRoute s r × IsBefore (row_place r) (place_behind p) in
    let begins : Begins p (row_place row) = subst (λ (q : List ℕ). Begins p q) (sym at) (begins_all p) in
    record {
      sound = each_more Sound rows row
          (each_of _ Sound rows (λ r h. (h.0, before_to_after p (row_place r) h.1)) found.sound)
          (route, begins_to_after x xs (row_place row) begins);
      order = order_more rows row found.order
          (each_of _ (λ r. StandsBefore r row) rows (λ r h. subst (λ (q : List ℕ). IsBefore (row_place r) q) (sym at) h.1) found.sound);
      complete = λ other is_route before. elim (before_after_cases p (row_place other) before) [
        | inl less ↦ Contains-append_left rows (row ∷ []) other (found.complete other is_route less)
        | inr starts ↦
            let P : TableRow → Type 0 = λ r. Contains (rows ++ row ∷ []) r in
            subst P (sym (only other is_route starts)) (Contains-append_right rows (row ∷ []) row (0, lit< tt, refl))
      ];
    }
