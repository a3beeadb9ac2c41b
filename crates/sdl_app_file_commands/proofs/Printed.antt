-- The text of the routes up to one more, and what is appended where a write succeeded.
use Rattle.std.proofs.Common.{◌≡◌, ℕ, zero, suc, ◌+◌, List, [], ◌∷◌, ◌++◌, Option, None, Some, Result, Ok, Err, OnOk, option_map, unwrap_or, slice_get, take, refl, ap, sym, ◌∙◌, append_assoc, append-nil, add-zero, add-one, zero-add, arith}
use Rattle.sdl_structure_parts.specs.Structure.{Structure}
use Rattle.sdl_routes.specs.declared.route.Route.{Route}
use Rattle.sdl_routes.specs.declared.route.TableRow.{TableRow}
use Rattle.sdl_app_file_commands.specs.Texts.{route_line, lines_from, routes_text, line_at}

pub on_ok : {E : Type 0} (r : Result (Unit {0}) E) (P Q : Type 0) → (P → Q) → OnOk r P → OnOk r Q
on_ok (Ok x) P Q f p = f p
on_ok (Err e) P Q f p = tt

module _ (s : Structure) where
  -- the line of the n-th of routes that are numbered from this number on
  abbrev line_from : ℕ → List TableRow → ℕ → List ℕ
  line_from start rows n = unwrap_or (option_map (λ row. route_line s (start + n) row.route) (slice_get rows n)) []

  lines_from-take : (start n : ℕ) (rows : List TableRow) → lines_from s start (take (suc n) rows) ≡ lines_from s start (take n rows) ++ line_from start rows n
  lines_from-take start zero [] = refl
  lines_from-take start zero (row ∷ rows) = append-nil (route_line s start row.route) ∙ ap (λ m. route_line s m row.route) (sym (add-zero start))
  lines_from-take start (suc n) [] = refl
  lines_from-take start (suc n) (row ∷ rows) =
      let here : List ℕ = route_line s start row.route in
      let number : (start + 1) + n ≡ start + suc n = omega arith in
      ap (λ l. here ++ l) (lines_from-take (start + 1) n rows)
      ∙ sym (append_assoc here (lines_from s (start + 1) (take n rows)) (line_from (start + 1) rows n))
      ∙ ap (λ m. (here ++ lines_from s (start + 1) (take n rows)) ++ unwrap_or (option_map (λ (r : TableRow). route_line s m r.route) (slice_get rows n)) []) number

  pub routes_text-more : (rows : List TableRow) (n : ℕ) → routes_text s (take (n + 1) rows) ≡ routes_text s (take n rows) ++ line_at s rows n
  routes_text-more rows n =
      ap (λ m. routes_text s (take m rows)) (add-one n)
      ∙ lines_from-take 0 n rows
      ∙ ap (λ m. routes_text s (take n rows) ++ unwrap_or (option_map (λ (r : TableRow). route_line s m r.route) (slice_get rows n)) []) (zero-add n)

  same_line : (n : ℕ) (o : Option TableRow) → unwrap_or (option_map (λ (r : Route). route_line s n r) (option_map (λ (row : TableRow). row.route) o)) [] ≡ unwrap_or (option_map (λ (row : TableRow). route_line s n row.route) o) []
  same_line n None = refl
  same_line n (Some row) = refl

  -- the line of a route that the table gave
  pub line_of : (rows : List TableRow) (n : ℕ) (route : Route) → Some route ≡ option_map (λ (row : TableRow). row.route) (slice_get rows n) → route_line s n route ≡ line_at s rows n
  line_of rows n route h = ap (λ (o : Option Route). unwrap_or (option_map (λ (r : Route). route_line s n r) o) []) h ∙ same_line n (slice_get rows n)
