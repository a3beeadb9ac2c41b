-- Who puts at a station, route by route.
use Rattle.std.proofs.Common.{◌≡◌, ℕ, zero, suc, ◌+◌, ◌<◌, List, [], ◌∷◌, ◌++◌, length, take, Option, Some, None, option_map, slice_get, refl, ap, sym, ◌∙◌, subst, arith, add-one}
use Rattle.std.proofs.lemmas.Option.{none-some, same_Some}
use Rattle.std.proofs.lemmas.List.{append_assoc, append-nil}
use Rattle.std.specs.Option.{option_to_list}
use Rattle.std.specs.List.{flat_map, AllByRecursion}
use Rattle.sdl_structure_parts.specs.Structure.{Structure}
use Rattle.sdl_routes.specs.declared.route.Route.{Route}
use Rattle.sdl_routes.specs.declared.route.Source.{Source}
use Rattle.sdl_routes.specs.declared.route.Station.{Station}
use Rattle.sdl_routes.specs.declared.route.TableRow.{TableRow}
use Rattle.sdl_routes.specs.Routes.{IsRoute, IsSource}
use Rattle.sdl_forward_opening.specs.declared.worker.Worker.{Worker}
use Rattle.sdl_forward_opening.specs.Workers.{starter}
use Rattle.sdl_forward_opening.specs.Puts.{giver, putter, givers_at}
use Rattle.sdl_forward_opening.proofs.Bringing.{all_at}

flat_step : {X Y : Type 0} (g : X → List Y) (k : ℕ) (xs : List X) (x : X) → slice_get xs k ≡ Some x → flat_map g (take (suc k) xs) ≡ flat_map g (take k xs) ++ g x
flat_step g zero [] x e = absurd (none-some x e)
flat_step g zero (y ∷ xs) x e = ap (λ z. g z ++ []) (same_Some y x e) ∙ append-nil (g x)
flat_step g (suc k) [] x e = absurd (none-some x e)
flat_step g (suc k) (y ∷ xs) x e = ap (λ zs. g y ++ zs) (flat_step g k xs x e) ∙ sym (append_assoc (g y) (flat_map g (take k xs)) (g x))

-- the row of a route that was read
row_there : (rows : List TableRow) (n : ℕ) (route : Route) → Some route ≡ option_map (λ (row : TableRow). row.route) (slice_get rows n) → (row : TableRow) × (slice_get rows n ≡ Some row) × (row.route ≡ route)
row_there [] n route e = absurd (none-some route (sym e))
row_there (x ∷ rows) zero route e = (x, refl, sym (same_Some route x.route e))
row_there (x ∷ rows) (suc n) route e = row_there rows n route e

-- one route more
pub givers_more : (str : Structure) (rows : List TableRow) (s : Station) (n : ℕ) (route : Route) (first : Worker) (old new : List Worker) (answer : Option Worker) (stations : List Station)
    → AllByRecursion (IsRoute str) rows → Some route ≡ option_map (λ (row : TableRow). row.route) (slice_get rows n)
    → ((source : Source) → IsSource str route.start source → first ≡ starter str source) → stations ≡ route.stations.items → answer ≡ giver first stations s
    → old ≡ givers_at str (take n rows) s → new ≡ old ++ option_to_list answer → new ≡ givers_at str (take (n + 1) rows) s
givers_more str rows s n route first old new answer stations sound at f are is before more =
    let there = row_there rows n route at in
    let row : TableRow = there.0 in
    let source : IsSource str row.route.start row.source = (all_at (IsRoute str) rows n row sound there.1).source in
    let starts : first ≡ starter str row.source = f row.source (subst (λ (r : Route). IsSource str r.start row.source) there.2 source) in
    let same : answer ≡ putter str s row =
    is ∙ (ap (λ (ss : List Station). giver first ss s) (are ∙ ap (λ (r : Route). r.stations.items) (sym there.2)) ∙ ap (λ (w : Worker). giver w row.route.stations.items s) starts) in
    more ∙ (ap (λ (ws : List Worker). ws ++ option_to_list answer) before
    ∙ (ap (λ (o : Option Worker). givers_at str (take n rows) s ++ option_to_list o) same
    ∙ (sym (flat_step (λ (r : TableRow). option_to_list (putter str s r)) n rows row there.1)
    ∙ ap (λ (k : ℕ). givers_at str (take k rows) s) (sym (add-one n)))))
