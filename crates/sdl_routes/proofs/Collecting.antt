-- The routes found grow from bound to bound, also where memory for some was refused.
use Rattle.std.proofs.Common.{◌≡◌, ◌≢◌, ℕ, ◌+◌, ◌<◌, ◌≤◌, false, List, [], ◌∷◌, ◌++◌, map, length, Result, Ok, Err, OnOk, IfErr, refl, ap, sym, ◌∙◌, subst, arith, length-append}
use Rattle.sdl_signal.specs.declared.ids.SignalId.{SignalId}
use Rattle.sdl_structure_parts.specs.Structure.{Structure, IsStructure}
use Rattle.sdl_routes.specs.declared.route.Hop.{Hop}
use Rattle.sdl_routes.specs.declared.route.TableRow.{TableRow}
use Rattle.sdl_routes.specs.declared.search.Collected.{Collected}
use Rattle.sdl_routes.specs.Routes.{IsRoute, AreRoutesOf, HasTooMany, hop_number, place, row_place}
use Rattle.sdl_routes.specs.Found.{place_behind, Begins, HasFound}
use Rattle.sdl_routes.specs.Collected.{AddsRoute, HasCollected}
use Rattle.sdl_routes.proofs.Found.{found_none, found_push}
use Rattle.sdl_routes.proofs.Walks.{too_many, hop_from_number, all_found}
use Rattle.sdl_routes.proofs.Counting.{not_too_many}
use Rattle.sdl_routes.proofs.Unique.{route_only}

pub collected_none : (s : Structure) (c : Collected) → c.count ≡ 0 → c.rows.items ≡ [] → HasCollected s (0 ∷ []) c
collected_none s c count kept = record {
  found = [];
  before = found_none s;
  few = omega arith;
  collected = record { count = count; kept = λ e. kept };
}

pub collected_moves : (s : Structure) (low high : List ℕ) (c : Collected) → ((rows : List TableRow) → HasFound s low rows → HasFound s high rows)
    → HasCollected s low c → HasCollected s high c
collected_moves s low high c moves h = record { found = h.found; before = moves h.found h.before; few = h.few; collected = h.collected }

-- the route of these hops stands at their place, and no other begins there
place_same : (row : TableRow) (x : SignalId) (hops : List Hop) → row.route.signal ≡ x → row.route.hops.items ≡ hops → row_place row ≡ place x hops
place_same row x hops e f = ap (λ (y : SignalId). place y row.route.hops.items) e ∙ ap (λ (hs : List Hop). place x hs) f

only_here : (s : Structure) (row : TableRow) (p : List ℕ) → IsRoute s row → row_place row ≡ p
    → (other : TableRow) → IsRoute s other → Begins p (row_place other) → other ≡ row
only_here s row p route at other is begins =
    let P : List ℕ → Type 0 = λ q. Begins q (row_place other) in
    route_only s row route other is (subst P (sym at) begins)

pub collected_push : (s : Structure) (x : SignalId) (hops : List Hop) (row : TableRow) (old new : Collected)
    → IsRoute s row → row.route.signal ≡ x → row.route.hops.items ≡ hops
    → HasCollected s (place x hops) old → AddsRoute old row new → old.count < 4096 → HasCollected s (place_behind (place x hops)) new
collected_push s x hops row old new route signal same h adds room =
    let at : row_place row ≡ place x hops = place_same row x hops signal same in
    let count : old.count ≡ length h.found = h.collected.count in
    let more : length (h.found ++ row ∷ []) ≡ length h.found + 1 = length-append h.found (row ∷ []) in
    let grown : new.count ≡ old.count + 1 = adds.count in
    record {
      found = h.found ++ row ∷ [];
      before = found_push s x.0 (map hop_number hops) row h.found route at (only_here s row (place x hops) route at) h.before;
      few = omega arith;
      collected = record {
        count = omega arith;
        kept = λ e. (adds.kept e).1 ∙ ap (λ (rows : List TableRow). rows ++ row ∷ []) (h.collected.kept (adds.kept e).0);
      };
    }

pub collected_too_many : (s : Structure) (x : SignalId) (hops : List Hop) (row : TableRow) (c : Collected)
    → IsRoute s row → row.route.signal ≡ x → row.route.hops.items ≡ hops
    → HasCollected s (place x hops) c → 4096 ≤ c.count → HasTooMany s
collected_too_many s x hops row c route signal same h full =
    let at : row_place row ≡ place x hops = place_same row x hops signal same in
    let count : c.count ≡ length h.found = h.collected.count in
    let few : length h.found ≤ 4096 = h.few in
    too_many s x hops row h.found route at (only_here s row (place x hops) route at) h.before (omega arith)

-- the hops are known by their numbers
hops_same : (a b : List Hop) → map hop_number a ≡ map hop_number b → a ≡ b
hops_same [] [] e = refl
hops_same [] (k ∷ b) e = cc
hops_same (h ∷ a) [] e = cc
hops_same (h ∷ a) (k ∷ b) e =
    let first : h ≡ k = hop_from_number h k (let f : hop_number h ≡ hop_number k = cc in f) in
    let rest : a ≡ b = hops_same a b (let f : map hop_number a ≡ map hop_number b = cc in f) in
    cc

-- where no route has the hops none has their place
pub none_placed : (s : Structure) (x : SignalId) (hops : List Hop) → ((other : TableRow) → IsRoute s other → other.route.hops.items ≢ hops)
    → (other : TableRow) → IsRoute s other → row_place other ≢ place x hops
none_placed s x hops none other route e =
    let f : map hop_number other.route.hops.items ≡ map hop_number hops = cc in
    none other route (hops_same other.route.hops.items hops f)

-- with all signals passed all routes are counted, and are not too many
pub all_counted : (s : Structure) → IsStructure s → (n : ℕ) (c : Collected) → n ≡ length s.signals → HasCollected s (n ∷ []) c → ¬ HasTooMany s
all_counted s is n c end h =
    not_too_many s h.found (all_found s is h.found (subst (λ (m : ℕ). HasFound s (m ∷ []) h.found) end h.before)) h.few

pub all_kept : (s : Structure) → IsStructure s → (n : ℕ) (c : Collected) → n ≡ length s.signals → c.refused ≡ false → HasCollected s (n ∷ []) c
    → AreRoutesOf s c.rows.items × (length c.rows.items ≤ 4096)
all_kept s is n c end none h =
    let same : h.found ≡ c.rows.items = sym (h.collected.kept none) in
    let P : List TableRow → Type 0 = λ rows. AreRoutesOf s rows × (length rows ≤ 4096) in
    subst P same (all_found s is h.found (subst (λ (m : ℕ). HasFound s (m ∷ []) h.found) end h.before), h.few)

-- what holds of a result, by what holds of another
pub on_ok : {A E : Type 0} (r : Result A E) (P Q : Type 0) → (P → Q) → OnOk r P → OnOk r Q
on_ok (Ok a) P Q f h = f h
on_ok (Err e) P Q f h = h

pub if_err : {A E : Type 0} (r : Result A E) (P Q : E → Type 0) → ((e : E) → P e → Q e) → IfErr r P → IfErr r Q
if_err (Ok a) P Q f h = h
if_err (Err e) P Q f h = f e h
