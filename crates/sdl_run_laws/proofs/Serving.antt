-- A worker of an opening has a feed wherever it brings items.
use Rattle.std.proofs.Common.{◌≡◌, ℕ, zero, suc, List, [], ◌∷◌, map, Option, Some, None, slice_get, option_and_then, ap, sym, ◌∙◌, refl}
use Rattle.std.proofs.lemmas.Option.{none-some, same_Some}
use Rattle.sdl_signal.specs.declared.ids.BlockId.{BlockId}
use Rattle.sdl_signal.specs.declared.ids.GateId.{GateId}
use Rattle.sdl_structure_parts.specs.declared.parts.Set.{Set}
use Rattle.sdl_structure_parts.specs.Structure.{Structure}
use Rattle.sdl_routes.specs.declared.route.Hop.{Hop}
use Rattle.sdl_routes.specs.declared.route.Source.TheVariants as source
use Rattle.sdl_routes.specs.declared.route.Station.{Station}
use Rattle.sdl_routes.specs.declared.route.Station.TheVariants.{Line}
use Rattle.sdl_routes.specs.declared.route.TableRow.{TableRow}
use Rattle.sdl_instances.specs.declared.process_set.ProcessSet.{ProcessSet}
use Rattle.sdl_instances.specs.Core.{numbers_of, sets_of}
use Rattle.sdl_instances.specs.Machine.{System}
use Rattle.sdl_forward_ends.specs.Stations.{station_behind}
use Rattle.sdl_forward_ends.specs.Ends.{WorkerEnds, IsSameEnds, AreFresh, HasFeed}
use Rattle.sdl_forward_ends.specs.Ways.{HasGateWays}
use Rattle.sdl_forward.specs.Carries.{HasWaysOn}
use Rattle.sdl_block_hand.specs.Apart.{StartsIn, HasOwnWays}
use Rattle.sdl_forward.specs.ByEnds.{has_feed_still}
use Rattle.sdl_forward_opening.specs.declared.worker.Worker.{Worker}
use Rattle.sdl_forward_opening.specs.declared.worker.Worker.TheVariants.{Block, Environment, Forwarder}
use Rattle.sdl_forward_opening.specs.Workers.{first, starter, workers_in, ways_in}
use Rattle.sdl_forward_opening.specs.Opens.{AreOpen, ends_of}

-- a set by its numbers
set_found : (xs : List Set) (k : ℕ) (d : ProcessSet) → slice_get (map numbers_of xs) k ≡ Some d → (t : Set) × (slice_get xs k ≡ Some t) × (numbers_of t ≡ d)
set_found [] k d at = absurd (none-some d at)
set_found (x ∷ xs) zero d at = (x, refl, same_Some (numbers_of x) d at)
set_found (x ∷ xs) (suc k) d at = set_found xs k d at

-- a route that starts at a set of a block starts at that block
starts_there : (s : Structure) (sets : List ProcessSet) (block : BlockId) (row : TableRow) → sets ≡ sets_of s → StartsIn sets block row → starter s row.source ≡ Block block
starts_there s sets block row are (set, d, is, at, of) =
    let found = set_found s.sets set.0 d (sym (ap (λ (ds : List ProcessSet). slice_get ds set.0) are) ∙ at) in
    ap (starter s) is
    ∙ (ap (λ (o : Option Set). elim o as (λ _. Worker) [ None ↦ Environment | Some t ↦ Block t.block ]) found.1
    ∙ ap Block (ap (λ (x : ProcessSet). x.block) found.2 ∙ of))

-- where the route of an item leads on
leads_on : (s t : Station) (o : Option TableRow) → option_and_then (λ row. station_behind s row.route.stations.items) o ≡ Some t
    → station_behind s (elim o as (λ _. List Station) [ None ↦ [] | Some row ↦ row.route.stations.items ]) ≡ Some t
leads_on s t None e = absurd (none-some t e)
leads_on s t (Some row) e = e

module _ (s : Structure) (rows : List TableRow) (r : ℕ) (row : TableRow) (at : slice_get rows r ≡ Some row) where
  begins_at : (t : Station) → slice_get row.route.stations.items 0 ≡ Some t → first ((ways_in s rows).stations r) ≡ Some t
  begins_at t e = ap (λ (o : Option TableRow). first (elim o as (λ _. List Station) [ None ↦ [] | Some x ↦ x.route.stations.items ])) at ∙ e

  starts_at : (w : Worker) → starter s row.source ≡ w → (ways_in s rows).start r ≡ w
  starts_at w e = ap (λ (o : Option TableRow). elim o as (λ _. Worker) [ None ↦ Environment | Some x ↦ starter s x.source ]) at ∙ e

pub own_ways : (s : Structure) (rows : List TableRow) (all : List WorkerEnds) (shelf : List (Station × ℕ)) (sys : System) (block : BlockId) → AreOpen s rows all shelf → sys.routes ≡ rows → sys.sets ≡ sets_of s
    → HasOwnWays sys block (ends_of (workers_in s) all (Block block))
own_ways s rows all shelf sys block o routes sets r row t at starts begins =
    let here : slice_get rows r ≡ Some row = sym (ap (λ (rs : List TableRow). slice_get rs r) routes) ∙ at in
    o.feeds (Block block) r t (begins_at s rows r row here t begins, λ _. starts_at s rows r row here (Block block) (starts_there s sys.sets block row sets starts))

pub ways_on : (s : Structure) (rows : List TableRow) (all : List WorkerEnds) (shelf : List (Station × ℕ)) (hop : Hop) → AreOpen s rows all shelf → HasWaysOn rows hop (ends_of (workers_in s) all (Forwarder hop))
ways_on s rows all shelf hop o i t leads = o.feeds (Forwarder hop) i.route.0 t (leads_on (Line hop) t (slice_get rows i.route.0) leads, λ agent. absurd agent)

pub gate_ways : (s : Structure) (rows : List TableRow) (all : List WorkerEnds) (shelf : List (Station × ℕ)) → AreOpen s rows all shelf → HasGateWays rows (ends_of (workers_in s) all Environment)
gate_ways s rows all shelf o r row t gate at is begins = o.feeds Environment r t (begins_at s rows r row at t begins, λ _. starts_at s rows r row at Environment (ap (starter s) is))

pub fresh : (s : Structure) (rows : List TableRow) (all : List WorkerEnds) (shelf : List (Station × ℕ)) (w : Worker) → AreOpen s rows all shelf → AreFresh (ends_of (workers_in s) all w)
fresh s rows all shelf w o = record { put = o.put w; taken = o.taken w }

-- the same ends, used

pub own_kept : (sys : System) (block : BlockId) (old new : WorkerEnds) → IsSameEnds old new → HasOwnWays sys block old → HasOwnWays sys block new
own_kept sys block old new same h r row t at starts begins = has_feed_still old new t same (h r row t at starts begins)

pub on_kept : (rows : List TableRow) (hop : Hop) (old new : WorkerEnds) → IsSameEnds old new → HasWaysOn rows hop old → HasWaysOn rows hop new
on_kept rows hop old new same h i t leads = has_feed_still old new t same (h i t leads)

pub gate_kept : (rows : List TableRow) (old new : WorkerEnds) → IsSameEnds old new → HasGateWays rows old → HasGateWays rows new
gate_kept rows old new same h r row t gate at is begins = has_feed_still old new t same (h r row t gate at is begins)
