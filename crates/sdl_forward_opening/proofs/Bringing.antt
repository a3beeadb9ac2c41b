-- Who puts at a station is who brings items there.
use Rattle.std.proofs.Common.{◌≡◌, ◌≢◌, ◌⊎◌, ℕ, zero, suc, ◌+◌, ◌<◌, ◌≤◌, Bool, true, false, not, cond, ◌||◌, List, [], ◌∷◌, ◌++◌, length, map, Option, Some, None, option_map, unwrap_or, slice_get, slice_index_or, Contains, refl, inl, inr, ap, sym, ◌∙◌, subst, arith, eqb}
use Rattle.std.proofs.lemmas.Bool.{cond_both, cond-true, cond-false, cases_Bool, false≢true, eq-eqb, eqb-true}
use Rattle.std.proofs.lemmas.Option.{none-some, same_Some, slice_get_cases}
use Rattle.std.specs.Option.{option_to_list, IsSomeAnd}
use Rattle.std.specs.List.{filter, flat_map, AllByRecursion}
use Rattle.sdl_signal.specs.declared.ids.BlockId.{BlockId}
use Rattle.sdl_signal.specs.declared.ids.SignalId.{SignalId}
use Rattle.sdl_structure_parts.specs.declared.parts.Channel.{Channel}
use Rattle.sdl_structure_parts.specs.declared.parts.Set.{Set}
use Rattle.sdl_structure_parts.specs.declared.parts.Direction.TheVariants.{Forth, Back}
use Rattle.sdl_structure_parts.specs.Structure.{Structure, IsStructure, path_of, channel_at, set_at}
use Rattle.sdl_routes.specs.declared.route.Hop.{Hop}
use Rattle.sdl_routes.specs.declared.route.TableRow.{TableRow}
use Rattle.sdl_routes.specs.declared.route.Source.{Source}
use Rattle.sdl_routes.specs.declared.route.Source.TheVariants as source
use Rattle.sdl_routes.specs.declared.route.EndPoint.{EndPoint}
use Rattle.sdl_routes.specs.declared.route.EndPoint.TheVariants as ends
use Rattle.sdl_routes.specs.declared.route.Station.{Station}
use Rattle.sdl_routes.specs.declared.route.Station.TheVariants.{Line, Inlet, Outlet}
use Rattle.sdl_routes.specs.Routes.{IsRoute, IsWalk, Carries, IsLastStation, EachOnce, is_delaying, hop_direction, AreRoutesOf}
use Rattle.sdl_routes.specs.Table.{IsTable, IsTableRoute}
use Rattle.sdl_forward_ends.specs.Stations.{same_station}
use Rattle.sdl_forward_ends.proofs.Same.{same_station_is, same_station_itself, other_station, same_hop_is, same_hop_itself, same_block_is}
use Rattle.sdl_forward_opening.specs.declared.worker.Worker.{Worker}
use Rattle.sdl_forward_opening.specs.declared.worker.Worker.TheVariants.{Block, Environment, Forwarder}
use Rattle.sdl_forward_opening.specs.Stations.{IsStationOf}
use Rattle.sdl_forward_opening.specs.Workers.{Ways, IsAgent, Among, first, next, taker, starter, station_behind, same_worker, blocks_from, delaying_path, delaying_from, workers_in, ways_in, worker_of_set}
use Rattle.sdl_forward_opening.specs.Puts.{giver, putter, givers_at, is_among, puts_at}
use Rattle.sdl_forward_opening.specs.Opens.{Brings}

pub same_worker_is : (v w : Worker) → same_worker v w ≡ true → v ≡ w
same_worker_is (Block b) (Block c) e = ap Block (same_block_is b c e)
same_worker_is Environment Environment e = refl
same_worker_is (Forwarder h) (Forwarder k) e = ap Forwarder (same_hop_is h k e)
same_worker_is (Block b) Environment e = absurd (false≢true e)
same_worker_is (Block b) (Forwarder k) e = absurd (false≢true e)
same_worker_is Environment (Block c) e = absurd (false≢true e)
same_worker_is Environment (Forwarder k) e = absurd (false≢true e)
same_worker_is (Forwarder h) (Block c) e = absurd (false≢true e)
same_worker_is (Forwarder h) Environment e = absurd (false≢true e)

pub same_worker_itself : (w : Worker) → same_worker w w ≡ true
same_worker_itself (Block b) = eq-eqb b.0 b.0 refl
same_worker_itself Environment = refl
same_worker_itself (Forwarder h) = same_hop_itself h

-- one of several

in_all : (ws : List Worker) (w : Worker) → is_among ws w ≡ true → Among w ws
in_all [] w e = absurd (false≢true e)
in_all (v ∷ ws) w e =
    elim (cases_Bool (same_worker v w)) [
      | inl t ↦ inl (sym (same_worker_is v w t))
      | inr t ↦ inr (in_all ws w (subst (λ (b : Bool). (b || is_among ws w) ≡ true) t e))
    ]

or_right : (a b : Bool) → b ≡ true → (a || b) ≡ true
or_right true b e = refl
or_right false b e = e

all_in : (ws : List Worker) (w : Worker) → Among w ws → is_among ws w ≡ true
all_in [] w m = absurd m
all_in (v ∷ ws) w m = elim m [
  | inl e ↦ subst (λ (b : Bool). (b || is_among ws w) ≡ true) (sym (subst (λ (x : Worker). same_worker x w ≡ true) e (same_worker_itself w))) refl
  | inr n ↦ or_right (same_worker v w) (is_among ws w) (all_in ws w n)
]

pub among_left : {X : Type 0} (x : X) (xs ys : List X) → Among x xs → Among x (xs ++ ys)
among_left x [] ys m = absurd m
among_left x (y ∷ xs) ys m = elim m [ inl e ↦ inl e | inr n ↦ inr (among_left x xs ys n) ]

pub among_right : {X : Type 0} (x : X) (xs ys : List X) → Among x ys → Among x (xs ++ ys)
among_right x [] ys m = m
among_right x (y ∷ xs) ys m = inr (among_right x xs ys m)

pub among_filter : {X : Type 0} (test : X → Bool) (x : X) (xs : List X) → Among x (filter test xs) → Among x xs × (test x ≡ true)
among_filter test x [] m = absurd m
among_filter test x (y ∷ ys) m =
    cond_both (test y) (y ∷ filter test ys) (filter test ys) (λ (zs : List _). Among x zs → Among x (y ∷ ys) × (test x ≡ true))
    (λ e n. elim n [ inl f ↦ (inl f, subst (λ z. test z ≡ true) (sym f) e) | inr p ↦ (let r = among_filter test x ys p in (inr r.0, r.1)) ])
    (λ e n. let r = among_filter test x ys n in (inr r.0, r.1)) m

pub among_cases : {X : Type 0} (x : X) (xs ys : List X) → Among x (xs ++ ys) → Among x xs ⊎ Among x ys
among_cases x [] ys m = inr m
among_cases x (y ∷ xs) ys m = elim m [
  | inl e ↦ inl (inl e)
  | inr n ↦ elim (among_cases x xs ys n) [ inl a ↦ inl (inr a) | inr b ↦ inr b ]
]

-- who puts along some route
module _ (str : Structure) (s : Station) (w : Worker) where
  given_one : (o : Option Worker) → Among w (option_to_list o) → o ≡ Some w
  given_one None m = absurd m
  given_one (Some v) m = elim m [ inl e ↦ ap Some (sym e) | inr n ↦ absurd n ]

  giver_row : (rows : List TableRow) → Among w (givers_at str rows s) → (r : ℕ) × (row : TableRow) × (slice_get rows r ≡ Some row) × (putter str s row ≡ Some w)
  giver_row [] m = absurd m
  giver_row (row ∷ rows) m = elim (among_cases w (option_to_list (putter str s row)) (givers_at str rows s) m) [
    | inl a ↦ (0, row, refl, given_one (putter str s row) a)
    | inr b ↦ (let r = giver_row rows b in (suc r.0, r.1, r.2, r.3))
  ]

  pub puts_row : (rows : List TableRow) → puts_at str rows s w ≡ true → (r : ℕ) × (row : TableRow) × (slice_get rows r ≡ Some row) × (putter str s row ≡ Some w)
  puts_row rows e = giver_row rows (in_all (givers_at str rows s) w e)

  row_giver : (rows : List TableRow) (r : ℕ) (row : TableRow) → slice_get rows r ≡ Some row → putter str s row ≡ Some w → Among w (givers_at str rows s)
  row_giver [] r row at e = absurd (none-some row at)
  row_giver (x ∷ rows) zero row at e =
      among_left w (option_to_list (putter str s x)) (givers_at str rows s) (subst (λ (o : Option Worker). Among w (option_to_list o)) (sym (ap (putter str s) (same_Some x row at) ∙ e)) (inl refl))
  row_giver (x ∷ rows) (suc r) row at e = among_right w (option_to_list (putter str s x)) (givers_at str rows s) (row_giver rows r row at e)

  pub row_puts : (rows : List TableRow) (r : ℕ) (row : TableRow) → slice_get rows r ≡ Some row → putter str s row ≡ Some w → puts_at str rows s w ≡ true
  row_puts rows r row at e = all_in (givers_at str rows s) w (row_giver rows r row at e)

-- along stations

-- the first that is given is brought by who begins
giver_first : (v : Worker) (ss : List Station) (s : Station) → first ss ≡ Some s → giver v ss s ≡ Some v
giver_first v [] s e = absurd (none-some s e)
giver_first v (t ∷ ss) s e = cond-true (same_station t s) (Some v) (giver (taker t) ss s) (subst (λ (u : Station). same_station t u ≡ true) (same_Some t s e) (same_station_itself t))

behind_among : (s : Station) (ss : List Station) (t : Station) → station_behind s ss ≡ Some t → Among t ss
behind_among s [] t e = absurd (none-some t e)
behind_among s (x ∷ ss) t e =
    elim (cases_Bool (same_station x s)) [
      | inl y ↦ inr (first_among ss t (sym (cond-true (same_station x s) (slice_get ss 0) (station_behind s ss) y) ∙ e))
      | inr y ↦ inr (behind_among s ss t (sym (cond-false (same_station x s) (slice_get ss 0) (station_behind s ss) y) ∙ e))
    ]
  where
    first_among : (ss : List Station) (t : Station) → slice_get ss 0 ≡ Some t → Among t ss
    first_among [] t e = absurd (none-some t e)
    first_among (y ∷ ss) t e = inl (sym (same_Some y t e))

pub not_among : {X : Type 0} (x : X) (xs : List X) → AllByRecursion (λ y. x ≢ y) xs → Among x xs → ⊥
not_among x [] h m = m
not_among x (y ∷ ys) h m = elim m [ inl e ↦ h.0 e | inr n ↦ not_among x ys h.1 n ]

-- the one behind a station is brought by who takes from that
giver_behind : (v : Worker) (ss : List Station) (s t : Station) → EachOnce ss → station_behind s ss ≡ Some t → giver v ss t ≡ Some (taker s)
giver_behind v [] s t once e = absurd (none-some t e)
giver_behind v (x ∷ ss) s t once e =
    let other : same_station x t ≡ false = other_station x t (λ f. not_among x ss once.0 (subst (λ (u : Station). Among u ss) (sym f) (later e))) in
    cond-false (same_station x t) (Some v) (giver (taker x) ss t) other ∙
    elim (cases_Bool (same_station x s)) as (λ _. giver (taker x) ss t ≡ Some (taker s)) [
      | inl y ↦ giver_first (taker x) ss t (sym (cond-true (same_station x s) (slice_get ss 0) (station_behind s ss) y) ∙ e) ∙ ap (λ (u : Station). Some (taker u)) (same_station_is x s y)
      | inr y ↦ giver_behind (taker x) ss s t once.1 (sym (cond-false (same_station x s) (slice_get ss 0) (station_behind s ss) y) ∙ e)
    ]
  where
    later : station_behind s (x ∷ ss) ≡ Some t → Among t ss
    later e = elim (cases_Bool (same_station x s)) [
      | inl y ↦ head_among ss (sym (cond-true (same_station x s) (slice_get ss 0) (station_behind s ss) y) ∙ e)
      | inr y ↦ behind_among s ss t (sym (cond-false (same_station x s) (slice_get ss 0) (station_behind s ss) y) ∙ e)
    ]
      where
        head_among : (ss : List Station) → slice_get ss 0 ≡ Some t → Among t ss
        head_among [] e = absurd (none-some t e)
        head_among (y ∷ ss) e = inl (sym (same_Some y t e))

pub has_behind : (s : Station) (ss : List Station) (t : Station) → station_behind s ss ≡ Some t → Among s ss
has_behind s [] t e = absurd (none-some t e)
has_behind s (x ∷ ss) t e =
    elim (cases_Bool (same_station x s)) [
      | inl y ↦ inl (sym (same_station_is x s y))
      | inr y ↦ inr (has_behind s ss t (sym (cond-false (same_station x s) (slice_get ss 0) (station_behind s ss) y) ∙ e))
    ]

-- who puts along lines and then a last station: who begins, at the first, and else the forwarder of the line before
giver_cases : (s : Station) (w : Worker) (last : Station) (ls : List Hop) (v : Worker) → EachOnce (map Line ls ++ last ∷ []) → giver v (map Line ls ++ last ∷ []) s ≡ Some w
    → ((v ≡ w) × (first (map Line ls ++ last ∷ []) ≡ Some s)) ⊎ ((h : Hop) × (Forwarder h ≡ w) × (station_behind (Line h) (map Line ls ++ last ∷ []) ≡ Some s))
giver_cases s w last [] v once e =
    elim (cases_Bool (same_station last s)) [
      | inl y ↦ inl (same_Some v w (sym (cond-true (same_station last s) (Some v) None y) ∙ e), ap Some (same_station_is last s y))
      | inr y ↦ absurd (none-some w (sym (cond-false (same_station last s) (Some v) None y) ∙ e))
    ]
giver_cases s w last (h ∷ hs) v once e =
    let rest = map Line hs ++ last ∷ [] in
    elim (cases_Bool (same_station (Line h) s)) [
      | inl y ↦ inl (same_Some v w (sym (cond-true (same_station (Line h) s) (Some v) (giver (Forwarder h) rest s) y) ∙ e), ap Some (same_station_is (Line h) s y))
      | inr y ↦ elim (giver_cases s w last hs (Forwarder h) once.1 (sym (cond-false (same_station (Line h) s) (Some v) (giver (Forwarder h) rest s) y) ∙ e)) [
        | inl r ↦ inr (h, r.0, cond-true (same_station (Line h) (Line h)) (slice_get rest 0) (station_behind (Line h) rest) (same_station_itself (Line h)) ∙ r.1)
        | inr r ↦ inr (
          r.0,
          r.1,
          cond-false (same_station (Line h) (Line r.0)) (slice_get rest 0) (station_behind (Line r.0) rest)
              (other_station (Line h) (Line r.0) (λ f. not_among (Line h) rest once.0 (subst (λ (u : Station). Among u rest) (sym f) (has_behind (Line r.0) rest s r.2)))) ∙ r.2,
        )
      ]
    ]

pub set_agent : (o : Option Set) → IsAgent (elim o as (λ _. Worker) [ None ↦ Environment | Some d ↦ Block d.block ])
set_agent None = tt
set_agent (Some d) = tt

pub starter_agent : (s : Structure) (from : Source) → IsAgent (starter s from)
starter_agent s (source.Set t) = set_agent (set_at s t)
starter_agent s (source.Gate g) = tt

pub all_at : {X : Type 0} (P : X → Type 0) (xs : List X) (k : ℕ) (x : X) → AllByRecursion P xs → slice_get xs k ≡ Some x → P x
all_at P [] k x h e = absurd (none-some x e)
all_at P (y ∷ xs) zero x h e = subst P (same_Some y x e) h.0
all_at P (y ∷ xs) (suc k) x h e = all_at P xs k x h.1 e

first_in : (ss : List Station) (t : Station) → slice_get ss 0 ≡ Some t → Among t ss
first_in [] t e = absurd (none-some t e)
first_in (y ∷ ss) t e = inl (sym (same_Some y t e))

agent_next : (t : Ways) (w : Worker) (r : ℕ) → IsAgent w → next t w r ≡ first (t.stations r)
agent_next t (Block b) r a = refl
agent_next t Environment r a = refl
agent_next t (Forwarder h) r a = absurd a

module _ (str : Structure) (rows : List TableRow) (r : ℕ) (row : TableRow) (at : slice_get rows r ≡ Some row) (route : IsRoute str row) (once : EachOnce row.route.stations.items) where
  stations_at : (ways_in str rows).stations r ≡ row.route.stations.items
  stations_at = ap (λ (o : Option TableRow). elim o as (λ _. List Station) [ None ↦ [] | Some x ↦ x.route.stations.items ]) at

  start_at : (ways_in str rows).start r ≡ starter str row.source
  start_at = ap (λ (o : Option TableRow). elim o as (λ _. Worker) [ None ↦ Environment | Some x ↦ starter str x.source ]) at

  -- who puts there brings it there
  pub puts_brings : (s : Station) (w : Worker) → putter str s row ≡ Some w → Brings (ways_in str rows) w r s
  puts_brings s w e =
      let ls = filter (is_delaying str) row.route.hops.items in
      let last = route.stations.0 in
      let are : row.route.stations.items ≡ map Line ls ++ last ∷ [] = route.stations.2 in
      elim (giver_cases s w last ls (starter str row.source) (subst EachOnce are once) (sym (ap (λ (ss : List Station). giver (starter str row.source) ss s) are) ∙ e)) [
        | inl q ↦ (
            let agent : IsAgent w = subst IsAgent q.0 (starter_agent str row.source) in
            (agent_next (ways_in str rows) w r agent ∙ (ap first (stations_at ∙ are) ∙ q.1), λ a. start_at ∙ q.0))
        | inr q ↦ (
          subst (λ (v : Worker). next (ways_in str rows) v r ≡ Some s) q.1 (ap (station_behind (Line q.0)) (stations_at ∙ are) ∙ q.2),
          λ a. absurd (subst IsAgent (sym q.1) a),
        )
      ]

  -- and who brings it there puts it
  pub brings_puts : (s : Station) (w : Worker) → Brings (ways_in str rows) w r s → (putter str s row ≡ Some w) × Among s row.route.stations.items
  brings_puts s (Block b) h = (
    ap (λ (v : Worker). giver v row.route.stations.items s) (sym start_at ∙ h.1 tt) ∙ giver_first (Block b) row.route.stations.items s (sym (ap first stations_at) ∙ h.0),
    first_in row.route.stations.items s (sym (ap first stations_at) ∙ h.0),
  )
  brings_puts s Environment h = (
    ap (λ (v : Worker). giver v row.route.stations.items s) (sym start_at ∙ h.1 tt) ∙ giver_first Environment row.route.stations.items s (sym (ap first stations_at) ∙ h.0),
    first_in row.route.stations.items s (sym (ap first stations_at) ∙ h.0),
  )
  brings_puts s (Forwarder k) h =
      let behind : station_behind (Line k) row.route.stations.items ≡ Some s = sym (ap (station_behind (Line k)) stations_at) ∙ h.0 in
      (giver_behind (starter str row.source) row.route.stations.items (Line k) s once behind, behind_among (Line k) row.route.stations.items s behind)
