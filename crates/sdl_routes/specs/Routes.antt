-- Hops, routes, their order, and which routes fit a wish.
use Rattle.std.specs.Prelude.{◌≡◌, ◌≢◌, ℕ, suc, ◌+◌, ◌*◌, ◌%◌, ◌<◌, ◌≤◌, Bool, false, not, if◌then◌else◌, List, [], ◌∷◌, ◌++◌, map, filter, length, Option, Some, None, option_map, unwrap_or, slice_get, IsSomeAnd, Contains, Any, ◌⊎◌, ⊤}
use Rattle.std.specs.List.{AllByRecursion}
use Rattle.sdl_signal.specs.declared.ids.SignalId.{SignalId}
use Rattle.sdl_signal.specs.declared.ids.GateId.{GateId}
use Rattle.sdl_signal.specs.declared.ids.RouteId.{RouteId}
use Rattle.sdl_structure_parts.specs.declared.parts.Channel.{Channel}
use Rattle.sdl_structure_parts.specs.declared.parts.Owner.TheVariants as owner
use Rattle.sdl_structure_parts.specs.declared.parts.Direction.{Direction}
use Rattle.sdl_structure_parts.specs.declared.parts.Direction.TheVariants.{Forth, Back}
use Rattle.sdl_structure_parts.specs.Structure.{Structure, Path, path_at, set_at, gate_at, channel_at, other_side}
use Rattle.sdl_structure_parts.specs.Rules.{IsBlockGate}
use Rattle.sdl_structure_parts.specs.Order.{IsBefore}
use Rattle.sdl_routes.specs.declared.route.Hop.{Hop}
use Rattle.sdl_routes.specs.declared.route.Route.{Route}
use Rattle.sdl_routes.specs.declared.route.TableRow.{TableRow}
use Rattle.sdl_routes.specs.declared.route.EndPoint.{EndPoint}
use Rattle.sdl_routes.specs.declared.route.EndPoint.TheVariants as ends
use Rattle.sdl_routes.specs.declared.route.Station.{Station}
use Rattle.sdl_routes.specs.declared.route.Station.TheVariants as stations
use Rattle.sdl_routes.specs.declared.route.Wish.{Wish}
use Rattle.sdl_routes.specs.declared.route.Source.{Source}
use Rattle.sdl_routes.specs.declared.route.Source.TheVariants as source
use Rattle.sdl_routes.specs.declared.route.Goal.{Goal}
use Rattle.sdl_routes.specs.declared.route.Goal.TheVariants as goal
use Rattle.sdl_routes.specs.declared.route.Via.{Via}
use Rattle.sdl_routes.specs.declared.route.Via.TheVariants as via

-- a hop is a channel with a direction: its path
abbrev pub hop_direction : Hop → Direction
hop_direction h = if h.back then Back else Forth

abbrev pub hop_path : Structure → Hop → Option Path
hop_path s h = path_at s h.channel (hop_direction h)

-- it carries the signals of that path
abbrev pub Carries : Structure → Hop → SignalId → Type 0
Carries s h signal = IsSomeAnd (hop_path s h) (λ p. Contains p.signals signal)

-- a hop joins the next where it ends on one side of a block gate, and the next starts on the gate's other side
abbrev pub Joins : Structure → Hop → Hop → Type 0
Joins s h k =
    IsSomeAnd (hop_path s h) (λ p. IsSomeAnd (hop_path s k) (λ q.
    IsBlockGate s p.finish.gate × (q.start ≡ record { gate = p.finish.gate; side = other_side p.finish.side })))

-- each hop carries the signal and joins the next
abbrev pub IsWalk : Structure → SignalId → List Hop → Type 0
IsWalk s signal [] = ⊥
IsWalk s signal (h ∷ []) = Carries s h signal
IsWalk s signal (h ∷ k ∷ hops) = Carries s h signal × Joins s h k × IsWalk s signal (k ∷ hops)

-- the last of a list of hops, given its first and the rest
abbrev pub last_hop : Hop → List Hop → Hop
last_hop h [] = h
last_hop h (k ∷ hops) = last_hop k hops

abbrev pub last_of : List Hop → Option Hop
last_of [] = None
last_of (h ∷ hops) = Some (last_hop h hops)

-- the last of the hops joins the next
abbrev pub JoinsLast : Structure → List Hop → Hop → Type 0
JoinsLast s hops k = IsSomeAnd (last_of hops) (λ h. Joins s h k)

-- the walk starts at a gate, and ends at one
abbrev pub StartsAtGate : Structure → List Hop → GateId → Type 0
StartsAtGate s hops gate = IsSomeAnd (slice_get hops 0) (λ h. IsSomeAnd (hop_path s h) (λ p. p.start.gate ≡ gate))

abbrev pub EndsAtGate : Structure → List Hop → GateId → Type 0
EndsAtGate s hops gate = IsSomeAnd (last_of hops) (λ h. IsSomeAnd (hop_path s h) (λ p. p.finish.gate ≡ gate))

-- the set of the gate, or the gate of the system itself
abbrev pub IsEndPoint : Structure → GateId → EndPoint → Type 0
IsEndPoint s gate (ends.Set t) = IsSomeAnd (gate_at s gate) (λ g. g.owner ≡ owner.Set t)
IsEndPoint s gate (ends.Environment e) = (e ≡ gate) × IsSomeAnd (gate_at s gate) (λ g. g.owner ≡ owner.System)

-- the delaying hops in order
abbrev pub is_delaying : Structure → Hop → Bool
is_delaying s h = unwrap_or (option_map (λ (c : Channel). not c.nodelay) (channel_at s h.channel)) false

abbrev pub delaying : Structure → List Hop → List Station
delaying s hops = map stations.Line (filter (is_delaying s) hops)

-- the inlet of the set's block, or the outlet
abbrev pub IsLastStation : Structure → EndPoint → Station → Type 0
IsLastStation s (ends.Set t) station = IsSomeAnd (set_at s t) (λ set. station ≡ stations.Inlet set.block)
IsLastStation s (ends.Environment e) station = station ≡ stations.Outlet

-- the set that outputs at the gate, or the gate of the system itself
abbrev pub IsSource : Structure → GateId → Source → Type 0
IsSource s gate (source.Set t) = IsSomeAnd (gate_at s gate) (λ g. g.owner ≡ owner.Set t)
IsSource s gate (source.Gate e) = (e ≡ gate) × IsSomeAnd (gate_at s gate) (λ g. g.owner ≡ owner.System)

-- a route may start with the hop: it starts at a gate of a set or of the system
abbrev pub MayStart : Structure → Hop → Type 0
MayStart s h = (gate : GateId) × (src : Source) × StartsAtGate s (h ∷ []) gate × IsSource s gate src

-- A route of the structure: a signal with hops, each of which carries it and joins the next; it leads from a gate of a set or of
-- the system to such a gate. Its stations are its delaying hops in order, and then the inlet of the last set's block, or the
-- outlet.
pub record IsRoute (s : Structure) (row : TableRow) : Type 0 where
  pub walk : IsWalk s row.route.signal row.route.hops.items
  pub start : StartsAtGate s row.route.hops.items row.route.start
  pub source : IsSource s row.route.start row.source
  pub end_gate : EndsAtGate s row.route.hops.items row.route.end_gate
  pub end : IsEndPoint s row.route.end_gate row.route.end
  pub stations : (last : Station) × IsLastStation s row.route.end last × (row.route.stations.items ≡ delaying s row.route.hops.items ++ last ∷ [])

-- no element of the list stands in it again
abbrev pub EachOnce : {X : Type 0} → List X → Type 0
EachOnce [] = ⊤
EachOnce (x ∷ xs) = AllByRecursion (λ y. x ≢ y) xs × EachOnce xs

-- a route has at most nine hops and ten stations, and each station stands in it once
abbrev pub AreRoutesShort : Structure → Type 0
AreRoutesShort s = (row : TableRow) → IsRoute s row →
    (length row.route.hops.items ≤ 9) × (length row.route.stations.items ≤ 10) × EachOnce row.route.hops.items × EachOnce row.route.stations.items

-- routes stand by signal number, then by the list of hops, a hop by its channel and forth before back
abbrev pub hop_number : Hop → ℕ
hop_number h = 2 * h.channel.0 + (if h.back then 1 else 0)

abbrev pub place : SignalId → List Hop → List ℕ
place signal hops = signal.0 ∷ map hop_number hops

abbrev pub row_place : TableRow → List ℕ
row_place row = place row.route.signal row.route.hops.items

abbrev pub StandsBefore : TableRow → TableRow → Type 0
StandsBefore a b = IsBefore (row_place a) (row_place b)

abbrev pub AreInOrder : List TableRow → Type 0
AreInOrder [] = ⊤
AreInOrder (row ∷ rows) = AllByRecursion (StandsBefore row) rows × AreInOrder rows

-- exactly the routes of the structure, each once, in their order
pub record AreRoutesOf (s : Structure) (rows : List TableRow) : Type 0 where
  pub sound : AllByRecursion (IsRoute s) rows
  pub complete : (row : TableRow) → IsRoute s row → Contains rows row
  pub order : AreInOrder rows

-- the structure has over 4,096 routes
abbrev pub HasTooMany : Structure → Type 0
HasTooMany s = (rows : List TableRow) × (4096 < length rows) × AllByRecursion (IsRoute s) rows × AreInOrder rows

-- what follows at a station: the first for none, else the one after it, and nothing after the last
abbrev pub FollowsIn : List Station → Option Station → Option Station → Type 0
FollowsIn stations None next = next ≡ slice_get stations 0
FollowsIn stations (Some station) next =
    ((k : ℕ) → slice_get stations k ≡ Some station → next ≡ slice_get stations (suc k)) × (¬ Contains stations station → next ≡ None)

-- the route ends as the goal says
abbrev pub EndsAs : Route → Goal → Type 0
EndsAs r goal.Anywhere = ⊤
EndsAs r goal.Null = ⊥
EndsAs r goal.Environment = elim r.end [ ends.Environment g ↦ ⊤ | ends.Set t ↦ ⊥ ]
EndsAs r (goal.Set t) = r.end ≡ ends.Set t

-- with a gate the route starts there, and with a channel it has a hop of it
abbrev pub GoesBy : Route → Via → Type 0
GoesBy r via.Any = ⊤
GoesBy r (via.Gate gate) = r.start ≡ gate
GoesBy r (via.Channel c) = Any (λ h. h.channel ≡ c) r.hops.items

-- the route fits the wish
pub record Fits (row : TableRow) (w : Wish) : Type 0 where
  pub signal : row.route.signal ≡ w.signal
  pub start : row.source ≡ w.source
  pub end : EndsAs row.route w.goal
  pub via : GoesBy row.route w.via

-- the rows that fit, by their numbers, from the one given on
abbrev pub AreFitting : Wish → ℕ → List TableRow → List ℕ → Type 0
AreFitting w n [] fitting = fitting ≡ []
AreFitting w n (row ∷ rows) fitting =
    (Fits row w × ((more : List ℕ) × (fitting ≡ n ∷ more) × AreFitting w (suc n) rows more))
    ⊎ (¬ Fits row w × AreFitting w (suc n) rows fitting)

-- the one of the list at `pick mod n`, where it has n, and none where it is empty
abbrev pub picked : List ℕ → ℕ → Option ℕ
picked fitting pick = slice_get fitting (pick % length fitting)

abbrev pub IsChoice : List TableRow → Wish → ℕ → Option RouteId → Type 0
IsChoice rows w pick choice =
    (fitting : List ℕ) × AreFitting w 0 rows fitting × (option_map (λ r. r.0) choice ≡ picked fitting pick)
