-- Who takes at a station has its number among the workers.
use Rattle.std.proofs.Common.{◌≡◌, ◌≢◌, ℕ, zero, suc, ◌+◌, ◌<◌, List, [], ◌∷◌, ◌++◌, map, length, Some, slice_get, inl, inr, refl, ap, sym, ◌∙◌, subst, arith}
use Rattle.std.proofs.lemmas.Option.{slice_get_read}
use Rattle.sdl_signal.specs.declared.ids.BlockId.{BlockId}
use Rattle.sdl_structure_parts.specs.Structure.{Structure, IsStructure}
use Rattle.sdl_routes.specs.declared.route.Hop.{Hop}
use Rattle.sdl_routes.specs.declared.route.TableRow.{TableRow}
use Rattle.sdl_routes.specs.declared.route.Station.{Station}
use Rattle.sdl_routes.specs.Routes.{IsRoute, AreRoutesOf}
use Rattle.sdl_forward_ends.specs.Stations.{IsStationOf}
use Rattle.sdl_forward.specs.Forwards.{Forwarding}
use Rattle.sdl_forward_opening.specs.declared.worker.Worker.{Worker}
use Rattle.sdl_forward_opening.specs.declared.worker.Worker.TheVariants.{Block, Environment, Forwarder}
use Rattle.sdl_forward_opening.specs.Workers.{Among, taker, blocks_from, delaying_from, workers_in}
use Rattle.sdl_forward_opening.proofs.Bringing.{all_at}
use Rattle.sdl_forward_opening.proofs.Opened.{contains_among}
use Rattle.sdl_forward_opening.proofs.Takers.{taker_in}
use Rattle.sdl_run_settling.specs.Takers.{workers_with}

abbrev behind : List Hop → List Worker
behind hops = Environment ∷ map Forwarder hops

abbrev pub hops_of : List Forwarding → List Hop
hops_of fs = map (λ f. f.hop) fs

-- blocks

no_block : (b : BlockId) (hops : List Hop) → Among (Block b) (map Forwarder hops) → ⊥
no_block b [] m = m
no_block b (h ∷ hops) m = elim m [ inl e ↦ cc | inr r ↦ no_block b hops r ]

no_block_behind : (b : BlockId) (hops : List Hop) → Among (Block b) (behind hops) → ⊥
no_block_behind b hops m = elim m [ inl e ↦ cc | inr r ↦ no_block b hops r ]

block_from : (n k : ℕ) (hops : List Hop) (b : BlockId) → Among (Block b) (blocks_from n k ++ behind hops)
    → (j : ℕ) × (j < k) × (b.0 ≡ n + j) × (slice_get (blocks_from n k ++ behind hops) j ≡ Some (Block b))
block_from n zero hops b m = absurd (no_block_behind b hops m)
block_from n (suc k) hops b m = elim m [
  | inl e ↦ (0, omega arith, (let same : b ≡ record { 0 = n } = cc in ap (λ (x : BlockId). x.0) same ∙ omega arith), ap Some (sym e))
  | inr r ↦ (
      let h = block_from (n + 1) k hops b r in
      let less : h.0 < k = h.1 in
      let number : b.0 ≡ n + 1 + h.0 = h.2 in
      (suc h.0, omega (arith, less), omega (arith, number), h.3))
]

pub number_of_block : (blocks : ℕ) (hops : List Hop) (b : BlockId) → Among (Block b) (workers_with blocks hops)
    → (b.0 < blocks) × (slice_get (workers_with blocks hops) b.0 ≡ Some (Block b))
number_of_block blocks hops b m =
    let h = block_from 0 blocks hops b m in
    let less : h.0 < blocks = h.1 in
    let number : b.0 ≡ 0 + h.0 = h.2 in
    let same : h.0 ≡ b.0 = omega (arith, number) in
    (omega (arith, less, number), subst (λ (j : ℕ). slice_get (workers_with blocks hops) j ≡ Some (Block b)) same h.3)

-- the environment, and the forwarders behind it

environment_at : (n k : ℕ) (rest : List Worker) → slice_get (blocks_from n k ++ Environment ∷ rest) k ≡ Some Environment
environment_at n zero rest = refl
environment_at n (suc k) rest = environment_at (n + 1) k rest

pub number_of_environment : (blocks : ℕ) (hops : List Hop) → slice_get (workers_with blocks hops) blocks ≡ Some Environment
number_of_environment blocks hops = environment_at 0 blocks (map Forwarder hops)

get_behind : (n k : ℕ) (rest : List Worker) (place i : ℕ) → i ≡ k + (place + 1) → slice_get (blocks_from n k ++ Environment ∷ rest) i ≡ slice_get rest place
get_behind n zero rest place zero e = absurd (omega (arith, e))
get_behind n zero rest place (suc i) e = ap (slice_get rest) (omega (arith, e))
get_behind n (suc k) rest place zero e = absurd (omega (arith, e))
get_behind n (suc k) rest place (suc i) e = get_behind (n + 1) k rest place i (omega (arith, e))

get_line : (fs : List Forwarding) (place : ℕ) (f : Forwarding) → slice_get fs place ≡ Some f → slice_get (map Forwarder (hops_of fs)) place ≡ Some (Forwarder f.hop)
get_line [] place f at = cc
get_line (x ∷ fs) zero f at = let same : x ≡ f = cc in ap (λ (y : Forwarding). Some (Forwarder y.hop)) same
get_line (x ∷ fs) (suc k) f at = get_line fs k f at

pub number_of_forwarder : (blocks : ℕ) (fs : List Forwarding) (place : ℕ) (f : Forwarding) (h : Hop) (number : ℕ) → slice_get fs place ≡ Some f → f.hop ≡ h → number ≡ blocks + (place + 1)
    → slice_get (workers_with blocks (hops_of fs)) number ≡ Some (Forwarder h)
number_of_forwarder blocks fs place f h number at same e =
    get_behind 0 blocks (map Forwarder (hops_of fs)) place number e ∙ get_line fs place f at ∙ ap (λ (x : Hop). Some (Forwarder x)) same

line_here : (fs : List Forwarding) (h : Hop) → Among (Forwarder h) (map Forwarder (hops_of fs)) → (k : ℕ) × (f : Forwarding) × (slice_get fs k ≡ Some f) × (f.hop ≡ h)
line_here [] h m = absurd m
line_here (x ∷ fs) h m = elim m [
  | inl e ↦ (0, x, refl, (let same : h ≡ x.hop = cc in sym same))
  | inr r ↦ (let a = line_here fs h r in (suc a.0, a.1, a.2, a.3))
]

line_behind : (n k : ℕ) (fs : List Forwarding) (h : Hop) → Among (Forwarder h) (blocks_from n k ++ behind (hops_of fs)) → Among (Forwarder h) (map Forwarder (hops_of fs))
line_behind n zero fs h m = elim m [ inl e ↦ absurd (cc) | inr r ↦ r ]
line_behind n (suc k) fs h m = elim m [ inl e ↦ absurd (cc) | inr r ↦ line_behind (n + 1) k fs h r ]

get_less : {X : Type 0} (xs : List X) (k : ℕ) (x : X) → slice_get xs k ≡ Some x → k < length xs
get_less [] k x at = absurd (cc)
get_less (y ∷ xs) zero x at = omega arith
get_less (y ∷ xs) (suc k) x at = let less = get_less xs k x at in omega (arith, less)

-- one of the forwarders is of the path where it is among the workers
pub some_forwarder : (blocks : ℕ) (fs : List Forwarding) (h : Hop) → Among (Forwarder h) (workers_with blocks (hops_of fs))
    → ((k : ℕ) (f : Forwarding) → k < length fs → slice_get fs k ≡ Some f → f.hop ≢ h) → ⊥
some_forwarder blocks fs h m none =
    let a = line_here fs h (line_behind 0 blocks fs h m) in
    none a.0 a.1 (get_less fs a.0 a.1 a.2) a.2 a.3

-- who takes from a station of some route is among the workers
pub taker_with : (s : Structure) (rows : List TableRow) (t : Station) (blocks : ℕ) (fs : List Forwarding) → IsStructure s → AreRoutesOf s rows → IsStationOf rows t
    → blocks ≡ length s.blocks → hops_of fs ≡ delaying_from 0 s.channels → Among (taker t) (workers_with blocks (hops_of fs))
taker_with s rows t blocks fs ok table (r, row, less, at, c) count lines =
    let route : IsRoute s row = all_at (IsRoute s) rows r row table.sound (slice_get_read rows (length rows) r row refl less (sym at)) in
    let among : Among (taker t) (workers_in s) = taker_in s ok row t route (contains_among row.route.stations.items t c) in
    subst (λ (hs : List Hop). Among (taker t) (workers_with blocks hs)) (sym lines)
    (subst (λ (n : ℕ). Among (taker t) (workers_with n (delaying_from 0 s.channels))) (sym count) among)
