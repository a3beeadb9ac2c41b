-- The gates that the ends of channels may name are among those that are read.
use Rattle.std.proofs.Common.{◌≡◌, ℕ, zero, suc, ◌+◌, List, [], ◌∷◌, ◌++◌, length, take, map, Some, slice_get, refl, sym, ap, subst, ◌⊎◌, inl, inr, ◌∙◌, arith}
use Rattle.std.proofs.lemmas.List.{length-map}
use Rattle.std.proofs.lemmas.Option.{slice_get_read}
use Rattle.std.specs.List.{AllZip}
use Rattle.toml.specs.Data.{Members}
use Rattle.sdl_structure_parts.specs.declared.parts.Gate.{Gate}
use Rattle.sdl_structure_parts.specs.declared.parts.Owner.{Owner}
use Rattle.sdl_structure_parts.specs.declared.parts.Owner.TheVariants as owner
use Rattle.sdl_structure_parts.specs.declared.parts.Scope.{Scope}
use Rattle.sdl_structure_parts.specs.declared.parts.Scope.TheVariants as scope
use Rattle.sdl_structure_tables.specs.declared.version.Version.{Version}
use Rattle.sdl_structure_tables.specs.declared.place.Key.TheVariants as key
use Rattle.sdl_structure.specs.declared.reading.draft.Draft.{Draft}
use Rattle.sdl_structure_tables.specs.Tables.{text_at, tables_at, total}
use Rattle.sdl_structure_tables.specs.Blocks.{BlockTable, inner_tables}
use Rattle.sdl_structure.specs.File.{IsBlockTable, IsSetTable, IsGateTable, IsAgent, IsBlockIn, sets_of, owned, set_gates, block_gates, gates_of}
use Rattle.sdl_structure_tables.specs.Faults.{HasGate}
use Rattle.sdl_structure.specs.Drafts.{HasAgents, HasGateOf, KnowsGates, placed, tables_of}
use Rattle.sdl_structure_tables.proofs.SignalLemmas.{found_at}

-- x is an element of xs
pub record Has {A : Type 0} (xs : List A) (x : A) : Type 0 where
  pub index : ℕ
  pub is : slice_get xs index ≡ Some x

has_left : {A : Type 0} (xs ys : List A) (x : A) → Has xs x → Has (xs ++ ys) x
has_left {A = A} xs ys x h = record { index = h.index; is = at xs h.index h.is }
  where
    at : (xs : List A) (k : ℕ) → slice_get xs k ≡ Some x → slice_get (xs ++ ys) k ≡ Some x
    at [] k e = cc
    at (z ∷ xs) zero e = e
    at (z ∷ xs) (suc k) e = at xs k e

has_right : {A : Type 0} (xs ys : List A) (x : A) → Has ys x → Has (xs ++ ys) x
has_right [] ys x h = h
has_right (z ∷ xs) ys x h = let r = has_right xs ys x h in record { index = suc r.index; is = r.is }

has_map : {A B : Type 0} (f : A → B) (xs : List A) (x : A) → Has xs x → Has (map f xs) (f x)
has_map {A = A} {B = B} f xs x h = record { index = h.index; is = at xs h.index h.is }
  where
    at : (xs : List A) (k : ℕ) → slice_get xs k ≡ Some x → slice_get (map f xs) k ≡ Some (f x)
    at [] k e = cc
    at (z ∷ xs) zero e = cc
    at (z ∷ xs) (suc k) e = at xs k e

-- the element at the place of one that it is zipped with
pub zip_found : {A B : Type 0} (R : A → B → Type 0) (xs : List A) (ys : List B) (k : ℕ) (x : A) → AllZip R xs ys → slice_get xs k ≡ Some x → (y : B) × (slice_get ys k ≡ Some y) × R x y
zip_found R [] ys k x z e = cc
zip_found R (w ∷ xs) [] k x z e = absurd z
zip_found R (w ∷ xs) (y ∷ ys) zero x z e = let same : w ≡ x = cc in (y, refl, subst (λ v. R v y) same z.0)
zip_found R (w ∷ xs) (y ∷ ys) (suc k) x z e = zip_found R xs ys k x z.1 e

-- a gate's table with the name
gate_table : (t : Members) (gate : List ℕ) → HasGate t gate → (g : Members) × Has (tables_at key.Gate t) g × (text_at key.Name g ≡ Some gate)
gate_table t gate (k, h, is) =
    let (g, inside, at, named) = found_at (text_at key.Name) (tables_at key.Gate t) k (Some gate) h in
    (g, record { index = k; is = slice_get_read (tables_at key.Gate t) (length (tables_at key.Gate t)) k g refl inside (sym (at g)) }, named ∙ is)

has_set_gates : (n : ℕ) (us : List Members) (i : ℕ) (u : Members) (e : Owner × Members) → slice_get us i ≡ Some u → Has (owned (owner.Set (record { 0 = n + i })) u) e → Has (set_gates n us) e
has_set_gates n [] i u e is h = cc
has_set_gates n (v ∷ us) zero u e is h =
    let same : u ≡ v = cc in
    let none : n + 0 ≡ n = omega arith in
    has_left (owned (owner.Set (record { 0 = n })) v) (set_gates (n + 1) us) e (subst (λ w. Has (owned (owner.Set (record { 0 = n })) w) e) same (subst (λ k. Has (owned (owner.Set (record { 0 = k })) u) e) none h))
has_set_gates n (v ∷ us) (suc i) u e is h =
    let next : n + suc i ≡ n + 1 + i = omega arith in
    has_right (owned (owner.Set (record { 0 = n })) v) (set_gates (n + 1) us) e (has_set_gates (n + 1) us i u e is (subst (λ k. Has (owned (owner.Set (record { 0 = k })) u) e) next h))

has_block_gates : (b n : ℕ) (ts : List Members) (i : ℕ) (t : Members) (e : Owner × Members) → slice_get ts i ≡ Some t → Has (owned (owner.Block (record { 0 = b + i })) t) e → Has (block_gates b n ts) e
has_block_gates b n [] i t e is h = cc
has_block_gates b n (s ∷ ts) zero t e is h =
    let same : t ≡ s = cc in
    let none : b + 0 ≡ b = omega arith in
    has_left (owned (owner.Block (record { 0 = b })) s) _ e (subst (λ w. Has (owned (owner.Block (record { 0 = b })) w) e) same (subst (λ k. Has (owned (owner.Block (record { 0 = k })) t) e) none h))
has_block_gates b n (s ∷ ts) (suc i) t e is h =
    let next : b + suc i ≡ b + 1 + i = omega arith in
    has_right (owned (owner.Block (record { 0 = b })) s) _ e (has_right (set_gates n (tables_at key.Set s)) _ e (has_block_gates (b + 1) (n + length (tables_at key.Set s)) ts i t e is (subst (λ k. Has (owned (owner.Block (record { 0 = k })) t) e) next h)))

-- the gate that such a table names is in the draft
in_draft : (d : Draft) (es : List (Owner × Members)) (o : Owner) (t : Members) (gate : List ℕ) → AllZip (IsGateTable d.signals.items) es d.gates.items → HasGate t gate → ((e : Owner × Members) → Has (owned o t) e → Has es e)
    → (i : ℕ) × (g : Gate) × (slice_get d.gates.items i ≡ Some g) × (g.name.bytes ≡ gate) × (g.owner ≡ o)
in_draft d es o t gate z has from =
    let (m, there, named) = gate_table t gate has in
    let at = from (o, m) (has_map (λ m. (o, m)) (tables_at key.Gate t) m there) in
    let (g, is, table) = zip_found (IsGateTable d.signals.items) es d.gates.items at.index (o, m) z at.is in
    let same : Some g.name.bytes ≡ Some gate = sym table.name.0 ∙ named in
    (at.index, g, is, (cc), table.owner)

slice_get_left : {A : Type 0} (xs ys : List A) (i : ℕ) (x : A) → slice_get xs i ≡ Some x → slice_get (xs ++ ys) i ≡ Some x
slice_get_left [] ys i x e = cc
slice_get_left (z ∷ xs) ys zero x e = e
slice_get_left (z ∷ xs) ys (suc i) x e = slice_get_left xs ys i x e

slice_get_right : {A : Type 0} (xs ys : List A) (i : ℕ) (y : A) → slice_get ys i ≡ Some y → slice_get (xs ++ ys) (length xs + i) ≡ Some y
slice_get_right [] ys i y e = subst (λ k. slice_get ys k ≡ Some y) here e
  where
    here : i ≡ 0 + i
    here = omega arith
slice_get_right (x ∷ xs) ys i y e = subst (λ k. slice_get ((x ∷ xs) ++ ys) k ≡ Some y) there (slice_get_right xs ys i y e)
  where
    there : suc (length xs + i) ≡ length (x ∷ xs) + i
    there = omega arith

pub map_get : {A B : Type 0} (f : A → B) (xs : List A) (i : ℕ) (x : A) → slice_get xs i ≡ Some x → slice_get (map f xs) i ≡ Some (f x)
map_get f [] i x e = cc
map_get f (z ∷ xs) zero x e = cc
map_get f (z ∷ xs) (suc i) x e = map_get f xs i x e

-- the gates of a block's sets, by the number of the first of them
has_gates_of_sets : (b n : ℕ) (ts : List Members) (i : ℕ) (t : Members) (e : Owner × Members) → slice_get ts i ≡ Some t → Has (set_gates (n + total key.Set (take i ts)) (tables_at key.Set t)) e → Has (block_gates b n ts) e
has_gates_of_sets b n [] i t e is h = cc
has_gates_of_sets b n (s ∷ ts) zero t e is h =
    let same : t ≡ s = cc in
    let none : n + 0 ≡ n = omega arith in
    has_right (owned (owner.Block (record { 0 = b })) s) _ e (has_left (set_gates n (tables_at key.Set s)) _ e (subst (λ w. Has (set_gates n (tables_at key.Set w)) e) same (subst (λ k. Has (set_gates k (tables_at key.Set t)) e) none h)))
has_gates_of_sets b n (s ∷ ts) (suc i) t e is h =
    let next : n + (length (tables_at key.Set s) + total key.Set (take i ts)) ≡ n + length (tables_at key.Set s) + total key.Set (take i ts) = omega arith in
    has_right (owned (owner.Block (record { 0 = b })) s) _ e (has_right (set_gates n (tables_at key.Set s)) _ e
    (has_gates_of_sets (b + 1) (n + length (tables_at key.Set s)) ts i t e is (subst (λ k. Has (set_gates k (tables_at key.Set t)) e) next h)))

-- the set at a place of a block's list, among all sets
set_at_number : (b : ℕ) (ts : List Members) (i : ℕ) (t : Members) (j : ℕ) (u : Members) → slice_get ts i ≡ Some t → slice_get (tables_at key.Set t) j ≡ Some u → slice_get (sets_of b ts) (total key.Set (take i ts) + j) ≡ Some (b + i, u)
set_at_number b [] i t j u is at = cc
set_at_number b (s ∷ ts) zero t j u is at =
    let same : t ≡ s = cc in
    let here : j ≡ 0 + j = omega arith in
    let number : b ≡ b + 0 = omega arith in
    let at_s : slice_get (tables_at key.Set s) j ≡ Some u = subst (λ w. slice_get (tables_at key.Set w) j ≡ Some u) same at in
    subst (λ k. slice_get (sets_of b (s ∷ ts)) k ≡ Some (b + 0, u)) here
    (slice_get_left (map (λ u. (b, u)) (tables_at key.Set s)) (sets_of (b + 1) ts) j (b + 0, u) (map_get (λ u. (b, u)) (tables_at key.Set s) j u at_s ∙ ap (λ (k : ℕ). Some (k, u)) number))
set_at_number b (s ∷ ts) (suc i) t j u is at =
    let front = map (λ u. (b, u)) (tables_at key.Set s) in
    let long : length front ≡ length (tables_at key.Set s) = length-map (tables_at key.Set s) (λ u. (b, u)) in
    let there : length front + (total key.Set (take i ts) + j) ≡ length (tables_at key.Set s) + total key.Set (take i ts) + j = omega (arith, long) in
    let number : b + 1 + i ≡ b + suc i = omega arith in
    subst (λ k. slice_get (sets_of b (s ∷ ts)) k ≡ Some (b + suc i, u)) there
    (slice_get_right front (sets_of (b + 1) ts) (total key.Set (take i ts) + j) (b + suc i, u) (set_at_number (b + 1) ts i t j u is at ∙ ap (λ (k : ℕ). Some (k, u)) number))

tables_get : (xs : List BlockTable) (n : ℕ) (x : BlockTable) → slice_get xs n ≡ Some x → slice_get (tables_of xs) n ≡ Some x.table
tables_get xs n x is = map_get (λ (x : BlockTable). x.table) xs n x is

-- a block that lies in the scope is known there by its gates
inner_known : (root : Members) (xs : List BlockTable) (d : Draft) (s : Scope) (k : ℕ) (u : Members) (depth : ℕ) (agent gate : List ℕ) → HasAgents root xs d → slice_get xs k ≡ Some (placed s depth u) → text_at key.Name u ≡ Some agent → HasGate u gate
    → ((o : Owner) → o ≡ owner.Block (record { 0 = k }) → IsBlockIn d.blocks.items s agent (record { 0 = k }) → IsAgent d.blocks.items d.sets.items s agent o) → HasGateOf d s agent gate
inner_known root xs d s k u depth agent gate read at called has agrees =
    let at_u : slice_get (tables_of xs) k ≡ Some u = tables_get xs k (placed s depth u) at in
    let from_zero : k ≡ 0 + k = omega arith in
    let (i, g, is, named, owns) = in_draft d (gates_of root (tables_of xs)) (owner.Block (record { 0 = k })) u gate read.gates has
    (λ e h. has_right (owned owner.System root) _ e (has_block_gates 0 0 (tables_of xs) k u e at_u (subst (λ j. Has (owned (owner.Block (record { 0 = j })) u) e) from_zero h))) in
    let (x, there, table) = zip_found IsBlockTable xs d.blocks.items k (placed s depth u) read.blocks at in
    let same : Some x.name.bytes ≡ Some agent = sym table.name.0 ∙ called in
    let name : x.name.bytes ≡ agent = cc in
    (i, g, is, named, agrees g.owner owns (rw there (table.scope, name)))

-- the blocks that a list names are among those that are entered
abbrev pub AreEntered : List BlockTable → Scope → List Members → Type 0
AreEntered xs s us = (i : ℕ) (u : Members) → slice_get us i ≡ Some u → (k : ℕ) × (depth : ℕ) × (slice_get xs k ≡ Some (placed s depth u))

get_either : {A : Type 0} (xs ys : List A) (i : ℕ) (x : A) → slice_get (xs ++ ys) i ≡ Some x → (slice_get xs i ≡ Some x) ⊎ ((j : ℕ) × (slice_get ys j ≡ Some x))
get_either [] ys i x e = inr (i, e)
get_either (z ∷ xs) ys zero x e = inl e
get_either (z ∷ xs) ys (suc i) x e = get_either xs ys i x e

-- a block knows its own gates, those of its sets, and those of the blocks in it
pub block_knows : (v : Version) (root : Members) (xs : List BlockTable) (n : ℕ) (x : BlockTable) (d : Draft) → HasAgents root xs d → slice_get xs n ≡ Some x → AreEntered xs (scope.Block (record { 0 = n })) (inner_tables v x.table) → KnowsGates v (scope.Block (record { 0 = n })) x.table d
block_knows v root xs n x d read at inner agent gate (inl (env, has)) =
    let from_zero : n ≡ 0 + n = omega arith in
    let (i, g, is, named, owns) = in_draft d (gates_of root (tables_of xs)) (owner.Block (record { 0 = n })) x.table gate read.gates has
    (λ e h. has_right (owned owner.System root) _ e (has_block_gates 0 0 (tables_of xs) n x.table e (tables_get xs n x at) (subst (λ j. Has (owned (owner.Block (record { 0 = j })) x.table) e) from_zero h))) in
    (i, g, is, named, subst (λ o. IsAgent d.blocks.items d.sets.items (scope.Block (record { 0 = n })) agent o) (sym owns) (inl (refl, env)))
block_knows v root xs n x d read at inner agent gate (inr (i, u, listed, called, has)) = choose (get_either (tables_at key.Set x.table) (inner_tables v x.table) i u listed)
  where
    choose : (slice_get (tables_at key.Set x.table) i ≡ Some u) ⊎ ((j : ℕ) × (slice_get (inner_tables v x.table) j ≡ Some u)) → HasGateOf d (scope.Block (record { 0 = n })) agent gate
    choose (inl set) =
        let first : ℕ = total key.Set (take n (tables_of xs)) in
        let zero_first : first ≡ 0 + first = omega arith in
        let at_x = tables_get xs n x at in
        let (k, g, is, named, owns) = in_draft d (gates_of root (tables_of xs)) (owner.Set (record { 0 = first + i })) u gate read.gates has
        (λ e h. has_right (owned owner.System root) _ e (has_gates_of_sets 0 0 (tables_of xs) n x.table e at_x
        (subst (λ j. Has (set_gates j (tables_at key.Set x.table)) e) zero_first (has_set_gates first (tables_at key.Set x.table) i u e set h)))) in
        let entry = set_at_number 0 (tables_of xs) n x.table i u at_x set in
        let (s, there, table) = zip_found IsSetTable (sets_of 0 (tables_of xs)) d.sets.items (first + i) (0 + n, u) read.sets entry in
        let same : Some s.name.bytes ≡ Some agent = sym table.name.0 ∙ called in
        let name : s.name.bytes ≡ agent = cc in
        let number : s.block.0 ≡ n = table.block ∙ omega arith in
        (k, g, is, named, subst (λ o. IsAgent d.blocks.items d.sets.items (scope.Block (record { 0 = n })) agent o) (sym owns) (rw there (number, name)))
    choose (inr (j, block)) =
        let (k, depth, there) = inner j u block in
        inner_known root xs d (scope.Block (record { 0 = n })) k u depth agent gate read there called has
        (λ o owns known. subst (λ o. IsAgent d.blocks.items d.sets.items (scope.Block (record { 0 = n })) agent o) (sym owns) (inr known))

-- the system knows its own gates and those of the blocks that lie in it
pub system_knows : (v : Version) (root : Members) (xs : List BlockTable) (d : Draft) → HasAgents root xs d → AreEntered xs scope.System (tables_at key.Block root) → KnowsGates v scope.System root d
system_knows v root xs d read inner agent gate (inl (env, has)) =
    let (i, g, is, named, owns) = in_draft d (gates_of root (tables_of xs)) owner.System root gate read.gates has (λ e h. has_left _ _ e h) in
    (i, g, is, named, subst (λ o. IsAgent d.blocks.items d.sets.items scope.System agent o) (sym owns) env)
system_knows v root xs d read inner agent gate (inr (i, u, listed, called, has)) =
    let (k, depth, there) = inner i u listed in
    inner_known root xs d scope.System k u depth agent gate read there called has
    (λ o owns known. subst (λ o. IsAgent d.blocks.items d.sets.items scope.System agent o) (sym owns) known)
