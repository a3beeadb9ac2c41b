-- What a file names is a structure: what one part names of the others is there.
use Rattle.std.proofs.Common.{◌≡◌, ◌≢◌, ℕ, ◌+◌, ◌<◌, ◌≤◌, ◌==◌, Bool, true, false, List, [], ◌∷◌, ◌++◌, length, map, Some, IsSomeAnd, slice_get, refl, sym, ap, subst, ◌∙◌, inl, inr, eq-eqb, eqb-true, arith}
use Rattle.std.proofs.lemmas.List.{length-map}
use Rattle.std.proofs.lemmas.Option.{slice_get_within}
use Rattle.std.specs.List.{AllZip, AllByRecursion}
use Rattle.std.specs.Prelude.{⊤}
use Rattle.toml.specs.Data.{Data, Members, as_str}
use Rattle.sdl_signal.specs.declared.ids.SignalId.{SignalId}
use Rattle.sdl_signal.specs.declared.ids.BlockId.{BlockId}
use Rattle.sdl_structure_parts.specs.declared.parts.SignalDecl.{SignalDecl}
use Rattle.sdl_structure_parts.specs.declared.parts.Block.{Block}
use Rattle.sdl_structure_parts.specs.declared.parts.Gate.{Gate}
use Rattle.sdl_structure_parts.specs.declared.parts.End.{End}
use Rattle.sdl_structure_parts.specs.declared.parts.Owner.{Owner}
use Rattle.sdl_structure_parts.specs.declared.parts.Owner.TheVariants as owner
use Rattle.sdl_structure_parts.specs.declared.parts.Scope.{Scope}
use Rattle.sdl_structure_parts.specs.declared.parts.Scope.TheVariants as scope
use Rattle.sdl_structure_tables.specs.declared.place.Key.TheVariants as key
use Rattle.sdl_structure_parts.specs.Structure.{Structure, IsStructure, IsDepthIn, LiesIn, HasFewInstances, OwnerExists, ScopeExists, SignalsExist, AreSystemFirst, IsEnd, JoinsAt}
use Rattle.sdl_structure_tables.specs.declared.version.Version.{Version}
use Rattle.sdl_structure_tables.specs.declared.version.Version.TheVariants.{One, Two}
use Rattle.sdl_structure_tables.specs.Versions.{most_blocks}
use Rattle.sdl_structure_tables.specs.Tables.{tables_at, total, own_version}
use Rattle.sdl_structure_tables.specs.Blocks.{BlockTable, blocks_of, block_tables}
use Rattle.sdl_structure_tables.specs.Names.{NamesSignal, HasOneDot, agent_part, gate_part}
use Rattle.sdl_structure.specs.File.{ListsParts, IsWithinLimits, IsBlockTable, IsSetTable, IsGateTable, IsChannelTable, NamesEnd, IsAgent, side_in, sets_of, owned, set_gates, block_gates, gates_of, channels_in, block_channels, channels_of}
use Rattle.sdl_structure_tables.proofs.SignalLemmas.{some_and}
use Rattle.sdl_structure_tables.proofs.ListLemmas.{zip_length}
use Rattle.sdl_structure.proofs.BlockLemmas.{length-sets_of}
use Rattle.sdl_structure.proofs.GateLemmas.{zip_found}
use Rattle.sdl_structure.proofs.OrderLemmas.{IsDepthAmong, LiesAmong, all_lie, stands_whole}

-- what follows from being zipped with an element that has a property
zip_by : {A B : Type 0} (R : A → B → Type 0) (Q : A → Type 0) (P : B → Type 0) (xs : List A) (ys : List B) → ((x : A) (y : B) → Q x → R x y → P y) → AllByRecursion Q xs → AllZip R xs ys → AllByRecursion P ys
zip_by R Q P xs [] f q z = tt
zip_by R Q P [] (y ∷ ys) f q z = absurd z
zip_by R Q P (x ∷ xs) (y ∷ ys) f q z = (f x y q.0 z.0, zip_by R Q P xs ys f q.1 z.1)

all_append : {A : Type 0} (P : A → Type 0) (xs ys : List A) → AllByRecursion P xs → AllByRecursion P ys → AllByRecursion P (xs ++ ys)
all_append P [] ys h k = k
all_append P (x ∷ xs) ys h k = (h.0, all_append P xs ys h.1 k)

all_mapped : {A B : Type 0} (f : A → B) (P : B → Type 0) (xs : List A) → ((x : A) → P (f x)) → AllByRecursion P (map f xs)
all_mapped f P [] h = tt
all_mapped f P (x ∷ xs) h = (h x, all_mapped f P xs h)

all_hold : {A : Type 0} (xs : List A) → AllByRecursion (λ x. ⊤) xs
all_hold [] = tt
all_hold (x ∷ xs) = (tt, all_hold xs)

-- the numbers of blocks and sets in the lists of tables are below how many there are
sets_below : (b n : ℕ) (ts : List Members) → b + length ts ≤ n → AllByRecursion (λ x. x.0 < n) (sets_of b ts)
sets_below b n [] h = tt
sets_below b n (t ∷ ts) h = all_append (λ x. x.0 < n) (map (λ u. (b, u)) (tables_at key.Set t)) (sets_of (b + 1) ts) (all_mapped (λ u. (b, u)) (λ x. x.0 < n) (tables_at key.Set t) (λ u. inside)) (sets_below (b + 1) n ts next)
  where
    inside : b < n
    inside = omega arith

    next : b + 1 + length ts ≤ n
    next = omega arith

set_gates_exist : (s : Structure) (n : ℕ) (us : List Members) → n + length us ≤ length s.sets → AllByRecursion (λ x. OwnerExists s x.0) (set_gates n us)
set_gates_exist s n [] h = tt
set_gates_exist s n (u ∷ us) h = all_append (λ x. OwnerExists s x.0) (owned (owner.Set (record { 0 = n })) u) (set_gates (n + 1) us) (all_mapped (λ g. (owner.Set (record { 0 = n }), g)) (λ x. OwnerExists s x.0) (tables_at key.Gate u) (λ g. inside)) (set_gates_exist s (n + 1) us next)
  where
    inside : n < length s.sets
    inside = omega arith

    next : n + 1 + length us ≤ length s.sets
    next = omega arith

block_gates_exist : (s : Structure) (b n : ℕ) (ts : List Members) → b + length ts ≤ length s.blocks → n + total key.Set ts ≤ length s.sets → AllByRecursion (λ x. OwnerExists s x.0) (block_gates b n ts)
block_gates_exist s b n [] h k = tt
block_gates_exist s b n (t ∷ ts) h k =
    all_append (λ x. OwnerExists s x.0) (owned (owner.Block (record { 0 = b })) t) _ (all_mapped (λ g. (owner.Block (record { 0 = b }), g)) (λ x. OwnerExists s x.0) (tables_at key.Gate t) (λ g. inside))
    (all_append (λ x. OwnerExists s x.0) (set_gates n (tables_at key.Set t)) _ (set_gates_exist s n (tables_at key.Set t) own_sets) (block_gates_exist s (b + 1) (n + length (tables_at key.Set t)) ts next sets))
  where
    inside : b < length s.blocks
    inside = omega arith

    own_sets : n + length (tables_at key.Set t) ≤ length s.sets
    own_sets = omega arith

    next : b + 1 + length ts ≤ length s.blocks
    next = omega arith

    sets : n + length (tables_at key.Set t) + total key.Set ts ≤ length s.sets
    sets = omega arith

channels_exist : (s : Structure) (b : ℕ) (ts : List Members) → b + length ts ≤ length s.blocks → AllByRecursion (λ x. ScopeExists s x.0) (block_channels b ts)
channels_exist s b [] h = tt
channels_exist s b (t ∷ ts) h = all_append (λ x. ScopeExists s x.0) (channels_in (scope.Block (record { 0 = b })) t) (block_channels (b + 1) ts) (all_mapped (λ c. (scope.Block (record { 0 = b }), c)) (λ x. ScopeExists s x.0) (tables_at key.Channel t) (λ c. inside)) (channels_exist s (b + 1) ts next)
  where
    inside : b < length s.blocks
    inside = omega arith

    next : b + 1 + length ts ≤ length s.blocks
    next = omega arith

signals_exist : (s : Structure) (ds : List Data) (ids : List SignalId) → AllZip (NamesSignal s.signals) ds ids → SignalsExist s ids
signals_exist s ds [] z = tt
signals_exist s [] (id ∷ ids) z = absurd z
signals_exist s (d ∷ ds) (id ∷ ids) z =
    let (x, is, said) = some_and (slice_get s.signals id.0) (λ x. as_str d ≡ Some x.name.bytes) z.0 in
    (slice_get_within s.signals id.0 x is, signals_exist s ds ids z.1)

same_block : (a b : BlockId) → a.0 ≡ b.0 → a ≡ b
same_block a b e = ap (λ (n : ℕ). record { 0 = n }) e

-- an end that a text names is one of the scope
joins : (s : Structure) (scope : Scope) (agent : List ℕ) (o : Owner) → IsAgent s.blocks s.sets scope agent o → JoinsAt s scope o (side_in scope o)
joins s scope.System agent owner.System h = tt
joins s scope.System agent (owner.Block b) h =
    let (x, is, said) = some_and (slice_get s.blocks b.0) (λ x. (x.scope ≡ scope.System) × (x.name.bytes ≡ agent)) h in
    rw is said.0
joins s scope.System agent (owner.Set t) h = absurd h
joins s (scope.Block b) agent owner.System h = absurd h
joins s (scope.Block b) agent (owner.Block c) h = choose (c.0 == b.0) refl h
  where
    choose : (x : Bool) → (c.0 == b.0) ≡ x → IsAgent s.blocks s.sets (scope.Block b) agent (owner.Block c) → JoinsAt s (scope.Block b) (owner.Block c) (side_in (scope.Block b) (owner.Block c))
    choose true e h = rw e (same_block c b (eqb-true c.0 b.0 e))
    choose false e (inl (same, env)) = let yes : (c.0 == b.0) ≡ true = eq-eqb c.0 b.0 (ap (λ (k : BlockId). k.0) same) in cc
    choose false e (inr lies) =
        let (x, is, said) = some_and (slice_get s.blocks c.0) (λ x. (x.scope ≡ scope.Block b) × (x.name.bytes ≡ agent)) lies in
        rw e (rw is said.0)
joins s (scope.Block b) agent (owner.Set t) h =
    let (x, is, said) = some_and (slice_get s.sets t.0) (λ x. (x.block.0 ≡ b.0) × (x.name.bytes ≡ agent)) h in
    rw is (same_block x.block b said.0)

an_end : (s : Structure) (scope : Scope) (e : End) (g : Gate) (agent : List ℕ) → slice_get s.gates e.gate.0 ≡ Some g → e.side ≡ side_in scope g.owner → IsAgent s.blocks s.sets scope agent g.owner → IsEnd s scope e
an_end s scope e g agent is side known = rw (is, side) (joins s scope agent g.owner known)

is_end : (s : Structure) (scope : Scope) (d : Data) (e : End) → NamesEnd s.blocks s.sets s.gates scope d e → IsEnd s scope e
is_end s scope d e named =
    let (g, is, said) = some_and (slice_get s.gates e.gate.0) (λ g. IsSomeAnd (as_str d) (λ text. HasOneDot text × (g.name.bytes ≡ gate_part text) × IsAgent s.blocks s.sets scope (agent_part text) g.owner) × (e.side ≡ side_in scope g.owner)) named in
    let (text, has, names) = some_and (as_str d) (λ text. HasOneDot text × (g.name.bytes ≡ gate_part text) × IsAgent s.blocks s.sets scope (agent_part text) g.owner) said.0 in
    an_end s scope e g (agent_part text) is said.1 names.2

ends_are : (s : Structure) (scope : Scope) (ds : List Data) (a b : End) → AllZip (NamesEnd s.blocks s.sets s.gates scope) ds (a ∷ b ∷ []) → IsEnd s scope a × IsEnd s scope b
ends_are s scope [] a b z = absurd z
ends_are s scope (d ∷ []) a b z = absurd z.1
ends_are s scope (d ∷ e ∷ ds) a b z = (is_end s scope d a z.0, is_end s scope e b z.1.0)

-- the system's gates come first
no_system_sets : (n : ℕ) (us : List Members) → AllByRecursion (λ x. x.0 ≢ owner.System) (set_gates n us)
no_system_sets n [] = tt
no_system_sets n (u ∷ us) = all_append (λ x. x.0 ≢ owner.System) (owned (owner.Set (record { 0 = n })) u) (set_gates (n + 1) us) (all_mapped (λ g. (owner.Set (record { 0 = n }), g)) (λ x. x.0 ≢ owner.System) (tables_at key.Gate u) (λ g e. cc)) (no_system_sets (n + 1) us)

no_system : (b n : ℕ) (ts : List Members) → AllByRecursion (λ x. x.0 ≢ owner.System) (block_gates b n ts)
no_system b n [] = tt
no_system b n (t ∷ ts) = all_append (λ x. x.0 ≢ owner.System) (owned (owner.Block (record { 0 = b })) t) _ (all_mapped (λ g. (owner.Block (record { 0 = b }), g)) (λ x. x.0 ≢ owner.System) (tables_at key.Gate t) (λ g e. cc)) (all_append (λ x. x.0 ≢ owner.System) (set_gates n (tables_at key.Set t)) _ (no_system_sets n (tables_at key.Set t)) (no_system (b + 1) (n + length (tables_at key.Set t)) ts))

none_follows : (gs : List Gate) → AllByRecursion (λ g. g.owner ≢ owner.System) gs → AreSystemFirst gs
none_follows [] h = tt
none_follows (g ∷ gs) h = (all_map gs h.1, none_follows gs h.1)
  where
    all_map : (hs : List Gate) → AllByRecursion (λ g. g.owner ≢ owner.System) hs → AllByRecursion (λ h. h.owner ≡ owner.System → g.owner ≡ owner.System) hs
    all_map [] k = tt
    all_map (x ∷ hs) k = ((λ e. absurd (k.0 e)), all_map hs k.1)

system_first : (signals : List SignalDecl) (ms : List Members) (es : List (Owner × Members)) (gs : List Gate) → AllByRecursion (λ x. x.0 ≢ owner.System) es → AllZip (IsGateTable signals) (map (λ g. (owner.System, g)) ms ++ es) gs → AreSystemFirst gs
system_first signals [] es gs none z = none_follows gs (zip_by (IsGateTable signals) (λ x. x.0 ≢ owner.System) (λ g. g.owner ≢ owner.System) es gs (λ x g q r e. q (sym r.owner ∙ e)) none z)
system_first signals (m ∷ ms) es [] none z = tt
system_first signals (m ∷ ms) es (g ∷ gs) none z = (trivially gs, system_first signals ms es gs none z.1)
  where
    trivially : (hs : List Gate) → AllByRecursion (λ h. h.owner ≡ owner.System → g.owner ≡ owner.System) hs
    trivially [] = tt
    trivially (x ∷ hs) = ((λ e. z.0.owner), trivially hs)

-- a block of the structure lies where its table does
depth_in : (all : List BlockTable) (bs : List Block) → AllZip IsBlockTable all bs → (at : Scope) (depth : ℕ) → IsDepthAmong all at depth → IsDepthIn bs at depth
depth_in all bs z scope.System depth h = h
depth_in all bs z (scope.Block b) depth h =
    let (y, is, deep) = some_and (slice_get all b.0) (λ around. depth ≡ around.depth + 1) h in
    let (x, there, table) = zip_found IsBlockTable all bs b.0 y z is in
    rw there (deep ∙ ap (λ k. k + 1) (sym table.depth))

lies_in : (all : List BlockTable) (bs : List Block) (x : BlockTable) (b : Block) → AllZip IsBlockTable all bs → LiesAmong all x → IsBlockTable x b → LiesIn bs b
lies_in all bs x b z lies table =
    let deep : IsDepthIn bs b.scope b.depth =
    subst (λ d. IsDepthIn bs b.scope d) (sym table.depth) (subst (λ o. IsDepthIn bs o x.depth) (sym table.scope) (depth_in all bs z x.scope x.depth lies.0)) in
    (deep, subst (λ d. d ≤ 4) (sym table.depth) lies.1)

at_most : (v : Version) → most_blocks v ≤ 64
at_most One = omega arith
at_most Two = omega arith

pub is_structure : (root : Members) (s : Structure) → ListsParts root s → IsWithinLimits (own_version root) s → IsStructure s
is_structure root s parts limits = record {
  few_signals = limits.signals;
  few_blocks = omega (arith, limits.blocks.1, at_most (own_version root));
  few_sets = limits.sets;
  few_gates = limits.gates;
  few_channels = limits.channels;
  blocks = zip_by IsBlockTable (LiesAmong (blocks_of root)) (LiesIn s.blocks) (blocks_of root) s.blocks (λ x b q r. lies_in (blocks_of root) s.blocks x b parts.blocks q r)
      (all_lie (own_version root) (blocks_of root) 4 scope.System 1 0 (tables_at key.Block root) refl (stands_whole (blocks_of root)) refl) parts.blocks;
  sets = zip_by IsSetTable (λ x. x.0 < length s.blocks) (λ t. t.block.0 < length s.blocks) (sets_of 0 (block_tables root)) s.sets (λ x t q r. subst (λ n. n < length s.blocks) (sym r.block) q) (sets_below 0 (length s.blocks) (block_tables root) blocks_fit) parts.sets;
  instances = zip_by IsSetTable (λ x. ⊤) HasFewInstances (sets_of 0 (block_tables root)) s.sets (λ x t q r. record { initial = r.initial.1; some = r.maximum.1; maximum = r.maximum.2 }) (all_hold (sets_of 0 (block_tables root))) parts.sets;
  gates = zip_by (IsGateTable s.signals) (λ x. OwnerExists s x.0) _ (gates_of root (block_tables root)) s.gates
      (λ x g q r. (subst (λ o. OwnerExists s o) (sym r.owner) q, signals_exist s _ g.inward.items r.inward.named, signals_exist s _ g.outward.items r.outward.named))
      (all_append (λ x. OwnerExists s x.0) (owned owner.System root) (block_gates 0 0 (block_tables root)) (all_mapped (λ g. (owner.System, g)) (λ x. OwnerExists s x.0) (tables_at key.Gate root) (λ g. tt)) (block_gates_exist s 0 0 (block_tables root) blocks_fit sets_fit)) parts.gates;
  gates_order = system_first s.signals (tables_at key.Gate root) (block_gates 0 0 (block_tables root)) s.gates (no_system 0 0 (block_tables root)) parts.gates;
  channels = zip_by (IsChannelTable s.signals s.blocks s.sets s.gates) (λ x. ScopeExists s x.0) _ (channels_of root) s.channels
      (λ x c q r. let e = ends_are s x.0 _ c.first c.second r.ends in
      (subst (λ o. ScopeExists s o) (sym r.scope) q, subst (λ o. IsEnd s o c.first) (sym r.scope) e.0, subst (λ o. IsEnd s o c.second) (sym r.scope) e.1, signals_exist s _ c.forth.items r.forth.named, signals_exist s _ c.back.items r.back.named))
      (all_append (λ x. ScopeExists s x.0) (channels_in scope.System root) (block_channels 0 (block_tables root)) (all_mapped (λ c. (scope.System, c)) (λ x. ScopeExists s x.0) (tables_at key.Channel root) (λ c. tt)) (channels_exist s 0 (block_tables root) blocks_fit)) parts.channels;
}
  where
    blocks_are : length s.blocks ≡ length (block_tables root)
    blocks_are = zip_length IsBlockTable (blocks_of root) s.blocks parts.blocks ∙ sym (length-map (blocks_of root) (λ (x : BlockTable). x.table))

    sets_are : length s.sets ≡ length (sets_of 0 (block_tables root))
    sets_are = zip_length IsSetTable (sets_of 0 (block_tables root)) s.sets parts.sets

    blocks_fit : 0 + length (block_tables root) ≤ length s.blocks
    blocks_fit = omega (arith, blocks_are)

    sets_fit : 0 + total key.Set (block_tables root) ≤ length s.sets
    sets_fit = omega (arith, sets_are, length-sets_of 0 (block_tables root))
