-- What each table of a file that keeps all rules is.
use Rattle.std.proofs.Common.{◌≡◌, ℕ, true, false, zero, suc, ◌+◌, ◌<◌, List, [], ◌∷◌, ◌++◌, length, map, get_or, Some, slice_get, subst, arith}
use Rattle.std.specs.List.{AllZip, AllByRecursion}
use Rattle.toml.specs.Data.{Members, no_members}
use Rattle.sdl_structure_parts.specs.declared.parts.SignalDecl.{SignalDecl}
use Rattle.sdl_structure_parts.specs.declared.parts.Block.{Block}
use Rattle.sdl_structure_parts.specs.declared.parts.Set.{Set}
use Rattle.sdl_structure_parts.specs.declared.parts.Gate.{Gate}
use Rattle.sdl_structure_parts.specs.declared.parts.Channel.{Channel}
use Rattle.sdl_structure_parts.specs.declared.parts.Owner.{Owner}
use Rattle.sdl_structure_parts.specs.declared.parts.Owner.TheVariants as owner
use Rattle.sdl_structure_parts.specs.declared.parts.Scope.{Scope}
use Rattle.sdl_structure_parts.specs.declared.parts.Scope.TheVariants as scope
use Rattle.sdl_structure_parts.specs.Structure.{Structure}
use Rattle.sdl_structure_tables.specs.declared.place.Part.{Part}
use Rattle.sdl_structure_tables.specs.declared.place.Part.TheVariants as part
use Rattle.sdl_structure_tables.specs.declared.place.Key.TheVariants as key
use Rattle.sdl_structure_tables.specs.declared.version.Version.{Version}
use Rattle.sdl_structure_tables.specs.Keys.{keys_of}
use Rattle.sdl_structure_tables.specs.Tables.{tables_at, own_version, HasShape}
use Rattle.sdl_structure_tables.specs.Blocks.{BlockTable, blocks_of, block_tables, inner_tables}
use Rattle.sdl_structure_tables.specs.Places.{table_of, Exists}
use Rattle.sdl_structure_tables.specs.Names.{IsSignalTable, HasName}
use Rattle.sdl_structure.specs.Drafts.{tables_of}
use Rattle.sdl_structure.specs.File.{IsFileOf, IsBlockTable, IsWholeBlock, HasGates, IsSetTable, IsGateTable, IsChannelTable, sets_of, owned, set_gates, block_gates, gates_of, channels_in, block_channels, channels_of}

-- a table that may not have the key is no case
pub never : {A : Type 0} → false ≡ true → A
never e = cc

-- each element of a list that is zipped with another names one of that
pub each : {A B : Type 0} (R : A → B → Type 0) (xs : List A) (ys : List B) → AllZip R xs ys → AllByRecursion (λ x. (y : B) × R x y) xs
each R [] ys z = tt
each R (x ∷ xs) [] z = absurd z
each R (x ∷ xs) (y ∷ ys) z = ((y, z.0), each R xs ys z.1)

pub left : {A : Type 0} (P : A → Type 0) (xs ys : List A) → AllByRecursion P (xs ++ ys) → AllByRecursion P xs
left P [] ys h = tt
left P (x ∷ xs) ys h = (h.0, left P xs ys h.1)

pub right : {A : Type 0} (P : A → Type 0) (xs ys : List A) → AllByRecursion P (xs ++ ys) → AllByRecursion P ys
right P [] ys h = h
right P (x ∷ xs) ys h = right P xs ys h.1

pub mapped : {A B : Type 0} (f : A → B) (P : B → Type 0) (Q : A → Type 0) (xs : List A) → ((x : A) → P (f x) → Q x) → AllByRecursion P (map f xs) → AllByRecursion Q xs
mapped f P Q [] g h = tt
mapped f P Q (x ∷ xs) g h = (g x h.0, mapped f P Q xs g h.1)

pub nth : {A : Type 0} (P : A → Type 0) (xs : List A) (i : ℕ) (d : A) → AllByRecursion P xs → i < length xs → P (get_or xs i d)
nth P [] i d h inside = absurd (omega arith)
nth P (x ∷ xs) zero d h inside = h.0
nth P (x ∷ xs) (suc i) d h inside = nth P xs i d h.1 (omega arith)

pub at_place : {A : Type 0} (P : A → Type 0) (xs : List A) (i : ℕ) (x : A) → AllByRecursion P xs → slice_get xs i ≡ Some x → P x
at_place P [] i x h e = cc
at_place P (y ∷ xs) zero x h e = let same : y ≡ x = cc in subst P same h.0
at_place P (y ∷ xs) (suc i) x h e = at_place P xs i x h.1 e

-- what the table of each part is, in a file that names the structure
abbrev pub GateKept : Structure → Members → Type 0
GateKept s ms = (o : Owner) × (g : Gate) × IsGateTable s.signals (o, ms) g

abbrev pub ChannelKept : Structure → Members → Type 0
ChannelKept s ms = (o : Scope) × (c : Channel) × IsChannelTable s.signals s.blocks s.sets s.gates (o, ms) c

abbrev pub SetKept : Members → Type 0
SetKept ms = (b : ℕ) × (t : Set) × IsSetTable (b, ms) t

-- the table of a block, with no word on where it lies
pub record BlockKept (v : Version) (ms : Members) : Type 0 where
  pub shape : HasShape (keys_of v part.Block) ms
  pub named : List ℕ
  pub name : HasName key.Name ms named
  pub gates : HasGates ms
  pub some : 0 < length (tables_at key.Set ms) + length (inner_tables v ms)

abbrev pub IsKept : Version → Structure → Part → Members → Type 0
IsKept v s part.System ms = IsFileOf ms s
IsKept v s part.Signal ms = (x : SignalDecl) × IsSignalTable ms x
IsKept v s part.Gate ms = GateKept s ms
IsKept v s part.Channel ms = ChannelKept s ms
IsKept v s part.Block ms = BlockKept v ms
IsKept v s part.BlockGate ms = GateKept s ms
IsKept v s part.BlockChannel ms = ChannelKept s ms
IsKept v s part.Set ms = SetKept ms
IsKept v s part.SetGate ms = GateKept s ms

blocks_kept : (v : Version) (xs : List BlockTable) (bs : List Block) → AllZip IsBlockTable xs bs → AllByRecursion (IsWholeBlock v) xs → AllByRecursion (BlockKept v) (tables_of xs)
blocks_kept v [] bs z w = tt
blocks_kept v (x ∷ xs) [] z w = absurd z
blocks_kept v (x ∷ xs) (b ∷ bs) z w = (record { shape = w.0.shape; named = b.name.bytes; name = z.0.name; gates = z.0.gates; some = w.0.some }, blocks_kept v xs bs z.1 w.1)

sets_kept : (b : ℕ) (ts : List Members) → AllByRecursion (λ x. (t : Set) × IsSetTable x t) (sets_of b ts) → AllByRecursion (λ t. AllByRecursion SetKept (tables_at key.Set t)) ts
sets_kept b [] h = tt
sets_kept b (t ∷ ts) h = (
  mapped (λ u. (b, u)) (λ x. (t : Set) × IsSetTable x t) SetKept (tables_at key.Set t) (λ u k. (b, k.0, k.1)) (left _ (map (λ u. (b, u)) (tables_at key.Set t)) (sets_of (b + 1) ts) h),
  sets_kept (b + 1) ts (right _ (map (λ u. (b, u)) (tables_at key.Set t)) (sets_of (b + 1) ts) h),
)

abbrev Gates : Structure → List (Owner × Members) → Type 0
Gates s xs = AllByRecursion (λ x. (g : Gate) × IsGateTable s.signals x g) xs

owned_kept : (s : Structure) (o : Owner) (t : Members) → Gates s (owned o t) → AllByRecursion (GateKept s) (tables_at key.Gate t)
owned_kept s o t h = mapped (λ g. (o, g)) (λ x. (g : Gate) × IsGateTable s.signals x g) (GateKept s) (tables_at key.Gate t) (λ m k. (o, k.0, k.1)) h

set_gates_kept : (s : Structure) (n : ℕ) (us : List Members) → Gates s (set_gates n us) → AllByRecursion (λ u. AllByRecursion (GateKept s) (tables_at key.Gate u)) us
set_gates_kept s n [] h = tt
set_gates_kept s n (u ∷ us) h = (
  owned_kept s (owner.Set (record { 0 = n })) u (left _ (owned (owner.Set (record { 0 = n })) u) (set_gates (n + 1) us) h),
  set_gates_kept s (n + 1) us (right _ (owned (owner.Set (record { 0 = n })) u) (set_gates (n + 1) us) h),
)

abbrev BlockGatesKept : Structure → Members → Type 0
BlockGatesKept s t = AllByRecursion (GateKept s) (tables_at key.Gate t) × AllByRecursion (λ u. AllByRecursion (GateKept s) (tables_at key.Gate u)) (tables_at key.Set t)

block_gates_kept : (s : Structure) (b n : ℕ) (ts : List Members) → Gates s (block_gates b n ts) → AllByRecursion (BlockGatesKept s) ts
block_gates_kept s b n [] h = tt
block_gates_kept s b n (t ∷ ts) h = (
  (
    owned_kept s (owner.Block (record { 0 = b })) t (left _ (owned (owner.Block (record { 0 = b })) t) _ h),
    set_gates_kept s n (tables_at key.Set t) (left _ (set_gates n (tables_at key.Set t)) (block_gates (b + 1) (n + length (tables_at key.Set t)) ts) inner),
  ),
  block_gates_kept s (b + 1) (n + length (tables_at key.Set t)) ts (right _ (set_gates n (tables_at key.Set t)) (block_gates (b + 1) (n + length (tables_at key.Set t)) ts) inner),
)
  where
    inner : Gates s (set_gates n (tables_at key.Set t) ++ block_gates (b + 1) (n + length (tables_at key.Set t)) ts)
    inner = right _ (owned (owner.Block (record { 0 = b })) t) _ h

abbrev pub Channels : Structure → List (Scope × Members) → Type 0
Channels s xs = AllByRecursion (λ x. (c : Channel) × IsChannelTable s.signals s.blocks s.sets s.gates x c) xs

channels_kept : (s : Structure) (o : Scope) (t : Members) → Channels s (channels_in o t) → AllByRecursion (ChannelKept s) (tables_at key.Channel t)
channels_kept s o t h = mapped (λ c. (o, c)) (λ x. (c : Channel) × IsChannelTable s.signals s.blocks s.sets s.gates x c) (ChannelKept s) (tables_at key.Channel t) (λ m k. (o, k.0, k.1)) h

block_channels_kept : (s : Structure) (b : ℕ) (ts : List Members) → Channels s (block_channels b ts) → AllByRecursion (λ t. AllByRecursion (ChannelKept s) (tables_at key.Channel t)) ts
block_channels_kept s b [] h = tt
block_channels_kept s b (t ∷ ts) h = (
  channels_kept s (scope.Block (record { 0 = b })) t (left _ (channels_in (scope.Block (record { 0 = b })) t) (block_channels (b + 1) ts) h),
  block_channels_kept s (b + 1) ts (right _ (channels_in (scope.Block (record { 0 = b })) t) (block_channels (b + 1) ts) h),
)

-- the table at each place is one of its part
pub kept_at : (root : Members) (s : Structure) (q : Part) (b u i : ℕ) → IsFileOf root s → Exists root q b u i → IsKept (own_version root) s q (table_of root q b u i)
kept_at root s q b u i file there = at q there
  where
    blocks : List Members
    blocks = block_tables root

    all_gates : Gates s (gates_of root blocks)
    all_gates = each (IsGateTable s.signals) (gates_of root blocks) s.gates file.parts.gates

    all_channels : Channels s (channels_of root)
    all_channels = each (IsChannelTable s.signals s.blocks s.sets s.gates) (channels_of root) s.channels file.parts.channels

    in_blocks : AllByRecursion (BlockGatesKept s) blocks
    in_blocks = block_gates_kept s 0 0 blocks (right _ (owned owner.System root) (block_gates 0 0 blocks) all_gates)

    at : (q : Part) → Exists root q b u i → IsKept (own_version root) s q (table_of root q b u i)
    at part.System e = file
    at part.Signal e = nth _ (tables_at key.Signal root) i no_members (each IsSignalTable (tables_at key.Signal root) s.signals file.parts.signals) e.2
    at part.Gate e = nth _ (tables_at key.Gate root) i no_members (owned_kept s owner.System root (left _ (owned owner.System root) (block_gates 0 0 blocks) all_gates)) e.2
    at part.Channel e = nth _ (tables_at key.Channel root) i no_members (channels_kept s scope.System root (left _ (channels_in scope.System root) (block_channels 0 blocks) all_channels)) e.2
    at part.Block e = nth (BlockKept (own_version root)) blocks b no_members (blocks_kept (own_version root) (blocks_of root) s.blocks file.parts.blocks file.parts.whole) e.0
    at part.BlockGate e = nth _ (tables_at key.Gate (get_or blocks b no_members)) i no_members (nth (BlockGatesKept s) blocks b no_members in_blocks e.0).0 e.2
    at part.BlockChannel e = nth _ (tables_at key.Channel (get_or blocks b no_members)) i no_members (nth _ blocks b no_members (block_channels_kept s 0 blocks (right _ (channels_in scope.System root) (block_channels 0 blocks) all_channels)) e.0) e.2
    at part.Set e = nth _ (tables_at key.Set (get_or blocks b no_members)) u no_members (nth _ blocks b no_members (sets_kept 0 blocks (each IsSetTable (sets_of 0 blocks) s.sets file.parts.sets)) e.0) e.1
    at part.SetGate e = nth _ (tables_at key.Gate (get_or (tables_at key.Set (get_or blocks b no_members)) u no_members)) i no_members (nth _ (tables_at key.Set (get_or blocks b no_members)) u no_members (nth (BlockGatesKept s) blocks b no_members in_blocks e.0).1 e.1) e.2

pub shape_of : (v : Version) (s : Structure) (q : Part) (ms : Members) → IsKept v s q ms → HasShape (keys_of v q) ms
shape_of v s part.System ms k = k.shape
shape_of v s part.Signal ms k = k.1.shape
shape_of v s part.Gate ms k = k.2.shape
shape_of v s part.Channel ms k = k.2.shape
shape_of v s part.Block ms k = k.shape
shape_of v s part.BlockGate ms k = k.2.shape
shape_of v s part.BlockChannel ms k = k.2.shape
shape_of v s part.Set ms k = k.2.shape
shape_of v s part.SetGate ms k = k.2.shape
