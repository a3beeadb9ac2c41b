-- The structure file: which top tables keep its rules, and which structure each of them names. (This project's own.)
use Rattle.std.specs.Prelude.{◌≡◌, ◌≢◌, ℕ, ◌+◌, ◌*◌, ◌<◌, ◌≤◌, ◌⊎◌, ◌==◌, if◌then◌else◌, ℤ, pos, false, List, [], ◌∷◌, ◌++◌, map, length, Some, slice_get, codes, IsSomeAnd, AllPairs}
use Rattle.std.specs.List.{AllZip, AllByRecursion}
use Rattle.toml.specs.Data.{Data, Members, as_str}
use Rattle.sdl_structure_parts.specs.declared.parts.SignalDecl.{SignalDecl}
use Rattle.sdl_structure_parts.specs.declared.parts.Block.{Block}
use Rattle.sdl_structure_parts.specs.declared.parts.Set.{Set}
use Rattle.sdl_structure_parts.specs.declared.parts.Gate.{Gate}
use Rattle.sdl_structure_parts.specs.declared.parts.Channel.{Channel}
use Rattle.sdl_structure_parts.specs.declared.parts.End.{End}
use Rattle.sdl_structure_parts.specs.declared.parts.Owner.{Owner}
use Rattle.sdl_structure_parts.specs.declared.parts.Owner.TheVariants as owner
use Rattle.sdl_structure_parts.specs.declared.parts.Scope.{Scope}
use Rattle.sdl_structure_parts.specs.declared.parts.Scope.TheVariants as scope
use Rattle.sdl_structure_parts.specs.declared.parts.Side.{Side}
use Rattle.sdl_structure_parts.specs.declared.parts.Side.TheVariants.{Outer, Inner}
use Rattle.sdl_structure_tables.specs.declared.place.Key.TheVariants as key
use Rattle.sdl_structure_tables.specs.declared.place.Part.TheVariants as part
use Rattle.sdl_signal.specs.declared.ids.BlockId.{BlockId}
use Rattle.sdl_structure_parts.specs.Structure.{Structure}
use Rattle.sdl_structure_tables.specs.declared.version.Version.{Version}
use Rattle.sdl_structure_tables.specs.declared.version.Version.TheVariants.{One, Two}
use Rattle.sdl_structure_tables.specs.Versions.{most_blocks}
use Rattle.sdl_structure_tables.specs.Blocks.{BlockTable, blocks_of, block_tables, inner_tables, left_in_all}
use Rattle.sdl_structure_tables.specs.Keys.{keys_of, gate_keys, channel_keys, set_keys}
use Rattle.sdl_structure_tables.specs.Names.{HasName, IsSignalTable, ListsSignals, HasOneDot, agent_part, gate_part}
use Rattle.sdl_structure_tables.specs.Tables.{integer_at, integer_or, flag_or, elements_at, tables_at, names_of, agent_names, channel_names, own_version, HasShape}

-- the table is that of a gate of this owner, and says this
pub record IsGateTable (signals : List SignalDecl) (x : Owner × Members) (g : Gate) : Type 0 where
  pub shape : HasShape gate_keys x.1
  pub name : HasName key.Name x.1 g.name.bytes
  pub inward : ListsSignals signals key.Inward x.1 g.inward.items
  pub outward : ListsSignals signals key.Outward x.1 g.outward.items
  pub owner : g.owner ≡ x.0

-- the number of a version
abbrev pub version_number : Version → ℤ
version_number One = pos 1
version_number Two = pos 2

-- an agent has at most 8 gates, no two with one name
pub record HasGates (ms : Members) : Type 0 where
  pub few : length (tables_at key.Gate ms) ≤ 8
  pub apart : AllPairs (λ a b. a ≢ b) (names_of (tables_at key.Gate ms))

-- the table is that of a set in the block with this number, and says this
pub record IsSetTable (x : ℕ × Members) (t : Set) : Type 0 where
  pub shape : HasShape set_keys x.1
  pub name : HasName key.Name x.1 t.name.bytes
  pub initial : (integer_or (pos 1) key.Initial x.1 ≡ Some (pos t.initial)) × (t.initial ≤ 1024)
  pub maximum : (integer_or (pos 1024) key.Maximum x.1 ≡ Some (pos t.maximum)) × (1 ≤ t.maximum) × (t.maximum ≤ 1024)
  pub gates : HasGates x.1
  pub block : t.block.0 ≡ x.0

-- the table is that of a block, which lies there, and says this
pub record IsBlockTable (x : BlockTable) (b : Block) : Type 0 where
  pub name : HasName key.Name x.table b.name.bytes
  pub gates : HasGates x.table
  pub scope : b.scope ≡ x.scope
  pub depth : b.depth ≡ x.depth

-- the table of a block has its keys; the block has a set at least, or, in version 2, a block, and no block where it lies four deep
pub record IsWholeBlock (v : Version) (x : BlockTable) : Type 0 where
  pub shape : HasShape (keys_of v part.Block) x.table
  pub some : 0 < length (tables_at key.Set x.table) + length (inner_tables v x.table)
  pub deepest : x.depth ≡ 4 → inner_tables v x.table ≡ []

-- the block with this number lies in the scope, and has the name
abbrev pub IsBlockIn : List Block → Scope → List ℕ → BlockId → Type 0
IsBlockIn blocks at agent b = IsSomeAnd (slice_get blocks b.0) (λ x. (x.scope ≡ at) × (x.name.bytes ≡ agent))

-- In a channel of the system the agent is `env`, the system itself, or a block that lies in the system. In a channel of a block it is
-- `env`, the block itself, or a set or a block that lies in the block.
abbrev pub IsAgent : List Block → List Set → Scope → List ℕ → Owner → Type 0
IsAgent blocks sets scope.System agent owner.System = agent ≡ codes "env"
IsAgent blocks sets scope.System agent (owner.Block b) = IsBlockIn blocks scope.System agent b
IsAgent blocks sets scope.System agent (owner.Set t) = ⊥
IsAgent blocks sets (scope.Block b) agent owner.System = ⊥
IsAgent blocks sets (scope.Block b) agent (owner.Block c) = ((c ≡ b) × (agent ≡ codes "env")) ⊎ IsBlockIn blocks (scope.Block b) agent c
IsAgent blocks sets (scope.Block b) agent (owner.Set t) = IsSomeAnd (slice_get sets t.0) (λ x. (x.block.0 ≡ b.0) × (x.name.bytes ≡ agent))

-- a channel ends at the inner side of a gate of the agent that it lies in. At any other gate it ends at the outer
-- side
abbrev pub side_in : Scope → Owner → Side
side_in scope.System owner.System = Inner
side_in (scope.Block b) (owner.Block c) = if c.0 == b.0 then Inner else Outer
side_in _ _ = Outer

-- the text names this end of a channel in the scope
abbrev pub NamesEnd : List Block → List Set → List Gate → Scope → Data → End → Type 0
NamesEnd blocks sets gates scope d end =
    IsSomeAnd (slice_get gates end.gate.0) (λ g.
    IsSomeAnd (as_str d) (λ text.
    HasOneDot text × (g.name.bytes ≡ gate_part text) × IsAgent blocks sets scope (agent_part text) g.owner)
    × (end.side ≡ side_in scope g.owner))

-- the table is that of a channel in this scope, and says this
pub record IsChannelTable (signals : List SignalDecl) (blocks : List Block) (sets : List Set) (gates : List Gate) (x : Scope × Members) (c : Channel) : Type 0 where
  pub shape : HasShape channel_keys x.1
  pub name : HasName key.Name x.1 c.name.bytes
  pub ends : AllZip (NamesEnd blocks sets gates x.0) (elements_at key.Ends x.1) (c.first ∷ c.second ∷ [])
  pub forth : ListsSignals signals key.Forth x.1 c.forth.items
  pub back : ListsSignals signals key.Back x.1 c.back.items
  pub nodelay : flag_or false key.Nodelay x.1 ≡ Some c.nodelay
  pub scope : c.scope ≡ x.0

-- Signals, blocks and sets count in file order from 0, over the whole file. These are the sets' tables in that order, each with
-- the number of its block, where the first of some blocks has the number b.
abbrev pub sets_of : ℕ → List Members → List (ℕ × Members)
sets_of b [] = []
sets_of b (t ∷ ts) = map (λ u. (b, u)) (tables_at key.Set t) ++ sets_of (b + 1) ts

-- the tables of an agent's gates
abbrev pub owned : Owner → Members → List (Owner × Members)
owned o t = map (λ g. (o, g)) (tables_at key.Gate t)

-- those of the gates of some sets, the first of which has the number n
abbrev pub set_gates : ℕ → List Members → List (Owner × Members)
set_gates n [] = []
set_gates n (u ∷ us) = owned (owner.Set (record { 0 = n })) u ++ set_gates (n + 1) us

-- Gates: the system's, then for each block its own and those of its sets in order.
abbrev pub block_gates : ℕ → ℕ → List Members → List (Owner × Members)
block_gates b n [] = []
block_gates b n (t ∷ ts) =
    owned (owner.Block (record { 0 = b })) t ++ (set_gates n (tables_at key.Set t) ++ block_gates (b + 1) (n + length (tables_at key.Set t)) ts)

abbrev pub gates_of : Members → List Members → List (Owner × Members)
gates_of root blocks = owned owner.System root ++ block_gates 0 0 blocks

-- Channels: those of the top table first, then those of each block.
abbrev pub channels_in : Scope → Members → List (Scope × Members)
channels_in scope t = map (λ c. (scope, c)) (tables_at key.Channel t)

abbrev pub block_channels : ℕ → List Members → List (Scope × Members)
block_channels b [] = []
block_channels b (t ∷ ts) = channels_in (scope.Block (record { 0 = b })) t ++ block_channels (b + 1) ts

abbrev pub channels_of : Members → List (Scope × Members)
channels_of root = channels_in scope.System root ++ block_channels 0 (block_tables root)

-- what the lists of the top table and of its blocks name
pub record ListsParts (root : Members) (s : Structure) : Type 0 where
  pub signals : AllZip IsSignalTable (tables_at key.Signal root) s.signals
  pub blocks : AllZip IsBlockTable (blocks_of root) s.blocks
  pub whole : AllByRecursion (IsWholeBlock (own_version root)) (blocks_of root)
  pub sets : AllZip IsSetTable (sets_of 0 (block_tables root)) s.sets
  pub gates : AllZip (IsGateTable s.signals) (gates_of root (block_tables root)) s.gates
  pub channels : AllZip (IsChannelTable s.signals s.blocks s.sets s.gates) (channels_of root) s.channels

-- signals have one name space, blocks and sets share one, channels have one over the whole file, and gates one per agent
pub record HasDistinctNames (root : Members) : Type 0 where
  pub signals : AllPairs (λ a b. a ≢ b) (names_of (tables_at key.Signal root))
  pub agents : AllPairs (λ a b. a ≢ b) (agent_names (block_tables root))
  pub channels : AllPairs (λ a b. a ≢ b) (channel_names (left_in_all root) ++ names_of (tables_at key.Channel root))
  pub gates : HasGates root

pub record IsWithinLimits (v : Version) (s : Structure) : Type 0 where
  pub signals : length s.signals ≤ 64
  pub blocks : (0 < length s.blocks) × (length s.blocks ≤ most_blocks v)
  pub sets : length s.sets ≤ 64
  pub gates : length s.gates ≤ 8 * (1 + length s.blocks + length s.sets)
  pub channels : length s.channels ≤ 64

-- the top table keeps all rules of the file, and the structure is what it names
pub record IsFileOf (root : Members) (s : Structure) : Type 0 where
  pub shape : HasShape (keys_of (own_version root) part.System) root
  pub version : integer_at key.Version root ≡ Some (version_number (own_version root))
  pub system : HasName key.System root s.system
  pub budget : (integer_or (pos 100000) key.Budget root ≡ Some (pos s.budget)) × (1 ≤ s.budget) × (s.budget ≤ 1000000)
  pub parts : ListsParts root s
  pub names : HasDistinctNames root
  pub limits : IsWithinLimits (own_version root) s
