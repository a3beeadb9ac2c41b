-- What is read of a file so far: the draft holds exactly what the tables that the walk has met name.
use Rattle.std.specs.Prelude.{◌≡◌, ◌≢◌, ℕ, ◌+◌, ◌-◌, ◌*◌, ◌<◌, ◌≤◌, List, [], ◌∷◌, ◌++◌, map, take, length, Some, slice_get, All, AllPairs}
use Rattle.std.specs.List.{AllZip, AllByRecursion}
use Rattle.toml.specs.Data.{Members}
use Rattle.sdl_structure_parts.specs.declared.parts.Gate.{Gate}
use Rattle.sdl_structure_parts.specs.declared.parts.Set.{Set}
use Rattle.sdl_structure_parts.specs.declared.parts.Block.{Block}
use Rattle.sdl_structure_parts.specs.declared.parts.Channel.{Channel}
use Rattle.sdl_structure_parts.specs.Structure.{IsDepthIn}
use Rattle.sdl_structure_parts.specs.declared.parts.Owner.TheVariants as owner
use Rattle.sdl_structure_parts.specs.declared.parts.Scope.{Scope}
use Rattle.sdl_structure_parts.specs.declared.parts.Scope.TheVariants as scope
use Rattle.sdl_structure_tables.specs.declared.place.Key.TheVariants as key
use Rattle.sdl_structure_tables.specs.declared.place.Part.TheVariants as part
use Rattle.sdl_structure_tables.specs.declared.place.Place.{Place}
use Rattle.sdl_structure.specs.declared.reading.draft.Draft.{Draft}
use Rattle.sdl_structure_tables.specs.Tables.{text_at, tables_at, names_of, agent_names, channel_names, own_version, HasKindAt}
use Rattle.sdl_structure_tables.specs.Names.{IsSignalTable, agent_part, gate_part}
use Rattle.sdl_structure_tables.specs.declared.version.Version.{Version}
use Rattle.sdl_structure_tables.specs.declared.version.Version.TheVariants.{One, Two}
use Rattle.sdl_structure_tables.specs.Blocks.{BlockTable, blocks_of, block_tables, blocks_from, leaving_of, leaving_from, left_before, left_in_all, inner_tables}
use Rattle.sdl_structure.specs.File.{IsBlockTable, IsWholeBlock, IsSetTable, IsGateTable, IsChannelTable, IsAgent, sets_of, owned, set_gates, gates_of, block_channels}
use Rattle.sdl_structure_tables.specs.Keys.{keys_of, channel_keys}
use Rattle.sdl_structure_tables.specs.Faults.{IsGateOf, IsKnownEnd, agents_within}
use Rattle.sdl_structure_tables.specs.Walks.{name_texts}

-- the signals of the file are read
pub record HasSignals (root : Members) (d : Draft) : Type 0 where
  pub named : AllZip IsSignalTable (tables_at key.Signal root) d.signals.items
  pub few : length d.signals.items ≤ 64

-- there are at most 8 gates of each agent
abbrev pub HasFewGates : Draft → Type 0
HasFewGates d = length d.gates.items ≤ 8 * (1 + length d.blocks.items + length d.sets.items)

-- the tables of some blocks
abbrev pub tables_of : List BlockTable → List Members
tables_of xs = map (λ (x : BlockTable). x.table) xs

-- the agents of the first blocks are read, in the order in which the walk enters them
pub record HasAgents (root : Members) (xs : List BlockTable) (d : Draft) : Type 0 where
  pub blocks : AllZip IsBlockTable xs d.blocks.items
  pub sets : AllZip IsSetTable (sets_of 0 (tables_of xs)) d.sets.items
  pub gates : AllZip (IsGateTable d.signals.items) (gates_of root (tables_of xs)) d.gates.items
  pub names : name_texts d.agent_names.items ≡ agent_names (tables_of xs)
  pub apart : AllPairs (λ a b. a ≢ b) (name_texts d.agent_names.items)
  pub few_sets : length d.sets.items ≤ 64
  pub few_gates : HasFewGates d

-- after the first blocks the gates of the block with the table t are read, and its first sets, us
pub record HasSets (root : Members) (blocks : List Members) (t : Members) (us : List Members) (d : Draft) : Type 0 where
  pub sets : AllZip IsSetTable (sets_of 0 blocks ++ map (λ u. (length blocks, u)) us) d.sets.items
  pub gates : AllZip (IsGateTable d.signals.items) ((gates_of root blocks ++ owned (owner.Block (record { 0 = length blocks })) t) ++ set_gates (length (sets_of 0 blocks)) us) d.gates.items
  pub names : name_texts d.agent_names.items ≡ agent_names blocks ++ text_at key.Name t ∷ names_of us
  pub apart : AllPairs (λ a b. a ≢ b) (name_texts d.agent_names.items)
  pub few_gates : HasFewGates d

-- how many levels of blocks there may be, where those of the first lie so deep
abbrev pub levels_from : ℕ → ℕ
levels_from depth = 5 - depth

-- these blocks and all in them, where the draft has the blocks before them
abbrev pub entering : Members → Draft → Scope → ℕ → List Members → List BlockTable
entering root d at depth ts = blocks_from (own_version root) (levels_from depth) at depth (length d.blocks.items) ts

abbrev pub leaving : Members → Draft → ℕ → List Members → List (ℕ × Members)
leaving root d depth ts = leaving_from (own_version root) (levels_from depth) (length d.blocks.items) ts

-- the blocks that the draft has are read up to their sets, and these come next
pub record ComesTo (root : Members) (d : Draft) (at : Scope) (depth : ℕ) (ts : List Members) : Type 0 where
  pub signals : HasSignals root d
  pub before : List BlockTable
  pub agents : HasAgents root before d
  pub after : List BlockTable
  pub blocks : blocks_of root ≡ before ++ (entering root d at depth ts ++ after)
  pub left : List (ℕ × Members)
  pub behind : List (ℕ × Members)
  pub leaves : leaving_of root ≡ left ++ (leaving root d depth ts ++ behind)
  pub below : AllByRecursion (λ x. x.0 < length d.blocks.items) left
  pub names : name_texts d.channel_names.items ≡ channel_names (map (λ x. x.1) left)
  pub apart : AllPairs (λ a b. a ≢ b) (name_texts d.channel_names.items)
  pub few : length d.channel_names.items ≤ 64
  pub around : IsDepthIn d.blocks.items at depth

-- the draft has more blocks, sets and gates, after those that it had
pub record Grows (old : Draft) (new : Draft) : Type 0 where
  pub blocks : List Block
  pub sets : List Set
  pub gates : List Gate
  pub blocks_are : new.blocks.items ≡ old.blocks.items ++ blocks
  pub sets_are : new.sets.items ≡ old.sets.items ++ sets
  pub gates_are : new.gates.items ≡ old.gates.items ++ gates

-- they are read, with all that stands in them, and these are their channels
pub record HasRead (root : Members) (old : Draft) (at : Scope) (depth : ℕ) (ts : List Members) (channels : List Channel) (new : Draft) : Type 0 where
  pub agents : HasAgents root (take (length old.blocks.items + length (entering root old at depth ts)) (blocks_of root)) new
  pub whole : AllByRecursion (IsWholeBlock (own_version root)) (entering root old at depth ts)
  pub channels_are : AllZip (IsChannelTable new.signals.items new.blocks.items new.sets.items new.gates.items) (block_channels (length old.blocks.items) (tables_of (entering root old at depth ts))) channels
  pub names : name_texts new.channel_names.items ≡ name_texts old.channel_names.items ++ channel_names (map (λ x. x.1) (leaving root old depth ts))
  pub apart : AllPairs (λ a b. a ≢ b) (name_texts new.channel_names.items)
  pub few : length new.channel_names.items ≤ 64
  pub signals : new.signals ≡ old.signals
  pub grows : Grows old new

-- the table of a block, which lies there and so deep
abbrev pub placed : Scope → ℕ → Members → BlockTable
placed at depth t = record { scope = at; depth = depth; table = t }

-- the blocks in the block of this number, which lies so deep and has the table t, with all in them, in the two orders
abbrev pub entering_in : Members → ℕ → ℕ → Members → List BlockTable
entering_in root b depth t = blocks_from (own_version root) (levels_from (depth + 1)) (scope.Block (record { 0 = b })) (depth + 1) (b + 1) (inner_tables (own_version root) t)

abbrev pub leaving_in : Members → ℕ → ℕ → Members → List (ℕ × Members)
leaving_in root b depth t = leaving_from (own_version root) (levels_from (depth + 1)) (b + 1) (inner_tables (own_version root) t)

-- the blocks that the draft has are read, the last of them, b with the table t, up to its sets: these come next, then the blocks in it
pub record HasBegun (root : Members) (d : Draft) (b : ℕ) (depth : ℕ) (t : Members) : Type 0 where
  pub signals : HasSignals root d
  pub at : Scope
  pub before : List BlockTable
  pub number : length before ≡ b
  pub tables : AllZip IsBlockTable (before ++ placed at depth t ∷ []) d.blocks.items
  pub sets : HasSets root (tables_of before) t [] d
  pub few_sets : length d.sets.items ≤ 64
  pub after : List BlockTable
  pub blocks : blocks_of root ≡ before ++ (placed at depth t ∷ (entering_in root b depth t ++ after))
  pub left : List (ℕ × Members)
  pub behind : List (ℕ × Members)
  pub leaves : leaving_of root ≡ left ++ (leaving_in root b depth t ++ (b, t) ∷ behind)
  pub below : AllByRecursion (λ x. x.0 < b) left
  pub names : name_texts d.channel_names.items ≡ channel_names (map (λ x. x.1) left)
  pub apart : AllPairs (λ a b. a ≢ b) (name_texts d.channel_names.items)
  pub few : length d.channel_names.items ≤ 64

-- the sets of the block are read, and the blocks in it with all that stands in them, and these are the channels in those
pub record HasInside (root : Members) (old : Draft) (b : ℕ) (depth : ℕ) (t : Members) (channels : List Channel) (new : Draft) : Type 0 where
  pub between : Draft
  pub sets : HasSets root (take b (block_tables root)) t (tables_at key.Set t) between
  pub few_sets : length between.sets.items ≤ 64
  pub grows : Grows old between
  pub frame : between ≡ record old { sets = between.sets; gates = between.gates; agent_names = between.agent_names }
  pub read : HasRead root between (scope.Block (record { 0 = b })) (depth + 1) (inner_tables (own_version root) t) channels new

-- what stands at the keys of the lists of agents in a block is of its kind
abbrev pub HasKindsWithin : Version → Members → Type 0
HasKindsWithin One t = HasKindAt t key.Set
HasKindsWithin Two t = HasKindAt t key.Set × HasKindAt t key.Block

-- the agent's gate of that name is in the draft
abbrev pub HasGateOf : Draft → Scope → List ℕ → List ℕ → Type 0
HasGateOf d scope agent gate =
    (i : ℕ) × (g : Gate) × (slice_get d.gates.items i ≡ Some g) × (g.name.bytes ≡ gate) × IsAgent d.blocks.items d.sets.items scope agent g.owner

-- the tables of the agents that lie in a scope, whose table this is
abbrev pub inside_of : Version → Scope → Members → List Members
inside_of v scope.System ms = tables_at key.Block ms
inside_of v (scope.Block b) ms = agents_within v ms

-- the gates that the ends of the channels in a table may name are in the draft
abbrev pub KnowsGates : Version → Scope → Members → Draft → Type 0
KnowsGates v scope ms d = (agent gate : List ℕ) → IsGateOf (inside_of v scope ms) ms agent gate → HasGateOf d scope agent gate

-- the place is that of the table of a scope
abbrev pub IsScope : Scope → Place → Type 0
IsScope scope.System p = p.part ≡ part.System
IsScope (scope.Block b) p = (p.part ≡ part.Block) × (b.0 ≡ p.block)

-- the blocks whose channels come before those of a scope
abbrev pub blocks_before : Members → Scope → List Members
blocks_before root scope.System = left_in_all root
blocks_before root (scope.Block b) = left_before root b.0

-- what the ends and lists of a channel in a scope need of the draft
pub record ServesChannels (root : Members) (scope : Scope) (ms : Members) (d : Draft) : Type 0 where
  pub signals : HasSignals root d
  pub gates : KnowsGates (own_version root) scope ms d
  pub few_gates : length d.gates.items < 65536

-- one more set is read, with its gates and its name
pub record IsSetRead (block : ℕ) (old : Draft) (ms : Members) (new : Draft) : Type 0 where
  pub set : Set
  pub gates : List Gate
  pub table : IsSetTable (block, ms) set
  pub gate_tables : AllZip (IsGateTable old.signals.items) (owned (owner.Set (record { 0 = length old.sets.items })) ms) gates
  pub few : length gates ≤ 8
  pub apart : All (λ m. m.bytes ≢ set.name.bytes) old.agent_names.items
  pub sets_are : new.sets.items ≡ old.sets.items ++ set ∷ []
  pub gates_are : new.gates.items ≡ old.gates.items ++ gates
  pub names_are : new.agent_names.items ≡ old.agent_names.items ++ set.name ∷ []

-- the place is that of a channel's table in a scope, and the draft serves the channels there
pub record IsChannelScope (root : Members) (scope : Scope) (p : Place) (d : Draft) : Type 0 where
  pub keys : keys_of (own_version root) p.part ≡ channel_keys
  pub ends : (text : List ℕ) → IsKnownEnd root p.part p.block text → HasGateOf d scope (agent_part text) (gate_part text)
  pub signals : HasSignals root d
  pub few_gates : length d.gates.items < 65536
