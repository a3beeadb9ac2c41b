-- What each fault says of the file: the place, and the rule that is broken there. (This project's own.)
use Rattle.std.specs.Prelude.{◌≡◌, ◌≢◌, ℕ, ◌+◌, ◌<◌, ℤ, ◌≤ℤ◌, List, [], ◌++◌, length, take, Bool, true, false, Option, Some, None, slice_get, codes, IsSomeAnd, Contains, ◌⊎◌, ⊤}
use Rattle.toml.specs.Data.{Members}
use Rattle.sdl_signal.specs.declared.values.Sort.{Sort}
use Rattle.sdl_signal.specs.Names.{IsName}
use Rattle.sdl_structure_tables.specs.declared.place.Part.{Part}
use Rattle.sdl_structure_tables.specs.declared.place.Part.TheVariants as part
use Rattle.sdl_structure_tables.specs.declared.place.Key.{Key}
use Rattle.sdl_structure_tables.specs.declared.place.Key.TheVariants as key
use Rattle.sdl_structure_tables.specs.declared.place.Place.{Place}
use Rattle.sdl_structure_tables.specs.declared.fault.FileFault.{FileFault}
use Rattle.sdl_structure_tables.specs.declared.fault.FileFault.TheVariants as faults
use Rattle.sdl_structure_tables.specs.Keys.{Kind, text, whole_number, sorts, signals, ends, tables, keys_of, kind_of, is_key, is_required, needs_some, is_over, least_of, greatest_of}
use Rattle.sdl_structure_tables.specs.Tables.{data_at, integer_at, text_at, elements_at, texts_at, tables_at, names_of, total, has_only, is_of_kind, own_version}
use Rattle.sdl_structure_tables.specs.Blocks.{inner_tables, listed_in, blocks_of, block_tables, left_before, left_in_all}
use Rattle.sdl_structure_tables.specs.Versions.{most_blocks}
use Rattle.sdl_structure_tables.specs.declared.version.Version.{Version}
use Rattle.sdl_structure_tables.specs.Places.{table_at, table_of, IsPlace, names_before}
use Rattle.sdl_structure_tables.specs.Names.{sort_text, agent_part, gate_part, HasOneDot}

-- a table before it in its name space has its name
abbrev pub IsTaken : Members → Place → Members → Type 0
IsTaken root p ms = (name : List ℕ) × (text_at key.Name ms ≡ Some name) × Contains (names_before root p) (Some name)

-- the text stands at that index of the list at the key
abbrev pub HoldsText : Key → Members → ℕ → List ℕ → Type 0
HoldsText k ms i name = slice_get (texts_at k ms) i ≡ Some (Some name)

abbrev pub IsRepeated : Key → Members → Type 0
IsRepeated k ms = (name : List ℕ) × (i : ℕ) × (j : ℕ) × (i < j) × HoldsText k ms i name × HoldsText k ms j name

-- the agent has a gate of that name
abbrev pub HasGate : Members → List ℕ → Type 0
HasGate ms gate = Contains (names_of (tables_at key.Gate ms)) (Some gate)

-- the agent and the gate that the ends of a channel may name: `env` is the agent whose table lists the channel, and the others
-- are those that lie in it
abbrev pub IsGateOf : List Members → Members → List ℕ → List ℕ → Type 0
IsGateOf within ms agent gate =
    ((agent ≡ codes "env") × HasGate ms gate)
    ⊎ ((i : ℕ) × (u : Members) × (slice_get within i ≡ Some u) × (text_at key.Name u ≡ Some agent) × HasGate u gate)

-- the agents that lie in a block: its sets, and the blocks directly in it
abbrev pub agents_within : Version → Members → List Members
agents_within v t = tables_at key.Set t ++ inner_tables v t

-- the end is known to a channel at the place
abbrev pub IsKnownEnd : Members → Part → ℕ → List ℕ → Type 0
IsKnownEnd root part.Channel b end = IsGateOf (tables_at key.Block root) root (agent_part end) (gate_part end)
IsKnownEnd root part.BlockChannel b end =
    IsGateOf (agents_within (own_version root) (table_of root part.Block b 0 0)) (table_of root part.Block b 0 0) (agent_part end) (gate_part end)
IsKnownEnd root _ b end = ⊥

-- what a text in a list of that kind may name
abbrev pub IsKnown : Members → Place → Kind → List ℕ → Type 0
IsKnown root p sorts name = (s : Sort) × (sort_text s ≡ name)
IsKnown root p signals name = Contains (names_of (tables_at key.Signal root)) (Some name)
IsKnown root p ends name = IsKnownEnd root p.part p.block name
IsKnown root p _ name = ⊤

-- How many blocks, sets or channels the lists have that the walk has met up to the list at the place, each counted in full: the
-- lists of blocks and of sets as it enters the blocks, and those of channels as it leaves them.
abbrev pub so_far : Members → Part → Key → ℕ → ℕ
so_far root part.System key.Channel b = total key.Channel (left_in_all root) + length (tables_at key.Channel root)
so_far root part.System k b = length (tables_at k root)
so_far root _ key.Channel b = total key.Channel (left_before root b) + length (tables_at key.Channel (table_of root part.Block b 0 0))
so_far root _ key.Block b = length (tables_at key.Block root) + listed_in (own_version root) (take (b + 1) (block_tables root))
so_far root _ k b = total k (take (b + 1) (block_tables root))

-- the most of them
abbrev pub most_in_all : Version → Key → ℕ
most_in_all v key.Block = most_blocks v
most_in_all v _ = 64

-- the block of this number lies as deep as a block may
abbrev pub IsDeepest : Members → ℕ → Type 0
IsDeepest root b = IsSomeAnd (slice_get (blocks_of root) b) (λ x. x.depth ≡ 4)

-- The rules, each as what its fault says of the table ms at the place p.
abbrev pub IsMissing : Members → Place → Members → Type 0
IsMissing root p ms = ((is_required p.key ≡ true) ⊎ (needs_some (own_version root) p.part p.key ≡ true)) × (data_at p.key ms ≡ None)

abbrev pub HasWrongType : Place → Members → Type 0
HasWrongType p ms = IsSomeAnd (data_at p.key ms) (λ d. is_of_kind (kind_of p.key) d ≡ false)

abbrev pub HasBadName : Place → Members → Type 0
HasBadName p ms =
    ((kind_of p.key ≡ text) × IsSomeAnd (text_at p.key ms) (λ name. ¬ IsName name))
    ⊎ ((kind_of p.key ≡ ends) × (end : List ℕ) × (i : ℕ) × HoldsText p.key ms i end × ¬ HasOneDot end)

abbrev pub IsDuplicate : Members → Place → Members → Type 0
IsDuplicate root p ms = ((p.key ≡ key.Name) × IsTaken root p ms) ⊎ ((kind_of p.key ≡ signals) × IsRepeated p.key ms)

abbrev pub NamesUnknown : Members → Place → Members → Type 0
NamesUnknown root p ms = (name : List ℕ) × (i : ℕ) × HoldsText p.key ms i name × ¬ IsKnown root p (kind_of p.key) name

abbrev pub HasTooManyElements : Members → Place → Members → Type 0
HasTooManyElements root p ms =
    (is_over p.key (length (elements_at p.key ms)) ≡ true)
    ⊎ ((((p.key ≡ key.Block) ⊎ (p.key ≡ key.Set)) ⊎ (p.key ≡ key.Channel)) × (most_in_all (own_version root) p.key < so_far root p.part p.key p.block))
    ⊎ ((p.part ≡ part.Block) × (p.key ≡ key.Block) × IsDeepest root p.block × (elements_at key.Block ms ≢ []))

-- a number out of its range, a list of tables that may not be empty, a block of version 2 with neither sets nor blocks, or ends
-- that are not two
abbrev pub IsOutOfRange : Members → Place → Members → Type 0
IsOutOfRange root p ms =
    ((kind_of p.key ≡ whole_number) × IsSomeAnd (integer_at p.key ms) (λ z. ¬ ((least_of p.key ≤ℤ z) × (z ≤ℤ greatest_of p.key))))
    ⊎ ((needs_some (own_version root) p.part p.key ≡ true) × (elements_at p.key ms ≡ []) × (data_at p.key ms ≢ None))
    ⊎ ((p.part ≡ part.Block) × (p.key ≡ key.Block) × (elements_at key.Set ms ≡ []) × (elements_at key.Block ms ≡ []))
    ⊎ ((p.key ≡ key.Ends) × (length (elements_at p.key ms) ≢ 2) × (data_at p.key ms ≢ None))

-- the rule is broken at the key of the table at the place, which is a key of such tables
pub record BreaksAt (root : Members) (p : Place) (rule : Place → Members → Type 0) : Type 0 where
  pub place : IsPlace root p
  pub listed : is_key (own_version root) p.part p.key ≡ true
  pub broken : rule p (table_at root p)

-- the table at the place has a key that such tables do not have
pub record HasUnknownKey (root : Members) (p : Place) : Type 0 where
  pub place : IsPlace root p
  pub other : p.key ≡ key.Other
  pub unknown : has_only (keys_of (own_version root) p.part) (table_at root p) ≡ false

-- the rule of the fault is broken at the fault's place; a refused growth of memory may come anywhere
abbrev pub IsBroken : Members → FileFault → Type 0
IsBroken root faults.NotToml = ⊥
IsBroken root (faults.MissingKey p) = BreaksAt root p (IsMissing root)
IsBroken root (faults.WrongType p) = BreaksAt root p HasWrongType
IsBroken root (faults.UnknownKey p) = HasUnknownKey root p
IsBroken root (faults.BadName p) = BreaksAt root p HasBadName
IsBroken root (faults.Duplicate p) = BreaksAt root p (IsDuplicate root)
IsBroken root (faults.UnknownName p) = BreaksAt root p (NamesUnknown root)
IsBroken root (faults.TooMany p) = BreaksAt root p (HasTooManyElements root)
IsBroken root (faults.OutOfRange p) = BreaksAt root p (IsOutOfRange root)
IsBroken root faults.Memory = ⊤

-- the fault is one of the file's own, and no refused growth of memory
abbrev pub IsOfFile : FileFault → Type 0
IsOfFile faults.Memory = ⊥
IsOfFile _ = ⊤
