-- The places of the structure file: which table each names, and what stands before it in the walk.
use Rattle.std.specs.Prelude.{◌≡◌, ℕ, ◌<◌, List, [], ◌∷◌, ◌++◌, take, length, Option, slice_index_or}
use Rattle.toml.specs.Data.{Members, no_members}
use Rattle.sdl_structure_tables.specs.declared.place.Part.{Part}
use Rattle.sdl_structure_tables.specs.declared.place.Part.TheVariants as part
use Rattle.sdl_structure_tables.specs.declared.place.Key.{Key}
use Rattle.sdl_structure_tables.specs.declared.place.Key.TheVariants as key
use Rattle.sdl_structure_tables.specs.declared.place.Place.{Place}
use Rattle.sdl_structure_tables.specs.Tables.{text_at, tables_at, the_table, names_of, agent_names, channel_names}
use Rattle.sdl_structure_tables.specs.Blocks.{block_tables, left_before, left_in_all}

-- the table of the block of this number
abbrev pub the_block : ℕ → Members → Members
the_block b root = slice_index_or (block_tables root) b no_members

-- the table with these numbers
abbrev pub table_of : Members → Part → ℕ → ℕ → ℕ → Members
table_of root part.System b s i = root
table_of root part.Signal b s i = the_table key.Signal i root
table_of root part.Gate b s i = the_table key.Gate i root
table_of root part.Channel b s i = the_table key.Channel i root
table_of root part.Block b s i = the_block b root
table_of root part.BlockGate b s i = the_table key.Gate i (the_block b root)
table_of root part.BlockChannel b s i = the_table key.Channel i (the_block b root)
table_of root part.Set b s i = the_table key.Set s (the_block b root)
table_of root part.SetGate b s i = the_table key.Gate i (the_table key.Set s (the_block b root))

abbrev pub IsBlockNumber : Members → ℕ → Type 0
IsBlockNumber root b = b < length (block_tables root)

-- there is a table with these numbers, and a number that means nothing is 0
abbrev pub Exists : Members → Part → ℕ → ℕ → ℕ → Type 0
Exists root part.System b s i = (b ≡ 0) × (s ≡ 0) × (i ≡ 0)
Exists root part.Signal b s i = (b ≡ 0) × (s ≡ 0) × (i < length (tables_at key.Signal root))
Exists root part.Gate b s i = (b ≡ 0) × (s ≡ 0) × (i < length (tables_at key.Gate root))
Exists root part.Channel b s i = (b ≡ 0) × (s ≡ 0) × (i < length (tables_at key.Channel root))
Exists root part.Block b s i = IsBlockNumber root b × (s ≡ 0) × (i ≡ 0)
Exists root part.BlockGate b s i = IsBlockNumber root b × (s ≡ 0) × (i < length (tables_at key.Gate (table_of root part.Block b 0 0)))
Exists root part.BlockChannel b s i = IsBlockNumber root b × (s ≡ 0) × (i < length (tables_at key.Channel (table_of root part.Block b 0 0)))
Exists root part.Set b s i = IsBlockNumber root b × (s < length (tables_at key.Set (table_of root part.Block b 0 0))) × (i ≡ 0)
Exists root part.SetGate b s i = IsBlockNumber root b × (s < length (tables_at key.Set (table_of root part.Block b 0 0))) × (i < length (tables_at key.Gate (table_of root part.Set b s 0)))

abbrev pub table_at : Members → Place → Members
table_at root p = table_of root p.part p.block p.set p.item

abbrev pub IsPlace : Members → Place → Type 0
IsPlace root p = Exists root p.part p.block p.set p.item

-- the names of the tables that come before in the walk and share the name space: signals have one, blocks and sets share
-- one, the channels of the whole file have one, and the gates one per agent
abbrev pub names_before_in : Members → Part → ℕ → ℕ → ℕ → List (Option (List ℕ))
names_before_in root part.System b s i = []
names_before_in root part.Signal b s i = names_of (take i (tables_at key.Signal root))
names_before_in root part.Gate b s i = names_of (take i (tables_at key.Gate root))
names_before_in root part.BlockGate b s i = names_of (take i (tables_at key.Gate (table_of root part.Block b 0 0)))
names_before_in root part.SetGate b s i = names_of (take i (tables_at key.Gate (table_of root part.Set b s 0)))
names_before_in root part.Block b s i = agent_names (take b (block_tables root))
names_before_in root part.Set b s i =
    agent_names (take b (block_tables root)) ++ text_at key.Name (table_of root part.Block b 0 0) ∷ names_of (take s (tables_at key.Set (table_of root part.Block b 0 0)))
names_before_in root part.BlockChannel b s i =
    channel_names (left_before root b) ++ names_of (take i (tables_at key.Channel (table_of root part.Block b 0 0)))
names_before_in root part.Channel b s i = channel_names (left_in_all root) ++ names_of (take i (tables_at key.Channel root))

abbrev pub names_before : Members → Place → List (Option (List ℕ))
names_before root p = names_before_in root p.part p.block p.set p.item

-- the part of the tables in a table's list, other than one of blocks
abbrev pub part_inside : Part → Key → Part
part_inside part.System key.Signal = part.Signal
part_inside part.System key.Gate = part.Gate
part_inside part.System key.Channel = part.Channel
part_inside part.Block key.Gate = part.BlockGate
part_inside part.Block key.Set = part.Set
part_inside part.Block key.Channel = part.BlockChannel
part_inside part.Set key.Gate = part.SetGate
part_inside p _ = p

-- the place of a table in the list at a key of the table at a place, other than a block
abbrev pub inside : Place → Key → ℕ → Place
inside p key.Set i = record p { part = part_inside p.part key.Set; set = i; key = key.Other }
inside p k i = record p { part = part_inside p.part k; item = i; key = key.Other }

-- the place of the block of this number
abbrev pub block_place : ℕ → Place
block_place b = record { part = part.Block; block = b; set = 0; item = 0; key = key.Other }
