-- The blocks of a file, in the order in which the walk enters them, by which they are numbered, and in that in which it leaves them.
-- (This project's own.)
use Rattle.std.specs.Prelude.{◌≡◌, ℕ, zero, suc, ◌+◌, ◌==◌, List, [], ◌∷◌, ◌++◌, map, length, Some, slice_get, option_map}
use Rattle.std.specs.List.{before_first}
use Rattle.toml.specs.Data.{Members}
use Rattle.sdl_structure_parts.specs.declared.parts.Scope.{Scope}
use Rattle.sdl_structure_parts.specs.declared.parts.Scope.TheVariants as scope
use Rattle.sdl_structure_tables.specs.declared.version.Version.{Version}
use Rattle.sdl_structure_tables.specs.declared.version.Version.TheVariants.{One, Two}
use Rattle.sdl_structure_tables.specs.declared.place.Key.TheVariants as key
use Rattle.sdl_structure_tables.specs.Tables.{tables_at, own_version, channel_names, total}

-- a block's table, where the block lies, and how deep
pub record BlockTable : Type 0 where
  pub scope : Scope
  pub depth : ℕ
  pub table : Members

-- the tables of the blocks that lie in a block
abbrev pub inner_tables : Version → Members → List Members
inner_tables One t = []
inner_tables Two t = tables_at key.Block t

-- how many blocks the lists of blocks have that some blocks have
abbrev pub listed_in : Version → List Members → ℕ
listed_in v [] = 0
listed_in v (t ∷ ts) = length (inner_tables v t) + listed_in v ts

-- These blocks and all that lie in them, in the order in which the walk enters them: a block, then those in it. They lie in the
-- scope, the first has the number n, and blocks lie in one another for so many levels at most.
abbrev pub blocks_from : Version → ℕ → Scope → ℕ → ℕ → List Members → List BlockTable
blocks_from v zero at depth n ts = []
blocks_from v (suc levels) at depth n [] = []
blocks_from v (suc levels) at depth n (t ∷ ts) =
    record { scope = at; depth = depth; table = t }
    ∷ (blocks_from v levels (scope.Block (record { 0 = n })) (depth + 1) (n + 1) (inner_tables v t)
    ++ blocks_from v (suc levels) at depth (n + 1 + length (blocks_from v levels (scope.Block (record { 0 = n })) (depth + 1) (n + 1) (inner_tables v t))) ts)

-- The blocks of a file by number: at most four lie in one another.
abbrev pub blocks_of : Members → List BlockTable
blocks_of root = blocks_from (own_version root) 4 scope.System 1 0 (tables_at key.Block root)

abbrev pub block_tables : Members → List Members
block_tables root = map (λ b. b.table) (blocks_of root)

-- the same blocks with their numbers in the order in which the walk leaves them, which is that in which it reads their channels:
-- a block behind those in it
abbrev pub leaving_from : Version → ℕ → ℕ → List Members → List (ℕ × Members)
leaving_from v zero n ts = []
leaving_from v (suc levels) n [] = []
leaving_from v (suc levels) n (t ∷ ts) =
    leaving_from v levels (n + 1) (inner_tables v t)
    ++ (n, t) ∷ leaving_from v (suc levels) (n + 1 + length (blocks_from v levels scope.System 0 0 (inner_tables v t))) ts

abbrev pub leaving_of : Members → List (ℕ × Members)
leaving_of root = leaving_from (own_version root) 4 0 (tables_at key.Block root)

-- the tables of the blocks that the walk has left when it reads the channels of block b
abbrev pub left_before : Members → ℕ → List Members
left_before root b = map (λ x. x.1) (before_first (λ x. x.0 == b) (leaving_of root))

abbrev pub left_in_all : Members → List Members
left_in_all root = map (λ x. x.1) (leaving_of root)

-- the block of this number has the table
abbrev pub IsBlockAt : Members → ℕ → Members → Type 0
IsBlockAt root b t = slice_get (block_tables root) b ≡ Some t
