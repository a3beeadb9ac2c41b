-- Where the name of a table stands among the names of its name space: behind those that come before it in the walk.
use Rattle.std.proofs.Common.{◌≡◌, ◌≢◌, ℕ, zero, suc, ◌+◌, ◌<◌, ◌==◌, List, [], ◌∷◌, ◌++◌, length, map, take, get_or, AllPairs, Contains, Option, IsSomeAnd, slice_get, refl, sym, ap, subst, ◌∙◌, arith}
use Rattle.std.specs.List.{AllByRecursion, before_first}
use Rattle.std.proofs.lemmas.Option.{get_or_from_slice_get}
use Rattle.std.proofs.lemmas.List.{append_assoc, length-append, length-map, map-append, get_or_append_left}
use Rattle.std.proofs.lemmas.Grind.{flat_map-append}
use Rattle.std.proofs.Math.Seq.{get_or-append_seam}
use Rattle.toml.specs.Data.{Members, no_members}
use Rattle.sdl_structure_tables.specs.declared.place.Key.TheVariants as key
use Rattle.sdl_structure_parts.specs.declared.parts.Scope.TheVariants as scope
use Rattle.sdl_structure_tables.specs.Tables.{text_at, tables_at, names_of, agent_names, channel_names, own_version}
use Rattle.sdl_structure_tables.specs.Blocks.{BlockTable, blocks_of, block_tables, leaving_of, left_before, left_in_all}
use Rattle.sdl_structure_tables.proofs.SignalLemmas.{some_and}
use Rattle.sdl_structure.proofs.GateLemmas.{map_get}
use Rattle.sdl_structure.proofs.OrderLemmas.{IsLeft, from-length, every_left, first_left, left_is_entered, stands_whole, all_right}

-- the list is those before x, then x, then others
pub record Splits {X : Type 0} (xs before : List X) (x : X) : Type 0 where
  pub rest : List X
  pub is : xs ≡ before ++ x ∷ rest

-- of names that differ, none stands before itself
pub none_before : {X : Type 0} (xs before : List X) (x : X) → AllPairs (λ a b. a ≢ b) xs → Splits xs before x → ¬ Contains before x
none_before xs before x apart split (k, inside, is) =
    let long : length xs ≡ length before + suc (length split.rest) = ap (λ ys. length ys) split.is ∙ length-append before (x ∷ split.rest) in
    apart k (length before) x inside (omega arith)
    (ap (λ ys. get_or ys k x) split.is ∙ get_or_append_left before (x ∷ split.rest) x k inside ∙ is ∙ sym (ap (λ ys. get_or ys (length before) x) split.is ∙ get_or-append_seam before x split.rest x))

pub split_at : {A : Type 0} (xs : List A) (i : ℕ) (d : A) → i < length xs → Splits xs (take i xs) (get_or xs i d)
split_at [] i d h = absurd (omega arith)
split_at (x ∷ xs) zero d h = record { rest = xs; is = refl }
split_at (x ∷ xs) (suc i) d h = let s = split_at xs i d (omega arith) in record { rest = s.rest; is = ap (λ ys. x ∷ ys) s.is }

-- the names of some tables
pub split_names : (ts : List Members) (i : ℕ) → i < length ts → Splits (names_of ts) (names_of (take i ts)) (text_at key.Name (get_or ts i no_members))
split_names ts i h =
    let s = split_at ts i no_members h in
    record { rest = names_of s.rest; is = ap (λ us. names_of us) s.is ∙ map-append (text_at key.Name) (take i ts) (get_or ts i no_members ∷ s.rest) }

-- those of blocks and sets
blocks_at : (ts : List Members) (b : ℕ) → b < length ts → (rest : List Members) × (agent_names ts ≡ agent_names (take b ts) ++ ((text_at key.Name (get_or ts b no_members) ∷ names_of (tables_at key.Set (get_or ts b no_members))) ++ agent_names rest))
blocks_at ts b h =
    let s = split_at ts b no_members h in
    (s.rest, ap (λ us. agent_names us) s.is ∙ flat_map-append (λ t. text_at key.Name t ∷ names_of (tables_at key.Set t)) (take b ts) (get_or ts b no_members ∷ s.rest))

pub split_block : (ts : List Members) (b : ℕ) → b < length ts → Splits (agent_names ts) (agent_names (take b ts)) (text_at key.Name (get_or ts b no_members))
split_block ts b h = let (rest, is) = blocks_at ts b h in record { rest = names_of (tables_at key.Set (get_or ts b no_members)) ++ agent_names rest; is = is }

pub split_set : (ts : List Members) (b i : ℕ) → b < length ts → i < length (tables_at key.Set (get_or ts b no_members))
    → Splits (agent_names ts) (agent_names (take b ts) ++ text_at key.Name (get_or ts b no_members) ∷ names_of (take i (tables_at key.Set (get_or ts b no_members)))) (text_at key.Name (get_or (tables_at key.Set (get_or ts b no_members)) i no_members))
split_set ts b i h inside =
    let (rest, is) = blocks_at ts b h in
    let t = get_or ts b no_members in
    let s = split_names (tables_at key.Set t) i inside in
    let own = text_at key.Name (get_or (tables_at key.Set t) i no_members) in
    let name = text_at key.Name t in
    let before = names_of (take i (tables_at key.Set t)) in
    record {
      rest = s.rest ++ agent_names rest;
      is = is ∙ ap (λ ns. agent_names (take b ts) ++ name ∷ ns) (ap (λ ns. ns ++ agent_names rest) s.is ∙ append_assoc before (own ∷ s.rest) (agent_names rest))
          ∙ sym (append_assoc (agent_names (take b ts)) (name ∷ before) (own ∷ (s.rest ++ agent_names rest)));
    }

-- a block in the order in which the walk leaves blocks, after those that it has left before
pub leaves_at : (root : Members) (b : ℕ) → b < length (block_tables root) → (rest : List Members) × (left_in_all root ≡ left_before root b ++ get_or (block_tables root) b no_members ∷ rest)
leaves_at root b h =
    let v = own_version root in
    let ts = tables_at key.Block root in
    let long : length (block_tables root) ≡ length (blocks_of root) = length-map (blocks_of root) (λ (x : BlockTable). x.table) in
    let same = from-length v 4 scope.System scope.System 1 0 0 0 ts in
    let left : IsLeft b (leaving_of root) = every_left v 4 0 ts b (omega arith) (omega (arith, h, long, same)) in
    let found = first_left b (leaving_of root) left in
    let t = found.table in
    let rest = found.rest in
    let is = found.is in
    let before = before_first (λ x. x.0 == b) (leaving_of root) in
    let entered = left_is_entered v (blocks_of root) 4 scope.System 1 0 ts (stands_whole (blocks_of root)) in
    let here = (all_right (λ x. IsSomeAnd (slice_get (blocks_of root) x.0) (λ p. p.table ≡ x.1)) before ((b, t) ∷ rest)
    (subst (AllByRecursion (λ x. IsSomeAnd (slice_get (blocks_of root) x.0) (λ p. p.table ≡ x.1))) is entered)).0 in
    let (x, at, table) = some_and (slice_get (blocks_of root) b) (λ p. p.table ≡ t) here in
    let own : get_or (block_tables root) b no_members ≡ t = get_or_from_slice_get (block_tables root) b x.table no_members (map_get (λ (x : BlockTable). x.table) (blocks_of root) b x at) ∙ table in
    (map (λ x. x.1) rest, ap (λ xs. map (λ x. x.1) xs) is ∙ (map-append (λ (x : ℕ × Members). x.1) before ((b, t) ∷ rest) ∙ ap (λ u. map (λ x. x.1) before ++ u ∷ map (λ x. x.1) rest) (sym own)))

-- those of channels
pub split_block_channel : (root : Members) (others : List (Option (List ℕ))) (b i : ℕ) → b < length (block_tables root) → i < length (tables_at key.Channel (get_or (block_tables root) b no_members))
    → Splits (channel_names (left_in_all root) ++ others) (channel_names (left_before root b) ++ names_of (take i (tables_at key.Channel (get_or (block_tables root) b no_members)))) (text_at key.Name (get_or (tables_at key.Channel (get_or (block_tables root) b no_members)) i no_members))
split_block_channel root others b i h inside =
    let (behind, is) = leaves_at root b h in
    let t = get_or (block_tables root) b no_members in
    let s = split_names (tables_at key.Channel t) i inside in
    let own = text_at key.Name (get_or (tables_at key.Channel t) i no_members) in
    let before = names_of (take i (tables_at key.Channel t)) in
    let first = channel_names (left_before root b) in
    let later = channel_names behind in
    let whole : channel_names (left_in_all root) ≡ first ++ (names_of (tables_at key.Channel t) ++ later) = ap (λ us. channel_names us) is ∙ flat_map-append (λ t. names_of (tables_at key.Channel t)) (left_before root b) (t ∷ behind) in
    let inner : names_of (tables_at key.Channel t) ++ later ≡ before ++ own ∷ (s.rest ++ later) = ap (λ ns. ns ++ later) s.is ∙ append_assoc before (own ∷ s.rest) later in
    record {
      rest = (s.rest ++ later) ++ others;
      is = ap (λ ns. ns ++ others) (whole ∙ ap (λ ns. first ++ ns) inner ∙ sym (append_assoc first before (own ∷ (s.rest ++ later))))
          ∙ append_assoc (first ++ before) (own ∷ (s.rest ++ later)) others;
    }

pub split_top_channel : (names : List (Option (List ℕ))) (ts : List Members) (i : ℕ) → i < length ts → Splits (names ++ names_of ts) (names ++ names_of (take i ts)) (text_at key.Name (get_or ts i no_members))
split_top_channel names ts i h =
    let s = split_names ts i h in
    record { rest = s.rest; is = ap (λ ns. names ++ ns) s.is ∙ sym (append_assoc names (names_of (take i ts)) (text_at key.Name (get_or ts i no_members) ∷ s.rest)) }
