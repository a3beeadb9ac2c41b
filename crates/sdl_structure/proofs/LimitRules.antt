-- In a file that keeps all rules, no list is over its limit.
use Rattle.std.proofs.Common.{◌≡◌, ℕ, zero, suc, ◌+◌, ◌<◌, ◌≤◌, List, [], ◌∷◌, ◌++◌, length, take, get_or, Bool, true, false, Option, Some, None, MatchOption, slice_get, nat_lt, ◌&&◌, is_some, refl, sym, ap, subst, ◌∙◌, ◌⊎◌, inl, inr, arith, ltb-true}
use Rattle.std.proofs.lemmas.Option.{get_or_from_slice_get}
use Rattle.std.proofs.lemmas.List.{length-append, length-map}
use Rattle.std.specs.List.{list_all}
use Rattle.std.specs.Option.{option_map_or}
use Rattle.toml.specs.Data.{Data, Members, no_members, as_array}
use Rattle.sdl_structure_parts.specs.Structure.{Structure}
use Rattle.sdl_structure_tables.specs.declared.version.Version.{Version}
use Rattle.sdl_structure_tables.specs.declared.version.Version.TheVariants.{One, Two}
use Rattle.sdl_structure_tables.specs.declared.place.Part.{Part}
use Rattle.sdl_structure_tables.specs.declared.place.Part.TheVariants as part
use Rattle.sdl_structure_tables.specs.declared.place.Key.{Key}
use Rattle.sdl_structure_tables.specs.declared.place.Key.TheVariants as key
use Rattle.sdl_structure_tables.specs.declared.place.Place.{Place}
use Rattle.sdl_structure_tables.specs.Keys.{kind_of, tables, is_key, is_over, is_required}
use Rattle.sdl_structure_tables.specs.Tables.{data_at, elements_at, elements_of, tables_at, is_table, is_of_kind, table_or_none, total, own_version, HasKindAt}
use Rattle.sdl_structure_tables.specs.Versions.{most_blocks}
use Rattle.sdl_structure_tables.specs.Blocks.{BlockTable, blocks_of, block_tables, inner_tables, listed_in, left_before, left_in_all}
use Rattle.sdl_structure_tables.specs.Places.{table_at, table_of, Exists, IsPlace}
use Rattle.sdl_structure_tables.specs.Names.{IsSignalTable, NamesSort}
use Rattle.sdl_structure_tables.specs.Faults.{BreaksAt, HasTooManyElements, IsDeepest, so_far, most_in_all}
use Rattle.sdl_structure_tables.proofs.SignalLemmas.{some_and}
use Rattle.sdl_structure_tables.proofs.ListLemmas.{zip_length}
use Rattle.sdl_structure.specs.File.{IsFileOf, IsBlockTable, IsWholeBlock, IsSetTable, IsChannelTable, HasGates, channels_in, block_channels, channels_of, sets_of}
use Rattle.sdl_structure_parts.specs.declared.parts.Scope.TheVariants as scope
use Rattle.sdl_structure.proofs.BlockLemmas.{length-sets_of, length-block_channels}
use Rattle.sdl_structure.proofs.GateLemmas.{map_get}
use Rattle.sdl_structure.proofs.OrderLemmas.{all_weaker, all_counted, total-leaving}
use Rattle.sdl_structure.proofs.SplitLemmas.{leaves_at}
use Rattle.sdl_structure.proofs.KeptLemmas.{IsKept, never, kept_at, at_place}
use Rattle.sdl_structure.proofs.RuleLemmas.{kind_at}

-- a list of tables has as many elements as tables
and_right : (a b : Bool) → a && b ≡ true → b ≡ true
and_right true b e = e
and_right false b e = cc

all_tables : (o : Option Data) (N : Type 0) → MatchOption o N (λ d. is_of_kind tables d ≡ true) → list_all is_table (option_map_or elements_of o []) ≡ true
all_tables None N h = refl
all_tables (Some d) N h = and_right (is_some (as_array d)) (list_all is_table (elements_of d)) h

pub length_tables : (k : Key) (ms : Members) → kind_of k ≡ tables → HasKindAt ms k → length (elements_at k ms) ≡ length (tables_at k ms)
length_tables k ms kind has =
    let all : list_all is_table (elements_at k ms) ≡ true = all_tables (data_at k ms) (is_required k ≡ false) (subst (λ kd. MatchOption (data_at k ms) (is_required k ≡ false) (λ d. is_of_kind kd d ≡ true)) kind has) in
    rw all (sym (length-map (elements_at k ms) table_or_none))

-- how many tables there are at each key that has a limit of its own
few_signals : (v : Version) (s : Structure) (q : Part) (ms : Members) → IsKept v s q ms → is_key v q key.Signal ≡ true → length (tables_at key.Signal ms) ≤ 64
few_signals v s part.System ms kept l =
    subst (λ n. n ≤ 64) (zip_length IsSignalTable (tables_at key.Signal ms) s.signals kept.parts.signals) kept.limits.signals
few_signals v s part.Signal ms kept l = never l
few_signals v s part.Gate ms kept l = never l
few_signals v s part.Channel ms kept l = never l
few_signals One s part.Block ms kept l = never l
few_signals Two s part.Block ms kept l = never l
few_signals v s part.BlockGate ms kept l = never l
few_signals v s part.BlockChannel ms kept l = never l
few_signals v s part.Set ms kept l = never l
few_signals v s part.SetGate ms kept l = never l

pub gates_of_agent : (v : Version) (s : Structure) (q : Part) (ms : Members) → IsKept v s q ms → is_key v q key.Gate ≡ true → HasGates ms
gates_of_agent v s part.System ms kept l = kept.names.gates
gates_of_agent v s part.Signal ms kept l = never l
gates_of_agent v s part.Gate ms kept l = never l
gates_of_agent v s part.Channel ms kept l = never l
gates_of_agent v s part.Block ms kept l = kept.gates
gates_of_agent v s part.BlockGate ms kept l = never l
gates_of_agent v s part.BlockChannel ms kept l = never l
gates_of_agent v s part.Set ms kept l = kept.2.gates
gates_of_agent v s part.SetGate ms kept l = never l

few_sorts : (v : Version) (s : Structure) (q : Part) (ms : Members) → IsKept v s q ms → is_key v q key.Sorts ≡ true → length (elements_at key.Sorts ms) ≤ 4
few_sorts v s part.System ms kept l = never l
few_sorts v s part.Signal ms (x, table) l =
    subst (λ n. n ≤ 4) (zip_length NamesSort (elements_at key.Sorts ms) x.sorts.items table.sorts) table.few_sorts
few_sorts v s part.Gate ms kept l = never l
few_sorts v s part.Channel ms kept l = never l
few_sorts One s part.Block ms kept l = never l
few_sorts Two s part.Block ms kept l = never l
few_sorts v s part.BlockGate ms kept l = never l
few_sorts v s part.BlockChannel ms kept l = never l
few_sorts v s part.Set ms kept l = never l
few_sorts v s part.SetGate ms kept l = never l

within : (limit n m : ℕ) → nat_lt limit n ≡ true → n ≡ m → m ≤ limit → ⊥
within limit n m over same few = let above = ltb-true limit n over in absurd (omega arith)

not_over : (v : Version) (s : Structure) (q : Part) (k : Key) (ms : Members) → IsKept v s q ms → HasKindAt ms k → is_key v q k ≡ true → is_over k (length (elements_at k ms)) ≡ true → ⊥
not_over v s q key.Version ms kept has l over = never over
not_over v s q key.System ms kept has l over = never over
not_over v s q key.Budget ms kept has l over = never over
not_over v s q key.Signal ms kept has l over = within 64 (length (elements_at key.Signal ms)) (length (tables_at key.Signal ms)) over (length_tables key.Signal ms refl has) (few_signals v s q ms kept l)
not_over v s q key.Gate ms kept has l over = within 8 (length (elements_at key.Gate ms)) (length (tables_at key.Gate ms)) over (length_tables key.Gate ms refl has) (gates_of_agent v s q ms kept l).few
not_over v s q key.Block ms kept has l over = never over
not_over v s q key.Channel ms kept has l over = never over
not_over v s q key.Name ms kept has l over = never over
not_over v s q key.Sorts ms kept has l over = within 4 (length (elements_at key.Sorts ms)) (length (elements_at key.Sorts ms)) over refl (few_sorts v s q ms kept l)
not_over v s q key.Inward ms kept has l over = never over
not_over v s q key.Outward ms kept has l over = never over
not_over v s q key.Set ms kept has l over = never over
not_over v s q key.Initial ms kept has l over = never over
not_over v s q key.Maximum ms kept has l over = never over
not_over v s q key.Ends ms kept has l over = never over
not_over v s q key.Forth ms kept has l over = never over
not_over v s q key.Back ms kept has l over = never over
not_over v s q key.Nodelay ms kept has l over = never over
not_over v s q key.Other ms kept has l over = never over

-- the blocks, the sets and the channels of the whole file, and of its first blocks
from_none : (n : ℕ) → 0 ≤ n
from_none n = omega arith

one_more : (a b c : ℕ) → b ≤ c → a + b ≤ a + c
one_more a b c h = omega arith

at_most : (a b c : ℕ) → a ≤ b → b ≤ c → a ≤ c
at_most a b c h k = omega arith

first_within : (a b c : ℕ) → a + b ≤ c → a ≤ c
first_within a b c h = omega arith

sum_within : (all top inner own of_blocks : ℕ) → all ≤ 64 → all ≡ top + inner → top ≡ own → inner ≡ of_blocks → of_blocks + own ≤ 64
sum_within all top inner own of_blocks few both t b = omega arith

left_within : (all own before here rest : ℕ) → all + own ≤ 64 → all ≡ before + (here + rest) → before + here ≤ 64
left_within all own before here rest few sum = omega arith

more_added : (a b c d : ℕ) → b ≡ c + d → a + b ≡ a + c + d
more_added a b c d e = omega arith

too_many : (n limit : ℕ) → n ≤ limit → limit < n → ⊥
too_many n limit h k = absurd (omega arith)

total_take : (k : Key) (n : ℕ) (ts : List Members) → total k (take n ts) ≤ total k ts
total_take k zero ts = from_none (total k ts)
total_take k (suc n) [] = from_none 0
total_take k (suc n) (t ∷ ts) = one_more (length (tables_at k t)) (total k (take n ts)) (total k ts) (total_take k n ts)

listed_take : (v : Version) (n : ℕ) (ts : List Members) → listed_in v (take n ts) ≤ listed_in v ts
listed_take v zero ts = from_none (listed_in v ts)
listed_take v (suc n) [] = from_none 0
listed_take v (suc n) (t ∷ ts) = one_more (length (inner_tables v t)) (listed_in v (take n ts)) (listed_in v ts) (listed_take v n ts)

all_blocks : (root : Members) (s : Structure) → IsFileOf root s → length (tables_at key.Block root) + listed_in (own_version root) (block_tables root) ≤ most_blocks (own_version root)
all_blocks root s file =
    let shallow = all_weaker (IsWholeBlock (own_version root)) (λ x. x.depth ≡ 4 → inner_tables (own_version root) x.table ≡ []) (blocks_of root) (λ x whole. whole.deepest) file.parts.whole in
    at_most (length (tables_at key.Block root) + listed_in (own_version root) (block_tables root)) (length (blocks_of root)) (most_blocks (own_version root))
    (all_counted (own_version root) 4 scope.System 1 0 (tables_at key.Block root) refl (λ e. absurd (omega arith)) shallow)
    (subst (λ n. n ≤ most_blocks (own_version root)) (zip_length IsBlockTable (blocks_of root) s.blocks file.parts.blocks) file.limits.blocks.1)

all_sets : (root : Members) (s : Structure) → IsFileOf root s → total key.Set (block_tables root) ≤ 64
all_sets root s file =
    subst (λ n. n ≤ 64) (zip_length IsSetTable (sets_of 0 (block_tables root)) s.sets file.parts.sets ∙ length-sets_of 0 (block_tables root)) file.limits.sets

all_channels : (root : Members) (s : Structure) → IsFileOf root s → total key.Channel (left_in_all root) + length (tables_at key.Channel root) ≤ 64
all_channels root s file =
    let order : total key.Channel (left_in_all root) ≡ total key.Channel (block_tables root) = total-leaving (own_version root) key.Channel 4 scope.System 1 0 0 (tables_at key.Block root) in
    sum_within (length s.channels) (length (channels_in scope.System root)) (length (block_channels 0 (block_tables root))) (length (tables_at key.Channel root)) (total key.Channel (left_in_all root))
    file.limits.channels
    (zip_length (IsChannelTable s.signals s.blocks s.sets s.gates) (channels_of root) s.channels file.parts.channels ∙ length-append (channels_in scope.System root) (block_channels 0 (block_tables root)))
    (length-map (tables_at key.Channel root) (λ c. (scope.System, c)))
    (length-block_channels 0 (block_tables root) ∙ sym order)

first_blocks : (root : Members) (s : Structure) (b : ℕ) → IsFileOf root s → length (tables_at key.Block root) + listed_in (own_version root) (take (b + 1) (block_tables root)) ≤ most_blocks (own_version root)
first_blocks root s b file =
    at_most (length (tables_at key.Block root) + listed_in (own_version root) (take (b + 1) (block_tables root))) (length (tables_at key.Block root) + listed_in (own_version root) (block_tables root)) (most_blocks (own_version root))
    (one_more (length (tables_at key.Block root)) (listed_in (own_version root) (take (b + 1) (block_tables root))) (listed_in (own_version root) (block_tables root)) (listed_take (own_version root) (b + 1) (block_tables root)))
    (all_blocks root s file)

top_blocks : (root : Members) (s : Structure) → IsFileOf root s → length (tables_at key.Block root) ≤ most_blocks (own_version root)
top_blocks root s file =
    first_within (length (tables_at key.Block root)) (listed_in (own_version root) (block_tables root)) (most_blocks (own_version root)) (all_blocks root s file)

first_sets : (root : Members) (s : Structure) (b : ℕ) → IsFileOf root s → total key.Set (take (b + 1) (block_tables root)) ≤ 64
first_sets root s b file =
    at_most (total key.Set (take (b + 1) (block_tables root))) (total key.Set (block_tables root)) 64 (total_take key.Set (b + 1) (block_tables root)) (all_sets root s file)

total_append : (k : Key) (xs ys : List Members) → total k (xs ++ ys) ≡ total k xs + total k ys
total_append k [] ys = omega arith
total_append k (x ∷ xs) ys = more_added (length (tables_at k x)) (total k (xs ++ ys)) (total k xs) (total k ys) (total_append k xs ys)

first_channels : (root : Members) (s : Structure) (b : ℕ) → IsFileOf root s → b < length (block_tables root) → total key.Channel (left_before root b) + length (tables_at key.Channel (get_or (block_tables root) b no_members)) ≤ 64
first_channels root s b file inside =
    let (rest, is) = leaves_at root b inside in
    let t = get_or (block_tables root) b no_members in
    left_within (total key.Channel (left_in_all root)) (length (tables_at key.Channel root)) (total key.Channel (left_before root b)) (length (tables_at key.Channel t)) (total key.Channel rest)
    (all_channels root s file)
    (ap (λ ts. total key.Channel ts) is ∙ total_append key.Channel (left_before root b) (t ∷ rest))

blocks_so_far : (v : Version) (root : Members) (s : Structure) (q : Part) (b : ℕ) → v ≡ own_version root → IsFileOf root s → is_key v q key.Block ≡ true → so_far root q key.Block b ≤ most_blocks (own_version root)
blocks_so_far v root s part.System b e file l = top_blocks root s file
blocks_so_far v root s part.Signal b e file l = never l
blocks_so_far v root s part.Gate b e file l = never l
blocks_so_far v root s part.Channel b e file l = never l
blocks_so_far One root s part.Block b e file l = never l
blocks_so_far Two root s part.Block b e file l = first_blocks root s b file
blocks_so_far v root s part.BlockGate b e file l = never l
blocks_so_far v root s part.BlockChannel b e file l = never l
blocks_so_far v root s part.Set b e file l = never l
blocks_so_far v root s part.SetGate b e file l = never l

sets_so_far : (v : Version) (root : Members) (s : Structure) (q : Part) (b : ℕ) → IsFileOf root s → is_key v q key.Set ≡ true → so_far root q key.Set b ≤ 64
sets_so_far v root s part.System b file l = never l
sets_so_far v root s part.Signal b file l = never l
sets_so_far v root s part.Gate b file l = never l
sets_so_far v root s part.Channel b file l = never l
sets_so_far v root s part.Block b file l = first_sets root s b file
sets_so_far v root s part.BlockGate b file l = never l
sets_so_far v root s part.BlockChannel b file l = never l
sets_so_far v root s part.Set b file l = never l
sets_so_far v root s part.SetGate b file l = never l

channels_so_far : (v : Version) (root : Members) (s : Structure) (q : Part) (b u i : ℕ) → IsFileOf root s → Exists root q b u i → is_key v q key.Channel ≡ true → so_far root q key.Channel b ≤ 64
channels_so_far v root s part.System b u i file e l = all_channels root s file
channels_so_far v root s part.Signal b u i file e l = never l
channels_so_far v root s part.Gate b u i file e l = never l
channels_so_far v root s part.Channel b u i file e l = never l
channels_so_far v root s part.Block b u i file e l = first_channels root s b file e.0
channels_so_far v root s part.BlockGate b u i file e l = never l
channels_so_far v root s part.BlockChannel b u i file e l = never l
channels_so_far v root s part.Set b u i file e l = never l
channels_so_far v root s part.SetGate b u i file e l = never l

counted : (v : Version) (root : Members) (s : Structure) (q : Part) (k : Key) (b u i : ℕ) → v ≡ own_version root → IsFileOf root s → Exists root q b u i → is_key v q k ≡ true → ((k ≡ key.Block) ⊎ (k ≡ key.Set)) ⊎ (k ≡ key.Channel) → so_far root q k b ≤ most_in_all (own_version root) k
counted v root s q k b u i same file e l (inl (inl is)) = subst (λ k. so_far root q k b ≤ most_in_all (own_version root) k) (sym is) (blocks_so_far v root s q b same file (subst (λ k. is_key v q k ≡ true) is l))
counted v root s q k b u i same file e l (inl (inr is)) = subst (λ k. so_far root q k b ≤ most_in_all (own_version root) k) (sym is) (sets_so_far v root s q b file (subst (λ k. is_key v q k ≡ true) is l))
counted v root s q k b u i same file e l (inr is) = subst (λ k. so_far root q k b ≤ most_in_all (own_version root) k) (sym is) (channels_so_far v root s q b u i file e (subst (λ k. is_key v q k ≡ true) is l))

-- nothing lies in a block that lies as deep as a block may
pub no_elements : {A : Type 0} (xs : List A) → length xs ≡ 0 → xs ≡ []
no_elements [] e = refl
no_elements (x ∷ xs) e = absurd (omega arith)

listed_blocks : (v : Version) (ms : Members) → is_key v part.Block key.Block ≡ true → inner_tables v ms ≡ tables_at key.Block ms
listed_blocks One ms l = never l
listed_blocks Two ms l = refl

none_deeper : (v : Version) (root : Members) (s : Structure) (p : Place) → v ≡ own_version root → IsFileOf root s → is_key v p.part p.key ≡ true → HasKindAt (table_at root p) p.key → p.part ≡ part.Block → p.key ≡ key.Block → IsPlace root p → IsDeepest root p.block → elements_at key.Block (table_at root p) ≡ []
none_deeper v root s p same file l kind at_part at_key place deepest =
    let ms = table_at root p in
    let (x, at, four) = some_and (slice_get (blocks_of root) p.block) (λ x. x.depth ≡ 4) deepest in
    let whole = at_place (IsWholeBlock (own_version root)) (blocks_of root) p.block x file.parts.whole at in
    let own : x.table ≡ ms =
    sym (get_or_from_slice_get (block_tables root) p.block x.table no_members (map_get (λ (x : BlockTable). x.table) (blocks_of root) p.block x at)) ∙ sym (ap (λ q. table_of root q p.block p.set p.item) at_part) in
    let has : HasKindAt ms key.Block = subst (λ k. HasKindAt ms k) at_key kind in
    let listed = listed_blocks (own_version root) ms (subst (λ w. is_key w part.Block key.Block ≡ true) same (subst (λ q. is_key v q key.Block ≡ true) at_part (subst (λ k. is_key v p.part k ≡ true) at_key l))) in
    let none : tables_at key.Block ms ≡ [] = sym listed ∙ subst (λ t. inner_tables (own_version root) t ≡ []) own (whole.deepest four) in
    no_elements (elements_at key.Block ms) (length_tables key.Block ms refl has ∙ ap (λ ts. length ts) none)

pub none_too_many : (root : Members) (s : Structure) (p : Place) → IsFileOf root s → ¬ BreaksAt root p (HasTooManyElements root)
none_too_many root s p file breaks = choose breaks.broken
  where
    choose : HasTooManyElements root p (table_at root p) → ⊥
    choose (inl over) = not_over (own_version root) s p.part p.key (table_at root p) (kept_at root s p.part p.block p.set p.item file breaks.place) (kind_at root s p file breaks.place breaks.listed) breaks.listed over
    choose (inr (inl (keys, over))) = too_many (so_far root p.part p.key p.block) (most_in_all (own_version root) p.key) (counted (own_version root) root s p.part p.key p.block p.set p.item refl file breaks.place breaks.listed keys) over
    choose (inr (inr (at_part, at_key, deepest, some))) =
        some (none_deeper (own_version root) root s p refl file breaks.listed (kind_at root s p file breaks.place breaks.listed) at_part at_key breaks.place deepest)
