-- The walk over blocks in blocks: what comes next, and what the first blocks of a list leave.
use Rattle.std.proofs.Common.{◌≡◌, ◌≢◌, ℕ, zero, suc, ◌+◌, ◌<◌, ◌≤◌, List, [], ◌∷◌, ◌++◌, map, take, length, All, AllPairs, Some, IsSomeAnd, slice_get, refl, ap, sym, subst, ◌∙◌, arith}
use Rattle.std.specs.List.{AllZip, AllByRecursion}
use Rattle.std.proofs.lemmas.List.{append_assoc, length-append, length-map, map-append}
use Rattle.std.proofs.lemmas.Slice.Zip.{all_zipped_more}
use Rattle.std.proofs.Math.Seq.{take-append_seam}
use Rattle.toml.specs.Data.{Members}
use Rattle.sdl_structure_parts.specs.declared.parts.SignalDecl.{SignalDecl}
use Rattle.sdl_structure_parts.specs.declared.parts.Block.{Block}
use Rattle.sdl_structure_parts.specs.declared.parts.Gate.{Gate}
use Rattle.sdl_structure_parts.specs.declared.parts.Channel.{Channel}
use Rattle.sdl_structure_parts.specs.declared.parts.Owner.TheVariants as owner
use Rattle.sdl_structure_parts.specs.declared.parts.Scope.{Scope}
use Rattle.sdl_structure_parts.specs.declared.parts.Scope.TheVariants as scope
use Rattle.sdl_structure_parts.specs.Structure.{IsDepthIn}
use Rattle.sdl_structure_tables.specs.declared.version.Version.{Version}
use Rattle.sdl_structure_tables.specs.declared.place.Key.TheVariants as key
use Rattle.sdl_structure_tables.specs.Tables.{tables_at, channel_names, own_version}
use Rattle.sdl_structure_tables.specs.Blocks.{BlockTable, blocks_of, block_tables, blocks_from, leaving_of, leaving_from, inner_tables, listed_in}
use Rattle.sdl_structure_tables.specs.Walks.{name_texts}
use Rattle.sdl_structure_tables.proofs.ListLemmas.{zip_length}
use Rattle.sdl_structure.specs.declared.reading.draft.Draft.{Draft}
use Rattle.sdl_structure_tables.specs.Names.{HasName}
use Rattle.sdl_structure.specs.File.{IsBlockTable, IsWholeBlock, IsChannelTable, IsGateTable, HasGates, owned, block_channels}
use Rattle.sdl_structure.specs.Drafts.{HasAgents, HasSets, ComesTo, HasRead, HasBegun, levels_from, entering, leaving, entering_in, leaving_in, placed, tables_of}
use Rattle.sdl_structure.proofs.BlockLemmas.{nil_after, zip_append, channel_names-append, block_channels-append}
use Rattle.sdl_structure.proofs.GateLemmas.{zip_found}
use Rattle.sdl_structure.proofs.OrderLemmas.{within, get_behind, all_append, all_weaker, from-append, from-length, from-nothing, leaving-append, leaving-nothing, left_within, listed-tables}
use Rattle.sdl_structure.proofs.DraftLemmas.{IsBegun, sets_start, agents_join, agents_stay, signals_kept, grows_on, grows_none, channels_grown}

-- a block with what lies in it, in both orders
one_block : (v : Version) (levels below : ℕ) (at : Scope) (d n : ℕ) (t : Members) → levels ≡ suc below → blocks_from v levels at d n (t ∷ []) ≡ placed at d t ∷ blocks_from v below (within n) (d + 1) (n + 1) (inner_tables v t)
one_block v levels below at d n t is =
    ap (λ l. blocks_from v l at d n (t ∷ [])) is ∙ ap (λ zs. placed at d t ∷ zs) (nil_after (blocks_from v below (within n) (d + 1) (n + 1) (inner_tables v t)))

pub one_left : (v : Version) (levels below n : ℕ) (t : Members) → levels ≡ suc below → leaving_from v levels n (t ∷ []) ≡ leaving_from v below (n + 1) (inner_tables v t) ++ (n, t) ∷ []
one_left v levels below n t is = ap (λ l. leaving_from v l n (t ∷ [])) is

pub deeper : (depth : ℕ) → depth ≤ 4 → levels_from depth ≡ suc (levels_from (depth + 1))
deeper depth h = omega arith

pub one_entered : (root : Members) (d : Draft) (at : Scope) (depth : ℕ) (t : Members) → depth ≤ 4 → entering root d at depth (t ∷ []) ≡ placed at depth t ∷ entering_in root (length d.blocks.items) depth t
one_entered root d at depth t shallow = one_block (own_version root) (levels_from depth) (levels_from (depth + 1)) at depth (length d.blocks.items) t (deeper depth shallow)

-- the tables before a block
tables_before : (root : Members) (xs ys : List BlockTable) (b : ℕ) → blocks_of root ≡ xs ++ ys → length xs ≡ b → take b (block_tables root) ≡ tables_of xs
tables_before root xs ys b is long =
    let long_tables : b ≡ length (tables_of xs) = sym long ∙ sym (length-map xs (λ (x : BlockTable). x.table)) in
    ap (λ zs. take b (tables_of zs)) is ∙ (ap (λ ts. take b ts) (map-append (λ (x : BlockTable). x.table) xs ys) ∙ (ap (λ k. take k (tables_of xs ++ tables_of ys)) long_tables ∙ take-append_seam (tables_of xs) (tables_of ys)))

-- the first blocks
pub first_of : {A : Type 0} (all xs ys : List A) (n : ℕ) → all ≡ xs ++ ys → length xs ≡ n → take n all ≡ xs
first_of all xs ys n is long = ap (λ zs. take n zs) is ∙ (ap (λ k. take k (xs ++ ys)) (sym long) ∙ take-append_seam xs ys)

-- how many blocks a draft has that comes to some
pub come_blocks : (root : Members) (d : Draft) (at : Scope) (depth : ℕ) (ts : List Members) (comes : ComesTo root d at depth ts) → length comes.before ≡ length d.blocks.items
come_blocks root d at depth ts comes = sym (zip_length IsBlockTable comes.before d.blocks.items comes.agents.blocks)

pub come_tables : (root : Members) (d : Draft) (at : Scope) (depth : ℕ) (ts : List Members) (comes : ComesTo root d at depth ts) → take (length d.blocks.items) (block_tables root) ≡ tables_of comes.before
come_tables root d at depth ts comes = tables_before root comes.before (entering root d at depth ts ++ comes.after) (length d.blocks.items) comes.blocks (come_blocks root d at depth ts comes)

-- the block that comes next
pub next_is : (root : Members) (d : Draft) (at : Scope) (depth : ℕ) (t : Members) → depth ≤ 4 → ComesTo root d at depth (t ∷ []) → slice_get (blocks_of root) (length d.blocks.items) ≡ Some (placed at depth t)
next_is root d at depth t shallow comes =
    let B = entering_in root (length d.blocks.items) depth t in
    ap (λ zs. slice_get zs (length d.blocks.items)) (comes.blocks ∙ ap (λ zs. comes.before ++ (zs ++ comes.after)) (one_entered root d at depth t shallow))
    ∙ (ap (λ k. slice_get (comes.before ++ placed at depth t ∷ (B ++ comes.after)) k) (sym (come_blocks root d at depth (t ∷ []) comes)) ∙ get_behind comes.before (placed at depth t) (B ++ comes.after))

pub block_begins : (root : Members) (d e : Draft) (at : Scope) (depth : ℕ) (t : Members) (block : Block) (gates : List Gate) → depth ≤ 4 → ComesTo root d at depth (t ∷ []) → IsBegun (length d.blocks.items) t block gates d e → IsBlockTable (placed at depth t) block → HasBegun root e (length d.blocks.items) depth t
block_begins root d e at depth t block gates shallow comes begun table =
    let v = own_version root in
    let n : ℕ = length d.blocks.items in
    let long : length comes.before ≡ n = come_blocks root d at depth (t ∷ []) comes in
    let tables : length (tables_of comes.before) ≡ n = length-map comes.before (λ (x : BlockTable). x.table) ∙ long in
    let L = leaving_in root n depth t in
    record {
      signals = signals_kept root d e begun.signals_are comes.signals;
      at = at;
      before = comes.before;
      number = long;
      tables = subst (λ ys. AllZip IsBlockTable (comes.before ++ placed at depth t ∷ []) ys) (sym begun.blocks_are) (all_zipped_more IsBlockTable comes.before d.blocks.items (placed at depth t) block comes.agents.blocks table);
      sets = sets_start root comes.before t n block gates d e tables comes.agents begun;
      few_sets = subst (λ v. length v.items ≤ 64) (sym begun.sets_are) comes.agents.few_sets;
      after = comes.after;
      blocks = comes.blocks ∙ ap (λ zs. comes.before ++ (zs ++ comes.after)) (one_entered root d at depth t shallow);
      left = comes.left;
      behind = comes.behind;
      leaves = comes.leaves ∙ (ap (λ zs. comes.left ++ (zs ++ comes.behind)) (one_left v (levels_from depth) (levels_from (depth + 1)) n t (deeper depth shallow)) ∙ ap (λ zs. comes.left ++ zs) (append_assoc L ((n, t) ∷ []) comes.behind));
      below = comes.below;
      names = ap (λ v. name_texts v.items) begun.channel_names_are ∙ comes.names;
      apart = subst (λ v. AllPairs (λ a b. a ≢ b) (name_texts v.items)) (sym begun.channel_names_are) comes.apart;
      few = subst (λ v. length v.items ≤ 64) (sym begun.channel_names_are) comes.few;
    }

-- a block has begun once its name and its gates are read
pub record HasStarted (root : Members) (d m : Draft) (depth : ℕ) (t : Members) (block : Block) (gates : List Gate) : Type 0 where
  pub begun : IsBegun (length d.blocks.items) t block gates d m
  pub has : HasBegun root m (length d.blocks.items) depth t

pub block_starts : (root : Members) (d m : Draft) (at : Scope) (depth number : ℕ) (t : Members) (block : Block) (gates : List Gate) (signals : List SignalDecl)
    → depth ≤ 4 → ComesTo root d at depth (t ∷ []) → number ≡ length d.blocks.items → signals ≡ d.signals.items
    → HasName key.Name t block.name.bytes → All (λ m. m.bytes ≢ block.name.bytes) d.agent_names.items
    → HasGates t → AllZip (IsGateTable signals) (owned (owner.Block (record { 0 = number })) t) gates → length gates ≤ 8 → block.scope ≡ at → block.depth ≡ depth
    → m ≡ record d { blocks = m.blocks; gates = m.gates; agent_names = m.agent_names }
    → m.blocks.items ≡ d.blocks.items ++ block ∷ [] → m.gates.items ≡ d.gates.items ++ gates → m.agent_names.items ≡ d.agent_names.items ++ block.name ∷ []
    → HasStarted root d m depth t block gates
block_starts root d m at depth number t block gates signals shallow comes is same name apart rules tables few lies deep frame blocks more names =
    let begun : IsBegun (length d.blocks.items) t block gates d m = record {
      named = name.0;
      apart = apart;
      gate_tables = subst (λ k. AllZip (IsGateTable d.signals.items) (owned (owner.Block (record { 0 = k })) t) gates) is
          (subst (λ ss. AllZip (IsGateTable ss) (owned (owner.Block (record { 0 = number })) t) gates) same tables);
      few = few;
      signals_are = ap (λ (x : Draft). x.signals) frame;
      blocks_are = blocks;
      sets_are = ap (λ (x : Draft). x.sets) frame;
      gates_are = more;
      names_are = names;
      channel_names_are = ap (λ (x : Draft). x.channel_names) frame;
    } in
    let table : IsBlockTable (placed at depth t) block = record { name = name; gates = rules; scope = lies; depth = deep } in
    record { begun = begun; has = block_begins root d m at depth t block gates shallow comes begun table }

-- how many blocks a draft has in which one has begun
pub begun_blocks : (root : Members) (d : Draft) (b depth : ℕ) (t : Members) → HasBegun root d b depth t → length d.blocks.items ≡ b + 1
begun_blocks root d b depth t begun =
    zip_length IsBlockTable (begun.before ++ placed begun.at depth t ∷ []) d.blocks.items begun.tables ∙ (length-append begun.before (placed begun.at depth t ∷ []) ∙ ap (λ k. k + 1) begun.number)

pub begun_tables : (root : Members) (d : Draft) (b depth : ℕ) (t : Members) (begun : HasBegun root d b depth t) → take b (block_tables root) ≡ tables_of begun.before
begun_tables root d b depth t begun = tables_before root begun.before (placed begun.at depth t ∷ (entering_in root b depth t ++ begun.after)) b begun.blocks begun.number

pub begun_sets : (root : Members) (d : Draft) (b depth : ℕ) (t : Members) → HasBegun root d b depth t → HasSets root (take b (block_tables root)) t [] d
begun_sets root d b depth t begun = subst (λ us. HasSets root us t [] d) (sym (begun_tables root d b depth t begun)) begun.sets

pub begun_depth : (root : Members) (d : Draft) (b depth : ℕ) (t : Members) → HasBegun root d b depth t → IsSomeAnd (slice_get (blocks_of root) b) (λ x. x.depth ≡ depth)
begun_depth root d b depth t begun =
    let p = placed begun.at depth t in
    let rest = entering_in root b depth t ++ begun.after in
    let is : slice_get (blocks_of root) b ≡ Some p = ap (λ zs. slice_get zs b) begun.blocks ∙ (ap (λ k. slice_get (begun.before ++ p ∷ rest) k) (sym begun.number) ∙ get_behind begun.before p rest) in
    rw is refl

-- after the sets come the blocks in the block
pub comes_inside : (root : Members) (d e : Draft) (b depth : ℕ) (t : Members) → HasBegun root d b depth t → HasSets root (take b (block_tables root)) t (tables_at key.Set t) e → length e.sets.items ≤ 64 → e ≡ record d { sets = e.sets; gates = e.gates; agent_names = e.agent_names }
    → ComesTo root e (within b) (depth + 1) (inner_tables (own_version root) t)
comes_inside root d e b depth t begun sets few frame =
    let v = own_version root in
    let p = placed begun.at depth t in
    let xs = begun.before ++ p ∷ [] in
    let B = entering_in root b depth t in
    let tables : AllZip IsBlockTable xs e.blocks.items = subst (λ (x : Draft). AllZip IsBlockTable xs x.blocks.items) (sym frame) begun.tables in
    let long : length e.blocks.items ≡ b + 1 = ap (λ (x : Draft). length x.blocks.items) frame ∙ begun_blocks root d b depth t begun in
    let here : slice_get xs b ≡ Some p = ap (λ k. slice_get xs k) (sym begun.number) ∙ get_behind begun.before p [] in
    let (x, there, table) = zip_found IsBlockTable xs e.blocks.items b p tables here in
    record {
      signals = signals_kept root d e (ap (λ (x : Draft). x.signals) frame) begun.signals;
      before = xs;
      agents = agents_join root begun.before p e tables (subst (λ us. HasSets root us t (tables_at key.Set t) e) (begun_tables root d b depth t begun) sets) few;
      after = begun.after;
      blocks = begun.blocks ∙ (sym (append_assoc begun.before (p ∷ []) (B ++ begun.after)) ∙ ap (λ k. xs ++ (blocks_from v (levels_from (depth + 1)) (within b) (depth + 1) k (inner_tables v t) ++ begun.after)) (sym long));
      left = begun.left;
      behind = (b, t) ∷ begun.behind;
      leaves = begun.leaves ∙ ap (λ k. begun.left ++ (leaving_from v (levels_from (depth + 1)) k (inner_tables v t) ++ (b, t) ∷ begun.behind)) (sym long);
      below = all_weaker (λ x. x.0 < b) (λ x. x.0 < length e.blocks.items) begun.left (λ x h. omega (arith, h, long)) begun.below;
      names = ap (λ (x : Draft). name_texts x.channel_names.items) frame ∙ begun.names;
      apart = subst (λ (x : Draft). AllPairs (λ a b. a ≢ b) (name_texts x.channel_names.items)) (sym frame) begun.apart;
      few = subst (λ (x : Draft). length x.channel_names.items ≤ 64) (sym frame) begun.few;
      around = rw there (ap (λ k. k + 1) (sym table.depth));
    }

-- what a draft comes to whose first blocks of a list are read
module _ (root : Members) (d e : Draft) (at : Scope) (depth : ℕ) (xs : List Members) (t : Members) (ys : List Members) (channels : List Channel)
    (comes : ComesTo root d at depth (xs ++ t ∷ ys)) (read : HasRead root d at depth xs channels e) where
  abbrev v : Version
  v = own_version root

  abbrev levels : ℕ
  levels = levels_from depth

  abbrev n : ℕ
  n = length d.blocks.items

  abbrev E : List BlockTable
  E = entering root d at depth xs

  abbrev m : ℕ
  m = n + length E

  abbrev one : List BlockTable
  one = blocks_from v levels at depth m (t ∷ [])

  abbrev rest : List BlockTable
  rest = blocks_from v levels at depth (m + length one) ys

  all_blocks : blocks_of root ≡ (comes.before ++ E) ++ (one ++ (rest ++ comes.after))
  all_blocks =
      let whole : entering root d at depth (xs ++ t ∷ ys) ≡ E ++ (one ++ rest) = from-append v levels at depth n xs (t ∷ ys) ∙ ap (λ zs. E ++ zs) (from-append v levels at depth m (t ∷ []) ys) in
      comes.blocks ∙ (ap (λ zs. comes.before ++ (zs ++ comes.after)) whole
      ∙ (ap (λ zs. comes.before ++ zs) (append_assoc E (one ++ rest) comes.after ∙ ap (λ zs. E ++ zs) (append_assoc one rest comes.after))
      ∙ sym (append_assoc comes.before E (one ++ (rest ++ comes.after)))))

  first_long : length (comes.before ++ E) ≡ m
  first_long = length-append comes.before E ∙ ap (λ k. k + length E) (come_blocks root d at depth (xs ++ t ∷ ys) comes)

  first_is : take m (blocks_of root) ≡ comes.before ++ E
  first_is = first_of (blocks_of root) (comes.before ++ E) (one ++ (rest ++ comes.after)) m all_blocks first_long

  agents_are : HasAgents root (comes.before ++ E) e
  agents_are = subst (λ zs. HasAgents root zs e) first_is read.agents

  pub read_blocks : length e.blocks.items ≡ m
  read_blocks = zip_length IsBlockTable (comes.before ++ E) e.blocks.items agents_are.blocks ∙ first_long

  abbrev LX : List (ℕ × Members)
  LX = leaving root d depth xs

  abbrev LR : List (ℕ × Members)
  LR = leaving_from v levels (length e.blocks.items + length (blocks_from v levels scope.System 0 0 (t ∷ []))) ys

  all_left : leaving_of root ≡ (comes.left ++ LX) ++ (leaving root e depth (t ∷ []) ++ (LR ++ comes.behind))
  all_left =
      let same = from-length v levels scope.System at 0 depth 0 n xs in
      let k : n + length (blocks_from v levels scope.System 0 0 xs) ≡ length e.blocks.items = omega (arith, same, read_blocks) in
      let LO = leaving root e depth (t ∷ []) in
      let whole : leaving root d depth (xs ++ t ∷ ys) ≡ LX ++ (LO ++ LR) =
      leaving-append v levels n xs (t ∷ ys) ∙ (ap (λ j. LX ++ leaving_from v levels j (t ∷ ys)) k ∙ ap (λ zs. LX ++ zs) (leaving-append v levels (length e.blocks.items) (t ∷ []) ys)) in
      comes.leaves ∙ (ap (λ zs. comes.left ++ (zs ++ comes.behind)) whole
      ∙ (ap (λ zs. comes.left ++ zs) (append_assoc LX (LO ++ LR) comes.behind ∙ ap (λ zs. LX ++ zs) (append_assoc LO LR comes.behind))
      ∙ sym (append_assoc comes.left LX (LO ++ (LR ++ comes.behind)))))

  below_all : AllByRecursion (λ x. x.0 < length e.blocks.items) (comes.left ++ LX)
  below_all =
      let same = from-length v levels scope.System at 0 depth 0 n xs in
      all_append (λ x. x.0 < length e.blocks.items) comes.left LX
      (all_weaker (λ x. x.0 < n) (λ x. x.0 < length e.blocks.items) comes.left (λ x h. omega (arith, h, read_blocks)) comes.below)
      (all_weaker (λ x. (n ≤ x.0) × (x.0 < n + length (blocks_from v levels scope.System 0 0 xs))) (λ x. x.0 < length e.blocks.items) LX (λ x h. omega (arith, h.1, same, read_blocks)) (left_within v levels n xs))

  pub comes_next : ComesTo root e at depth (t ∷ [])
  comes_next = record {
    signals = signals_kept root d e read.signals comes.signals;
    before = comes.before ++ E;
    agents = agents_are;
    after = rest ++ comes.after;
    blocks = all_blocks ∙ ap (λ k. (comes.before ++ E) ++ (blocks_from v levels at depth k (t ∷ []) ++ (rest ++ comes.after))) (sym read_blocks);
    left = comes.left ++ LX;
    behind = LR ++ comes.behind;
    leaves = all_left;
    below = below_all;
    names = read.names ∙ (ap (λ z. z ++ channel_names (map (λ x. x.1) LX)) comes.names ∙ (sym (channel_names-append (map (λ x. x.1) comes.left) (map (λ x. x.1) LX)) ∙ ap (λ us. channel_names us) (sym (map-append (λ (x : ℕ × Members). x.1) comes.left LX))));
    apart = read.apart;
    few = read.few;
    around = subst (λ bs. IsDepthIn bs at depth) (sym read.grows.blocks_are) (stays at comes.around);
  }
    where
      get_stays : {A : Type 0} (bs cs : List A) (i : ℕ) (P : A → Type 0) → IsSomeAnd (slice_get bs i) P → IsSomeAnd (slice_get (bs ++ cs) i) P
      get_stays [] cs i P h = absurd h
      get_stays (b ∷ bs) cs zero P h = h
      get_stays (b ∷ bs) cs (suc i) P h = get_stays bs cs i P h

      stays : (s : Scope) → IsDepthIn d.blocks.items s depth → IsDepthIn (d.blocks.items ++ read.grows.blocks) s depth
      stays scope.System h = h
      stays (scope.Block b) h = get_stays d.blocks.items read.grows.blocks b.0 (λ around. depth ≡ around.depth + 1) h

  -- how many blocks the lists have of the blocks so far
  pub listed_now : listed_in v (take (length e.blocks.items) (block_tables root)) ≡ listed_in v (take n (block_tables root)) + listed_in v (tables_of E)
  listed_now =
      ap (λ us. listed_in v us) (tables_before root (comes.before ++ E) (one ++ (rest ++ comes.after)) (length e.blocks.items) all_blocks (first_long ∙ sym read_blocks))
      ∙ (listed-tables v comes.before E ∙ ap (λ us. listed_in v us + listed_in v (tables_of E)) (sym (come_tables root d at depth (xs ++ t ∷ ys) comes)))

  pub listed_more : listed_in v (tables_of (entering root d at depth (xs ++ t ∷ []))) ≡ listed_in v (tables_of E) + listed_in v (tables_of (entering root e at depth (t ∷ [])))
  listed_more =
      ap (λ zs. listed_in v (tables_of zs)) (from-append v levels at depth n xs (t ∷ []) ∙ ap (λ k. E ++ blocks_from v levels at depth k (t ∷ [])) (sym read_blocks))
      ∙ listed-tables v E (entering root e at depth (t ∷ []))

  -- one more block of the list is read
  pub read_more : (f : Draft) (more : List Channel) → HasRead root e at depth (t ∷ []) more f → HasRead root d at depth (xs ++ t ∷ []) (channels ++ more) f
  read_more f more next =
      let O = entering root e at depth (t ∷ []) in
      let here : one ≡ O = ap (λ k. blocks_from v levels at depth k (t ∷ [])) (sym read_blocks) in
      let whole : entering root d at depth (xs ++ t ∷ []) ≡ E ++ O = from-append v levels at depth n xs (t ∷ []) ∙ ap (λ zs. E ++ zs) here in
      let long : n + length (entering root d at depth (xs ++ t ∷ [])) ≡ length e.blocks.items + length O = ap (λ zs. n + length zs) whole ∙ sums n (length E) (length O) (length e.blocks.items) (length (E ++ O)) (length-append E O) read_blocks in
      let same = from-length v levels scope.System at 0 depth 0 n xs in
      let number : n + length (blocks_from v levels scope.System 0 0 xs) ≡ length e.blocks.items = omega (arith, same, read_blocks) in
      let LO = leaving root e depth (t ∷ []) in
      let left_whole : leaving root d depth (xs ++ t ∷ []) ≡ LX ++ LO = leaving-append v levels n xs (t ∷ []) ∙ ap (λ j. LX ++ leaving_from v levels j (t ∷ [])) number in
      let tables : tables_of (entering root d at depth (xs ++ t ∷ [])) ≡ tables_of E ++ tables_of O = ap (λ zs. tables_of zs) whole ∙ map-append (λ (x : BlockTable). x.table) E O in
      let count : n + length (tables_of E) ≡ length e.blocks.items = ap (λ k. n + k) (length-map E (λ (x : BlockTable). x.table)) ∙ sym read_blocks in
      let entries : block_channels n (tables_of (entering root d at depth (xs ++ t ∷ []))) ≡ block_channels n (tables_of E) ++ block_channels (length e.blocks.items) (tables_of O) =
      ap (λ us. block_channels n us) tables ∙ (block_channels-append n (tables_of E) (tables_of O) ∙ ap (λ k. block_channels n (tables_of E) ++ block_channels k (tables_of O)) count) in
      record {
        agents = subst (λ k. HasAgents root (take k (blocks_of root)) f) (sym long) next.agents;
        whole = subst (λ zs. AllByRecursion (IsWholeBlock v) zs) (sym whole) (all_append (IsWholeBlock v) E O read.whole next.whole);
        channels_are = subst (λ zs. AllZip (IsChannelTable f.signals.items f.blocks.items f.sets.items f.gates.items) zs (channels ++ more)) (sym entries)
            (zip_append (IsChannelTable f.signals.items f.blocks.items f.sets.items f.gates.items) (block_channels n (tables_of E)) channels (block_channels (length e.blocks.items) (tables_of O)) more
            (channels_grown e f (block_channels n (tables_of E)) channels next.signals next.grows read.channels_are) next.channels_are);
        names = next.names ∙ (ap (λ z. z ++ channel_names (map (λ x. x.1) LO)) read.names
            ∙ (append_assoc (name_texts d.channel_names.items) (channel_names (map (λ x. x.1) LX)) (channel_names (map (λ x. x.1) LO))
            ∙ ap (λ z. name_texts d.channel_names.items ++ z) (sym (channel_names-append (map (λ x. x.1) LX) (map (λ x. x.1) LO)) ∙ ap (λ us. channel_names us) (sym (map-append (λ (x : ℕ × Members). x.1) LX LO) ∙ ap (λ zs. map (λ x. x.1) zs) (sym left_whole)))));
        apart = next.apart;
        few = next.few;
        signals = next.signals ∙ read.signals;
        grows = grows_on d e f read.grows next.grows;
      }
    where
      sums : (n a b k c : ℕ) → c ≡ a + b → k ≡ n + a → n + c ≡ k + b
      sums n a b k c e f = omega (arith, e, f)

-- nothing is read of a list at first
pub none_read : (root : Members) (d e : Draft) (at : Scope) (depth : ℕ) (ts : List Members) → ComesTo root d at depth ts → e ≡ record d { listed_blocks = e.listed_blocks } → HasRead root d at depth [] [] e
none_read root d e at depth ts comes frame =
    let v = own_version root in
    let n : ℕ = length d.blocks.items in
    let none : entering root d at depth [] ≡ [] = from-nothing v (levels_from depth) at depth n in
    let unleft : leaving root d depth [] ≡ [] = leaving-nothing v (levels_from depth) n in
    let E = entering root d at depth ts in
    let long : length comes.before ≡ n + length (entering root d at depth []) = come_blocks root d at depth ts comes ∙ (zero_more n ∙ ap (λ zs. n + length zs) (sym none)) in
    let first : take (n + length (entering root d at depth [])) (blocks_of root) ≡ comes.before = first_of (blocks_of root) comes.before (E ++ comes.after) (n + length (entering root d at depth [])) comes.blocks long in
    let wider : e ≡ record d { channel_names = e.channel_names; listed_blocks = e.listed_blocks } = frame ∙ ap (λ v. record d { channel_names = v; listed_blocks = e.listed_blocks }) (sym (ap (λ (x : Draft). x.channel_names) frame)) in
    record {
      agents = subst (λ zs. HasAgents root zs e) (sym first) (agents_stay root comes.before d e wider comes.agents);
      whole = subst (λ zs. AllByRecursion (IsWholeBlock v) zs) (sym none) tt;
      channels_are = subst (λ zs. AllZip (IsChannelTable e.signals.items e.blocks.items e.sets.items e.gates.items) (block_channels n (tables_of zs)) []) (sym none) tt;
      names = ap (λ (x : Draft). name_texts x.channel_names.items) frame ∙ (sym (nil_after (name_texts d.channel_names.items)) ∙ ap (λ zs. name_texts d.channel_names.items ++ channel_names (map (λ x. x.1) zs)) (sym unleft));
      apart = subst (λ (x : Draft). AllPairs (λ a b. a ≢ b) (name_texts x.channel_names.items)) (sym frame) comes.apart;
      few = subst (λ (x : Draft). length x.channel_names.items ≤ 64) (sym frame) comes.few;
      signals = ap (λ (x : Draft). x.signals) frame;
      grows = grows_none d e (ap (λ (x : Draft). x.blocks) frame) (ap (λ (x : Draft). x.sets) frame) (ap (λ (x : Draft). x.gates) frame);
    }
  where
    zero_more : (n : ℕ) → n ≡ n + 0
    zero_more n = omega arith
