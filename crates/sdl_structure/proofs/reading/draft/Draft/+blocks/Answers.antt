use Rattle.std.proofs.Common.{rules, ◌≡◌, ℕ, zero, suc, ◌+◌, ◌<◌, ◌≤◌, ◌==◌, ◌↔◌, Bool, true, false, not, IsTrue, List, [], ◌∷◌, ◌++◌, length, map, take, refl, ap, sym, subst, ◌∙◌, eqb-true, arith}
use Rattle.std.specs.Prelude.{IfOk}
use Rattle.std.specs.List.{AllZip}
use Rattle.std.proofs.lemmas.Bool.Decides.{nat_tests}
use Rattle.std.proofs.lemmas.List.{length-map}
use Rattle.sdl_structure_parts.specs.declared.parts.Block.{Block}
use Rattle.sdl_structure_parts.specs.declared.parts.Scope.TheVariants as scope
use Rattle.sdl_structure_tables.specs.declared.version.Version.TheVariants.{One, Two}
use Rattle.sdl_structure_tables.specs.declared.place.Key.TheVariants as key
use Rattle.sdl_structure_tables.specs.declared.place.Part.TheVariants as part
use Rattle.sdl_structure.specs.declared.reading.draft.Draft.{Draft}
use Rattle.sdl_structure_tables.specs.Versions.{most_blocks}
use Rattle.sdl_structure_tables.specs.declared.place.Place.{Place}
use Rattle.sdl_structure_tables.specs.Keys.{keys_of}
use Rattle.sdl_structure_tables.specs.Tables.{tables_at, table_in, names_of, agent_names, channel_names, total, has_only, own_version, HasKindAt}
use Rattle.sdl_structure_tables.specs.Blocks.{block_tables, inner_tables, listed_in, left_before, IsBlockAt}
use Rattle.sdl_structure_tables.specs.Places.{table_of, table_at, block_place}
use Rattle.sdl_structure_tables.specs.Faults.{so_far}
use Rattle.sdl_structure_tables.specs.Walks.{file_of, own, name_texts}
use Rattle.sdl_structure_tables.proofs.PlaceLemmas.{before_block}
use Rattle.sdl_structure.specs.File.{IsWholeBlock, IsChannelTable, channels_in}
use Rattle.sdl_structure.specs.Drafts.{ComesTo, HasRead, HasBegun, HasInside, HasKindsWithin, ServesChannels, entering, entering_in, placed, tables_of}
use Rattle.sdl_structure.proofs.ChannelLemmas.{refuted}
use Rattle.sdl_structure.proofs.DraftLemmas.{blocks_so_far, listed_next, block_part, block_number, block_lists_gates, block_lists_blocks, block_has_name, neither_is_there}
use Rattle.sdl_structure.proofs.WalkLemmas.{come_tables, one_entered, begun_depth, none_read, block_starts}
use Rattle.sdl_structure.proofs.InsideLemmas.{block_kinds, inside_names, inside_counted, inside_serves, block_read, read_one, counted_one, comes_two, read_two, blocks_two, entered_two}
use Rattle.sdl_structure.proofs.TurnLemmas.{if_ok, on_ok, ok_always, none_listed, turn_comes, turn_reads, turn_counted, turn_listed, next_table, next_few, not_deepest, turn_here, counted_here, read_here, listed_here}
use Rattle.sdl_structure.proofs.reading.draft.Draft.+blocks.Goals as goal
use Rattle.sdl_structure.proofs.reading.draft.Draft.+blocks.Goals.{read_inner_blocks-else-depth-ge-MOST_DEPTH-via-then-depth-ge-MOST_DEPTH+else-not-is_empty, read_inner_blocks-else-depth-ge-MOST_DEPTH-via-else-depth-ge-MOST_DEPTH}

-- a list without elements, and the test of one
no_values : {A : Type 0} (xs : List A) → length xs ≡ 0 → xs ≡ []
no_values [] e = refl
no_values (x ∷ xs) e = absurd (omega arith)

not_some : (n : ℕ) → ¬ (0 < n) → n ≡ 0
not_some zero none = refl
not_some (suc n) none = absurd (none (omega arith))

has_some : (b : Bool) (n k : ℕ) → b ≡ (n == 0) → k ≡ n → IsTrue (not b) ↔ (0 < k)
has_some true n k is same =
    let zero_is = eqb-true n 0 (sym is) in
    ((λ t. cc), (λ h. absurd (omega (arith, h, zero_is, same))))
has_some false zero k is same = ((λ t. cc), (λ h. cc))
has_some false (suc n) k is same = ((λ t. omega (arith, same)), (λ h. refl))

pub read_list-loop-value-init : goal.read_list-loop-value-init
read_list-loop-value-init measure c =
    let w = c.args.walk.now in
    let d = c.args.self.now in
    let e : Draft = record d { listed_blocks = d.listed_blocks + length c.args.tables.now } in
    let none = none_listed (file_of w) d c.args.around.scope c.args.around.depth in
    record {
      read = rw c.new-channels.ensures.items (none_read (file_of w) d e c.args.around.scope c.args.around.depth (map table_in c.args.tables.now) c.requires.read refl);
      counted = subst (λ v. d.listed_blocks + length c.args.tables.now ≡ d.listed_blocks + length c.args.tables.now + listed_in v (tables_of (entering (file_of w) d c.args.around.scope c.args.around.depth []))) (sym c.requires.here.version) (omega (arith, none));
      few = grind (arith, nat_tests);
    }

pub read_list-loop-value-preserved : goal.read_list-loop-value-preserved
read_list-loop-value-preserved measure c =
    let w = c.args.walk.now in
    let root = file_of w in
    let d = c.args.self.now in
    let e = c.loop-value.self in
    let f = c.read_block.new.self in
    let vs = c.args.tables.now in
    let i = c.loop-value.value-index in
    let v = c.value-item.result in
    let at = c.args.around.scope in
    let depth = c.args.around.depth in
    let channels = c.loop-value.channels.items in
    let more = c.in_ok-more.more.items in
    let h = c.loop-value-test.true in
    let is = c.value-item.is in
    let u = c.inner_block-inner.result in
    let q = c.inner_block-inner.ensures in
    let read = c.loop-value.invariant.read in
    let next = read_here w u e f at depth (table_in v) more q.file q.table c.in_ok-more.ensures.read in
    let now = listed_here w u e f at depth (table_in v) q.file q.table q.version c.requires.here.version c.in_ok-more.ensures.counted in
    record {
      read = rw c.in_ok-append.ensures.items (turn_reads root d e at depth vs i v channels h is c.requires.read read f more next);
      counted = subst (λ x. f.listed_blocks ≡ d.listed_blocks + length vs + listed_in x (tables_of (entering root d at depth (take (i + 1) (map table_in vs))))) (sym c.requires.here.version)
          (turn_listed root d e at depth vs i v channels h is c.requires.read read f (subst (λ x. e.listed_blocks ≡ d.listed_blocks + length vs + listed_in x (tables_of (entering root d at depth (take i (map table_in vs))))) c.requires.here.version c.loop-value.invariant.counted) now);
      few = subst (λ x. f.listed_blocks ≤ most_blocks x) q.version c.in_ok-more.ensures.few;
    }

pub read_block-new_name-requires-clause-listed : goal.read_block-new_name-requires-clause-listed
read_block-new_name-requires-clause-listed measure c =
    let w = c.args.walk.now in
    block_has_name w.version w.place.part (block_part w (length c.args.self.now.blocks.items) c.requires.place)

pub read_block-new_name-requires-clause-before : goal.read_block-new_name-requires-clause-before
read_block-new_name-requires-clause-before measure c =
    let w = c.args.walk.now in
    let root = file_of w in
    let d = c.args.self.now in
    let n : ℕ = length d.blocks.items in
    let at = c.args.around.scope in
    let depth = c.args.around.depth in
    let t = own w in
    c.requires.read.agents.names ∙ (ap (λ us. agent_names us) (sym (come_tables root d at depth (t ∷ []) c.requires.read)) ∙ sym (before_block w root n refl c.requires.place))

pub read_block-read_gates-requires-clause-listed : goal.read_block-read_gates-requires-clause-listed
read_block-read_gates-requires-clause-listed measure c =
    let w = c.args.walk.now in
    block_lists_gates w.version w.place.part (block_part w (length c.args.self.now.blocks.items) c.requires.place)

pub read_block-read_channels-requires-clause-scope : goal.read_block-read_channels-requires-clause-scope
read_block-read_channels-requires-clause-scope measure c =
    let w = c.args.walk.now in
    let root = file_of w in
    let d = c.args.self.now in
    let n : ℕ = length d.blocks.items in
    let at = c.args.around.scope in
    let depth = c.args.around.depth in
    let t = own w in
    let number : c.len.result ≡ n = search rules in
    (block_part w n c.requires.place, number ∙ sym (block_number w n c.requires.place))

pub read_block-read_channels-requires-clause-serves : goal.read_block-read_channels-requires-clause-serves
read_block-read_channels-requires-clause-serves measure c =
    let w = c.args.walk.now in
    let root = file_of w in
    let d = c.args.self.now in
    let n : ℕ = length d.blocks.items in
    let at = c.args.around.scope in
    let depth = c.args.around.depth in
    let t = own w in
    let number : c.len.result ≡ n = search rules in
    let gates = c.in_ok-gates.gates.items in
    let block : Block = record { name = c.in_ok-name.name; scope = at; depth = depth } in
    let m : Draft = record { signals = d.signals; blocks = c.push.new.self; sets = d.sets; gates = c.append.new.self; listed_blocks = d.listed_blocks; agent_names = c.new_name.new.taken; channel_names = d.channel_names } in
    let s = block_starts root d m at depth c.len.result t block gates c.as_slice.result.now c.requires.depth.1 c.requires.read number c.as_slice.ensures.value (c.in_ok-name.ensures.held, c.in_ok-name.ensures.legal) c.in_ok-name.ensures.apart
    c.in_ok-gates.ensures.rules c.in_ok-gates.ensures.read c.in_ok-gates.ensures.few refl refl refl c.in_ok-push.ensures.items c.in_ok-append.ensures.items c.in_ok-name.ensures.joined in
    let e = c.read_inside.new.self in
    let inner = c.in_ok-inner.inner.items in
    let inside : HasInside root m n depth t inner e = subst (λ k. HasInside root m k depth t inner e) number c.in_ok-inner.ensures.read in
    let v = c.requires.here.version in
    subst (λ k. ServesChannels root (scope.Block (record { 0 = k })) t e) (sym number)
    (inside_serves root m e n depth t inner s.has inside (subst (λ u. depth ≡ 4 → inner_tables u t ≡ []) v c.in_ok-inner.ensures.deepest) c.requires.depth.1
    (subst (λ u. d.listed_blocks ≡ length (tables_at key.Block root) + listed_in u (take n (block_tables root))) v c.requires.counted)
    (subst (λ u. e.listed_blocks ≡ d.listed_blocks + length (inner_tables u t) + listed_in u (tables_of (entering_in root n depth t))) v
    (subst (λ k. e.listed_blocks ≡ d.listed_blocks + length (inner_tables w.version t) + listed_in w.version (tables_of (entering_in root k depth t))) number c.in_ok-inner.ensures.counted))
    (subst (λ u. e.listed_blocks ≤ most_blocks u) v c.in_ok-inner.ensures.few))

pub read_block-read_channels-requires-clause-names : goal.read_block-read_channels-requires-clause-names
read_block-read_channels-requires-clause-names measure c =
    let w = c.args.walk.now in
    let root = file_of w in
    let d = c.args.self.now in
    let n : ℕ = length d.blocks.items in
    let at = c.args.around.scope in
    let depth = c.args.around.depth in
    let t = own w in
    let number : c.len.result ≡ n = search rules in
    let gates = c.in_ok-gates.gates.items in
    let block : Block = record { name = c.in_ok-name.name; scope = at; depth = depth } in
    let m : Draft = record { signals = d.signals; blocks = c.push.new.self; sets = d.sets; gates = c.append.new.self; listed_blocks = d.listed_blocks; agent_names = c.new_name.new.taken; channel_names = d.channel_names } in
    let s = block_starts root d m at depth c.len.result t block gates c.as_slice.result.now c.requires.depth.1 c.requires.read number c.as_slice.ensures.value (c.in_ok-name.ensures.held, c.in_ok-name.ensures.legal) c.in_ok-name.ensures.apart
    c.in_ok-gates.ensures.rules c.in_ok-gates.ensures.read c.in_ok-gates.ensures.few refl refl refl c.in_ok-push.ensures.items c.in_ok-append.ensures.items c.in_ok-name.ensures.joined in
    let e = c.read_inside.new.self in
    let inner = c.in_ok-inner.inner.items in
    let inside : HasInside root m n depth t inner e = subst (λ k. HasInside root m k depth t inner e) number c.in_ok-inner.ensures.read in
    subst (λ k. name_texts e.channel_names.items ≡ channel_names (left_before root k)) (sym number) (inside_names root m e n depth t inner s.has inside)

pub read_block-read_channels-requires-clause-apart : goal.read_block-read_channels-requires-clause-apart
read_block-read_channels-requires-clause-apart measure c = c.in_ok-inner.ensures.read.read.apart

pub read_block-read_channels-requires-clause-few : goal.read_block-read_channels-requires-clause-few
read_block-read_channels-requires-clause-few measure c = c.in_ok-inner.ensures.read.read.few

pub read_block-read_channels-requires-clause-counted : goal.read_block-read_channels-requires-clause-counted
read_block-read_channels-requires-clause-counted measure c =
    let w = c.args.walk.now in
    let root = file_of w in
    let d = c.args.self.now in
    let n : ℕ = length d.blocks.items in
    let at = c.args.around.scope in
    let depth = c.args.around.depth in
    let t = own w in
    let number : c.len.result ≡ n = search rules in
    let gates = c.in_ok-gates.gates.items in
    let block : Block = record { name = c.in_ok-name.name; scope = at; depth = depth } in
    let m : Draft = record { signals = d.signals; blocks = c.push.new.self; sets = d.sets; gates = c.append.new.self; listed_blocks = d.listed_blocks; agent_names = c.new_name.new.taken; channel_names = d.channel_names } in
    let s = block_starts root d m at depth c.len.result t block gates c.as_slice.result.now c.requires.depth.1 c.requires.read number c.as_slice.ensures.value (c.in_ok-name.ensures.held, c.in_ok-name.ensures.legal) c.in_ok-name.ensures.apart
    c.in_ok-gates.ensures.rules c.in_ok-gates.ensures.read c.in_ok-gates.ensures.few refl refl refl c.in_ok-push.ensures.items c.in_ok-append.ensures.items c.in_ok-name.ensures.joined in
    let e = c.read_inside.new.self in
    let inner = c.in_ok-inner.inner.items in
    let inside : HasInside root m n depth t inner e = subst (λ k. HasInside root m k depth t inner e) number c.in_ok-inner.ensures.read in
    let so_far_is : so_far root w.place.part key.Channel w.place.block ≡ total key.Channel (left_before root n) + length (tables_at key.Channel (table_of root part.Block n 0 0)) = ap (λ (p : Place). so_far root p.part key.Channel p.block) c.requires.place in
    let own_is : table_of root part.Block n 0 0 ≡ t = sym (ap (λ p. table_at root p) c.requires.place) ∙ c.requires.here.table in
    inside_counted root m e n depth t inner s.has inside (length (tables_at key.Channel t)) ∙ (ap (λ u. total key.Channel (left_before root n) + length (tables_at key.Channel u)) (sym own_is) ∙ sym so_far_is)

pub read_block-returns-clause-read : goal.read_block-returns-clause-read
read_block-returns-clause-read measure c =
    let w = c.args.walk.now in
    let root = file_of w in
    let d = c.args.self.now in
    let n : ℕ = length d.blocks.items in
    let at = c.args.around.scope in
    let depth = c.args.around.depth in
    let t = own w in
    let number : c.len.result ≡ n = search rules in
    let gates = c.in_ok-gates.gates.items in
    let block : Block = record { name = c.in_ok-name.name; scope = at; depth = depth } in
    let m : Draft = record { signals = d.signals; blocks = c.push.new.self; sets = d.sets; gates = c.append.new.self; listed_blocks = d.listed_blocks; agent_names = c.new_name.new.taken; channel_names = d.channel_names } in
    let s = block_starts root d m at depth c.len.result t block gates c.as_slice.result.now c.requires.depth.1 c.requires.read number c.as_slice.ensures.value (c.in_ok-name.ensures.held, c.in_ok-name.ensures.legal) c.in_ok-name.ensures.apart
    c.in_ok-gates.ensures.rules c.in_ok-gates.ensures.read c.in_ok-gates.ensures.few refl refl refl c.in_ok-push.ensures.items c.in_ok-append.ensures.items c.in_ok-name.ensures.joined in
    let e = c.read_inside.new.self in
    let inner = c.in_ok-inner.inner.items in
    let inside : HasInside root m n depth t inner e = subst (λ k. HasInside root m k depth t inner e) number c.in_ok-inner.ensures.read in
    let f = c.read_channels.new.self in
    let v = own_version root in
    let version = c.requires.here.version in
    let own_channels = c.in_ok-channels.channels.items in
    let others : has_only (keys_of v part.Block) t ≡ true = subst (λ u. has_only (keys_of u part.Block) t ≡ true) version (subst (λ q. has_only (keys_of w.version q) t ≡ true) (block_part w n c.requires.place) c.in_ok-only_known_keys.ensures.ok) in
    let kinds = block_kinds v t c.in_ok-name.ensures.kind c.in_ok-gates.ensures.kind (subst (λ u. HasKindsWithin u t) version c.in_ok-inner.ensures.kinds) c.in_ok-channels.ensures.kind in
    let whole : IsWholeBlock v (placed at depth t) = record {
      shape = record { kinds = kinds; others = others };
      some = subst (λ u. 0 < length (tables_at key.Set t) + length (inner_tables u t)) version c.in_ok-inner.ensures.some;
      deepest = subst (λ u. depth ≡ 4 → inner_tables u t ≡ []) version c.in_ok-inner.ensures.deepest;
    } in
    let channels = subst (λ k. AllZip (IsChannelTable e.signals.items e.blocks.items e.sets.items e.gates.items) (channels_in (scope.Block (record { 0 = k })) t) own_channels) number c.in_ok-channels.ensures.read in
    let names = subst (λ k. name_texts f.channel_names.items ≡ channel_names (left_before root k) ++ names_of (tables_at key.Channel t)) number c.in_ok-channels.ensures.names in
    rw c.in_ok-append-2.ensures.items (block_read root d m e f at depth t block gates own_channels inner c.requires.depth.1 s.has s.begun inside whole c.in_ok-channels.ensures.frame channels names c.in_ok-channels.ensures.apart c.in_ok-channels.ensures.few)

pub read_block-returns-clause-counted : goal.read_block-returns-clause-counted
read_block-returns-clause-counted measure c =
    let w = c.args.walk.now in
    let root = file_of w in
    let d = c.args.self.now in
    let n : ℕ = length d.blocks.items in
    let at = c.args.around.scope in
    let depth = c.args.around.depth in
    let t = own w in
    let e = c.read_inside.new.self in
    let f = c.read_channels.new.self in
    let v = own_version root in
    let version = c.requires.here.version in
    let number : c.len.result ≡ n = search rules in
    let same : f.listed_blocks ≡ e.listed_blocks = ap (λ (x : Draft). x.listed_blocks) c.in_ok-channels.ensures.frame in
    let now : e.listed_blocks ≡ d.listed_blocks + length (inner_tables w.version t) + listed_in w.version (tables_of (entering_in root n depth t)) =
    subst (λ k. e.listed_blocks ≡ d.listed_blocks + length (inner_tables w.version t) + listed_in w.version (tables_of (entering_in root k depth t))) number c.in_ok-inner.ensures.counted in
    let entered = ap (λ zs. listed_in w.version (tables_of zs)) (one_entered root d at depth t c.requires.depth.1) in
    omega (arith, same, now, entered)

pub read_block-returns-clause-few : goal.read_block-returns-clause-few
read_block-returns-clause-few measure c =
    subst (λ k. k ≤ most_blocks c.args.walk.now.version) (sym (ap (λ (x : Draft). x.listed_blocks) c.in_ok-channels.ensures.frame)) c.in_ok-inner.ensures.few

pub read_inner_blocks-tables-requires-clause-listed : goal.read_inner_blocks-tables-requires-clause-listed
read_inner_blocks-tables-requires-clause-listed measure c =
    let w = c.args.walk.now in
    block_lists_blocks w.version w.place.part c.requires.second (block_part w c.args.block.0 c.requires.place)

pub read_inner_blocks-returns-clause-kind : goal.read_inner_blocks-returns-clause-kind
read_inner_blocks-returns-clause-kind measure c = ok_always c.read_list.result (HasKindAt (own c.args.walk.now) key.Block) c.in_ok-tables.ensures.kind

pub read_inner_blocks-returns-clause-read : goal.read_inner_blocks-returns-clause-read
read_inner_blocks-returns-clause-read measure c =
    subst (λ us. IfOk c.read_list.result (λ channels. HasRead (file_of c.args.walk.now) c.args.self.now (scope.Block c.args.block) (c.args.depth + 1) us channels.items c.read_list.new.self)) (sym c.in_ok-tables.ensures.tables) c.read_list.ensures.read

pub read_inner_blocks-returns-clause-counted : goal.read_inner_blocks-returns-clause-counted
read_inner_blocks-returns-clause-counted measure c =
    let w = c.args.walk.now in
    let root = file_of w in
    let d = c.args.self.now in
    let f = c.read_list.new.self in
    let vs = c.in_ok-tables.tables.now in
    let at = scope.Block c.args.block in
    let deep : ℕ = c.args.depth + 1 in
    let held = c.in_ok-tables.ensures.tables in
    let long : length vs ≡ length (map table_in vs) = sym (length-map vs table_in) in
    on_ok c.read_list.result (f.listed_blocks ≡ d.listed_blocks + length vs + listed_in w.version (tables_of (entering root d at deep (map table_in vs))))
    (f.listed_blocks ≡ d.listed_blocks + length (tables_at key.Block (own w)) + listed_in w.version (tables_of (entering root d at deep (tables_at key.Block (own w)))))
    (λ h. subst (λ us. f.listed_blocks ≡ d.listed_blocks + length us + listed_in w.version (tables_of (entering root d at deep us))) (sym held) (omega (arith, h, long)))
    c.read_list.ensures.counted

pub read_block-overflow_cast-block : goal.read_block-overflow_cast-block
read_block-overflow_cast-block measure c =
    let w = c.args.walk.now in
    let root = file_of w in
    let d = c.args.self.now in
    let v = c.requires.here.version in
    let number : c.len.result ≡ length d.blocks.items = search rules in
    let few = next_few root d c.args.around.scope c.args.around.depth (own w) c.requires.depth.1 c.requires.read
    (subst (λ u. d.listed_blocks ≡ length (tables_at key.Block root) + listed_in u (take (length d.blocks.items) (block_tables root))) v c.requires.counted)
    (subst (λ u. d.listed_blocks ≤ most_blocks u) v c.requires.few) in
    omega (arith, number, few)

pub read_block-read_inside-requires : goal.read_block-read_inside-requires
read_block-read_inside-requires measure c =
    let w = c.args.walk.now in
    let root = file_of w in
    let d = c.args.self.now in
    let n : ℕ = length d.blocks.items in
    let at = c.args.around.scope in
    let depth = c.args.around.depth in
    let t = own w in
    let number : c.len.result ≡ n = search rules in
    let gates = c.in_ok-gates.gates.items in
    let block : Block = record { name = c.in_ok-name.name; scope = at; depth = depth } in
    let m : Draft = record { signals = d.signals; blocks = c.push.new.self; sets = d.sets; gates = c.append.new.self; listed_blocks = d.listed_blocks; agent_names = c.new_name.new.taken; channel_names = d.channel_names } in
    let s = block_starts root d m at depth c.len.result t block gates c.as_slice.result.now c.requires.depth.1 c.requires.read number c.as_slice.ensures.value (c.in_ok-name.ensures.held, c.in_ok-name.ensures.legal) c.in_ok-name.ensures.apart
    c.in_ok-gates.ensures.rules c.in_ok-gates.ensures.read c.in_ok-gates.ensures.few refl refl refl c.in_ok-push.ensures.items c.in_ok-append.ensures.items c.in_ok-name.ensures.joined in
    let counted : d.listed_blocks ≡ length (tables_at key.Block root) + listed_in w.version (take c.len.result (block_tables root)) =
    subst (λ k. d.listed_blocks ≡ length (tables_at key.Block root) + listed_in w.version (take k (block_tables root))) (sym number) c.requires.counted in
    (search rules, (c.requires.here, (c.requires.place ∙ ap (λ k. block_place k) (sym number), (c.requires.depth, (counted, (c.requires.few, subst (λ k. HasBegun root m k depth t) (sym number) s.has))))))

pub read_inner_blocks-returns-then-is_empty-clause-fault : goal.read_inner_blocks-returns-then-is_empty-clause-fault
read_inner_blocks-returns-then-is_empty-clause-fault measure c =
    let w = c.args.walk.now in
    let vs = c.in_ok-tables.tables.now in
    let none = refuted c.args.has_sets (0 < length (tables_at key.Set (own w))) c.requires.sets c.if-not-has_sets.true in
    neither_is_there w c.at-then-is_empty.result c.args.block.0 vs c.requires.here c.requires.place c.requires.second c.at-then-is_empty.ensures c.requires.set_kind
    (not_some (length (tables_at key.Set (own w))) none) c.in_ok-tables.ensures.held (eqb-true (length vs) 0 (sym c.is_empty-then-not-has_sets.ensures ∙ c.if-is_empty.true))

pub read_inner_blocks-read_list-requires : goal.read_inner_blocks-read_list-requires
read_inner_blocks-read_list-requires measure c =
    let w = c.args.walk.now in
    let root = file_of w in
    let b = c.args.block.0 in
    let vs = c.in_ok-tables.tables.now in
    let held = c.in_ok-tables.ensures.tables in
    let long : length (tables_at key.Block (own w)) ≡ length vs = ap (λ us. length us) held ∙ length-map vs table_in in
    let all = blocks_so_far w b c.requires.here c.requires.place in
    let next = listed_next w b c.requires.here c.requires.place c.requires.second in
    let deepest : c.args.depth ≡ 4 → vs ≡ [] = elim c.else-depth-ge-MOST_DEPTH.branch [
      | read_inner_blocks-else-depth-ge-MOST_DEPTH-via-then-depth-ge-MOST_DEPTH+else-not-is_empty x ↦ λ four. no_values vs (eqb-true (length vs) 0 (sym x.is_empty.ensures ∙ x.if-not-is_empty.false))
      | read_inner_blocks-else-depth-ge-MOST_DEPTH-via-else-depth-ge-MOST_DEPTH x ↦ λ four. absurd (omega (arith, four, x.if-depth-ge-MOST_DEPTH.false))
    ] in (
      search rules,
      (
        c.requires.here,
        (
          held,
          (
            c.in_ok-tables.ensures.each,
            (
              block_lists_blocks w.version w.place.part c.requires.second (block_part w b c.requires.place),
              (
                (omega arith, omega (arith, c.requires.shallow), λ five. deepest (omega (arith, five))),
                (
                  omega (arith, long, all, next, c.requires.counted),
                  (
                    all ∙ ap (λ k. length (tables_at key.Block root) + listed_in w.version (take k (block_tables root))) (sym c.requires.number),
                    (
                      c.requires.few,
                      subst (λ us. ComesTo root c.args.self.now (scope.Block c.args.block) (c.args.depth + 1) us) held c.requires.read,
                    ),
                  ),
                ),
              ),
            ),
          ),
        ),
      ),
    )

pub read_inner_blocks-returns-clause-deepest : goal.read_inner_blocks-returns-clause-deepest
read_inner_blocks-returns-clause-deepest measure c =
    let w = c.args.walk.now in
    let vs = c.in_ok-tables.tables.now in
    let deepest : c.args.depth ≡ 4 → vs ≡ [] = elim c.else-depth-ge-MOST_DEPTH.branch [
      | read_inner_blocks-else-depth-ge-MOST_DEPTH-via-then-depth-ge-MOST_DEPTH+else-not-is_empty x ↦ λ four. no_values vs (eqb-true (length vs) 0 (sym x.is_empty.ensures ∙ x.if-not-is_empty.false))
      | read_inner_blocks-else-depth-ge-MOST_DEPTH-via-else-depth-ge-MOST_DEPTH x ↦ λ four. absurd (omega (arith, four, x.if-depth-ge-MOST_DEPTH.false))
    ] in
    ok_always c.read_list.result (c.args.depth ≡ 4 → tables_at key.Block (own w) ≡ []) (λ four. c.in_ok-tables.ensures.tables ∙ ap (λ us. map table_in us) (deepest four))

pub read_inside-read_inner_blocks-requires : goal.read_inside-read_inner_blocks-requires
read_inside-read_inner_blocks-requires measure c =
    let w = c.args.walk.now in
    let root = file_of w in
    let b = c.args.block.0 in
    let depth = c.args.depth in
    let t = own w in
    let m = c.args.self.now in
    let e = c.read_sets-in-Two.new.self in
    let has = c.requires.begun in
    let sets = c.in_ok-read_sets-in-Two.ensures.read in
    let few = c.in_ok-read_sets-in-Two.ensures.few in
    let grows = c.in_ok-read_sets-in-Two.ensures.grows in
    let frame = c.in_ok-read_sets-in-Two.ensures.frame in
    let two : own_version root ≡ Two = sym c.requires.here.version ∙ c.in-Two.is in
    let vs = c.in_ok-tables-in-Two.tables.now in
    let long : length (tables_at key.Set t) ≡ length vs = ap (λ us. length us) c.in_ok-tables-in-Two.ensures.tables ∙ length-map vs table_in in
    let same : e.listed_blocks ≡ m.listed_blocks = ap (λ (x : Draft). x.listed_blocks) frame in (
      search rules,
      (
        c.requires.here,
        (
          c.requires.place,
          (
            blocks_two root m e b depth t has sets few grows frame,
            (
              c.in-Two.is,
              (
                has_some c.is_empty.result (length vs) (length (tables_at key.Set t)) c.is_empty.ensures long,
                (
                  c.in_ok-tables-in-Two.ensures.kind,
                  (
                    begun_depth root m b depth t has,
                    (
                      c.requires.depth.1,
                      (
                        same ∙ c.requires.counted,
                        (
                          subst (λ k. k ≤ most_blocks w.version) (sym same) c.requires.few,
                          comes_two root m e b depth t has sets few grows frame two,
                        ),
                      ),
                    ),
                  ),
                ),
              ),
            ),
          ),
        ),
      ),
    )

pub read_inside-returns-in_ok-read_sets-in-One-clause-read : goal.read_inside-returns-in_ok-read_sets-in-One-clause-read
read_inside-returns-in_ok-read_sets-in-One-clause-read measure c =
    let w = c.args.walk.now in
    let root = file_of w in
    let b = c.args.block.0 in
    let depth = c.args.depth in
    let t = own w in
    let m = c.args.self.now in
    let e = c.read_sets.new.self in
    let has = c.requires.begun in
    let sets = c.in_ok-read_sets-in-One.ensures.read in
    let few = c.in_ok-read_sets-in-One.ensures.few in
    let grows = c.in_ok-read_sets-in-One.ensures.grows in
    let frame = c.in_ok-read_sets-in-One.ensures.frame in
    let one : own_version root ≡ One = sym c.requires.here.version ∙ c.in-One.is in
    rw c.new.ensures.items (read_one root m e b depth t has sets few grows frame one)

pub read_inside-returns-in_ok-read_sets-in-One-clause-counted : goal.read_inside-returns-in_ok-read_sets-in-One-clause-counted
read_inside-returns-in_ok-read_sets-in-One-clause-counted measure c =
    let w = c.args.walk.now in
    let root = file_of w in
    let b = c.args.block.0 in
    let depth = c.args.depth in
    let t = own w in
    let m = c.args.self.now in
    let e = c.read_sets.new.self in
    let has = c.requires.begun in
    let sets = c.in_ok-read_sets-in-One.ensures.read in
    let few = c.in_ok-read_sets-in-One.ensures.few in
    let grows = c.in_ok-read_sets-in-One.ensures.grows in
    let frame = c.in_ok-read_sets-in-One.ensures.frame in
    let one : own_version root ≡ One = sym c.requires.here.version ∙ c.in-One.is in
    let same : e.listed_blocks ≡ m.listed_blocks = ap (λ (x : Draft). x.listed_blocks) frame in
    let none : length (inner_tables w.version t) ≡ 0 = ap (λ v. length (inner_tables v t)) c.in-One.is in
    let nothing : listed_in w.version (tables_of (entering_in root b depth t)) ≡ 0 =
    subst (λ v. listed_in v (tables_of (entering_in root b depth t)) ≡ 0) (sym c.requires.here.version) (counted_one root m e b depth t has sets few grows frame one) in
    omega (arith, same, none, nothing)

pub read_inside-returns-in_ok-read_sets-in-Two-clause-read : goal.read_inside-returns-in_ok-read_sets-in-Two-clause-read
read_inside-returns-in_ok-read_sets-in-Two-clause-read measure c =
    let w = c.args.walk.now in
    let root = file_of w in
    let b = c.args.block.0 in
    let depth = c.args.depth in
    let t = own w in
    let m = c.args.self.now in
    let e = c.read_sets-in-Two.new.self in
    let has = c.requires.begun in
    let sets = c.in_ok-read_sets-in-Two.ensures.read in
    let few = c.in_ok-read_sets-in-Two.ensures.few in
    let grows = c.in_ok-read_sets-in-Two.ensures.grows in
    let frame = c.in_ok-read_sets-in-Two.ensures.frame in
    let two : own_version root ≡ Two = sym c.requires.here.version ∙ c.in-Two.is in
    let f = c.read_inner_blocks.new.self in
    if_ok c.read_inner_blocks.result (λ channels. HasRead root e (scope.Block c.args.block) (depth + 1) (tables_at key.Block t) channels.items f) (λ channels. HasInside root m b depth t channels.items f)
    (λ channels read. read_two root m e b depth t has sets few grows frame f channels.items two read) c.read_inner_blocks.ensures.read

pub read_inside-returns-in_ok-read_sets-in-Two-clause-counted : goal.read_inside-returns-in_ok-read_sets-in-Two-clause-counted
read_inside-returns-in_ok-read_sets-in-Two-clause-counted measure c =
    let w = c.args.walk.now in
    let root = file_of w in
    let b = c.args.block.0 in
    let depth = c.args.depth in
    let t = own w in
    let m = c.args.self.now in
    let e = c.read_sets-in-Two.new.self in
    let has = c.requires.begun in
    let sets = c.in_ok-read_sets-in-Two.ensures.read in
    let few = c.in_ok-read_sets-in-Two.ensures.few in
    let grows = c.in_ok-read_sets-in-Two.ensures.grows in
    let frame = c.in_ok-read_sets-in-Two.ensures.frame in
    let two : own_version root ≡ Two = sym c.requires.here.version ∙ c.in-Two.is in
    let f = c.read_inner_blocks.new.self in
    let same : e.listed_blocks ≡ m.listed_blocks = ap (λ (x : Draft). x.listed_blocks) frame in
    let long : length (inner_tables w.version t) ≡ length (tables_at key.Block t) = ap (λ v. length (inner_tables v t)) c.in-Two.is in
    let entered = ap (λ zs. listed_in w.version (tables_of zs)) (entered_two root m e b depth t has sets few grows frame two) in
    on_ok c.read_inner_blocks.result
    (f.listed_blocks ≡ e.listed_blocks + length (tables_at key.Block t) + listed_in w.version (tables_of (entering root e (scope.Block c.args.block) (depth + 1) (tables_at key.Block t))))
    (f.listed_blocks ≡ m.listed_blocks + length (inner_tables w.version t) + listed_in w.version (tables_of (entering_in root b depth t)))
    (λ counted. omega (arith, counted, same, long, entered))
    c.read_inner_blocks.ensures.counted

pub read_list-inner_block-inner-requires-clause-there : goal.read_list-inner_block-inner-requires-clause-there
read_list-inner_block-inner-requires-clause-there measure c =
    let w = c.args.walk.now in
    let root = file_of w in
    let d = c.args.self.now in
    let e = c.loop-value.self in
    let vs = c.args.tables.now in
    let i = c.loop-value.value-index in
    let v = c.value-item.result in
    let at = c.args.around.scope in
    let depth = c.args.around.depth in
    let channels = c.loop-value.channels.items in
    let h = c.loop-value-test.true in
    let is = c.value-item.is in
    let number : c.len.result ≡ length e.blocks.items = search rules in
    let shallow = not_deepest vs i depth h c.requires.depth.1 c.requires.depth.2 in
    let comes = turn_comes root d e at depth vs i v channels h is c.requires.read c.loop-value.invariant.read in
    subst (λ k. IsBlockAt root k (table_in v)) (sym number) (next_table root e at depth (table_in v) shallow comes)

pub read_list-inner_block-inner-requires-clause-few : goal.read_list-inner_block-inner-requires-clause-few
read_list-inner_block-inner-requires-clause-few measure c =
    let w = c.args.walk.now in
    let root = file_of w in
    let d = c.args.self.now in
    let e = c.loop-value.self in
    let vs = c.args.tables.now in
    let i = c.loop-value.value-index in
    let v = c.value-item.result in
    let at = c.args.around.scope in
    let depth = c.args.around.depth in
    let channels = c.loop-value.channels.items in
    let h = c.loop-value-test.true in
    let is = c.value-item.is in
    let number : c.len.result ≡ length e.blocks.items = search rules in
    let shallow = not_deepest vs i depth h c.requires.depth.1 c.requires.depth.2 in
    let comes = turn_comes root d e at depth vs i v channels h is c.requires.read c.loop-value.invariant.read in
    let ver = c.requires.here.version in
    let all = subst (λ x. so_far root w.place.part key.Block w.place.block ≡ length (tables_at key.Block root) + listed_in x (take (length d.blocks.items) (block_tables root))) ver c.requires.all in
    let now = subst (λ x. e.listed_blocks ≡ d.listed_blocks + length vs + listed_in x (tables_of (entering root d at depth (take i (map table_in vs))))) ver c.loop-value.invariant.counted in
    let counted = turn_counted root d e at depth vs i v channels h is c.requires.read c.loop-value.invariant.read (so_far root w.place.part key.Block w.place.block) c.requires.counted all now in
    let few = next_few root e at depth (table_in v) shallow comes counted (subst (λ x. e.listed_blocks ≤ most_blocks x) ver c.loop-value.invariant.few) in
    omega (arith, number, few)

pub read_list-read_block-requires : goal.read_list-read_block-requires
read_list-read_block-requires measure c =
    let w = c.args.walk.now in
    let root = file_of w in
    let d = c.args.self.now in
    let e = c.loop-value.self in
    let vs = c.args.tables.now in
    let i = c.loop-value.value-index in
    let v = c.value-item.result in
    let at = c.args.around.scope in
    let depth = c.args.around.depth in
    let channels = c.loop-value.channels.items in
    let h = c.loop-value-test.true in
    let is = c.value-item.is in
    let number : c.len.result ≡ length e.blocks.items = search rules in
    let shallow = not_deepest vs i depth h c.requires.depth.1 c.requires.depth.2 in
    let comes = turn_comes root d e at depth vs i v channels h is c.requires.read c.loop-value.invariant.read in
    let ver = c.requires.here.version in
    let all = subst (λ x. so_far root w.place.part key.Block w.place.block ≡ length (tables_at key.Block root) + listed_in x (take (length d.blocks.items) (block_tables root))) ver c.requires.all in
    let now = subst (λ x. e.listed_blocks ≡ d.listed_blocks + length vs + listed_in x (tables_of (entering root d at depth (take i (map table_in vs))))) ver c.loop-value.invariant.counted in
    let counted = turn_counted root d e at depth vs i v channels h is c.requires.read c.loop-value.invariant.read (so_far root w.place.part key.Block w.place.block) c.requires.counted all now in
    let u = c.inner_block-inner.result in
    let file = c.inner_block-inner.ensures.file in
    let version = c.inner_block-inner.ensures.version in (
      search rules,
      (
        c.inner_block-inner.ensures.here,
        (
          c.inner_block-inner.ensures.place ∙ ap (λ k. block_place k) number,
          (
            (c.requires.depth.0, shallow),
            (
              counted_here w u e file version ver counted,
              (
                subst (λ x. e.listed_blocks ≤ most_blocks x) (sym version) c.loop-value.invariant.few,
                turn_here w u e at depth (table_in v) file c.inner_block-inner.ensures.table comes,
              ),
            ),
          ),
        ),
      ),
    )
