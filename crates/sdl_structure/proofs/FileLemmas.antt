-- The whole file: from the draft to what the file names, and from there to a structure with its names.
use Rattle.std.proofs.Common.{◌≡◌, ◌≢◌, ℕ, zero, suc, ◌+◌, ◌<◌, ◌≤◌, ◌==◌, ℤ, pos, negsuc, ◌≤ℤ◌, Bool, true, false, List, [], ◌∷◌, ◌++◌, length, map, All, AllPairs, Some, refl, sym, ap, subst, ◌∙◌, eqb-true, eq-eqb, arith}
use Rattle.std.specs.Option.{option_map_or}
use Rattle.std.proofs.lemmas.Int.{ints}
use Rattle.std.proofs.lemmas.List.{length-append, length-map}
use Rattle.std.specs.List.{AllZip, AllByRecursion}
use Rattle.toml.specs.Data.{Members}
use Rattle.sdl_signal.specs.Names.{IsName}
use Rattle.sdl_structure_parts.specs.declared.parts.Channel.{Channel}
use Rattle.sdl_structure_parts.specs.declared.parts.Owner.TheVariants as owner
use Rattle.sdl_structure_parts.specs.declared.parts.Scope.{Scope}
use Rattle.sdl_structure_parts.specs.declared.parts.Scope.TheVariants as scope
use Rattle.sdl_structure_tables.specs.declared.place.Key.TheVariants as key
use Rattle.sdl_structure_tables.specs.declared.place.Part.TheVariants as part
use Rattle.sdl_structure.specs.declared.reading.draft.Draft.{Draft}
use Rattle.sdl_structure_tables.specs.declared.walk.Walk.{Walk}
use Rattle.sdl_structure_parts.specs.Structure.{Structure, HasLegalNames}
use Rattle.sdl_structure_tables.specs.declared.version.Version.{Version}
use Rattle.sdl_structure_tables.specs.declared.version.Version.TheVariants.{One, Two}
use Rattle.sdl_structure_tables.specs.Versions.{most_blocks, version_said}
use Rattle.sdl_structure_tables.specs.Tables.{integer_at, text_at, tables_at, names_of, channel_names, total, own_version}
use Rattle.sdl_structure_tables.specs.Blocks.{blocks_of, block_tables, blocks_from, leaving_of, leaving_from, left_in_all, listed_in}
use Rattle.arrayvec.specs.ArrayString.{ArrayString}
use Rattle.sdl_structure_tables.specs.Names.{IsSignalTable}
use Rattle.sdl_structure.specs.File.{IsFileOf, HasDistinctNames, ListsParts, IsWithinLimits, IsBlockTable, IsWholeBlock, IsSetTable, IsGateTable, IsChannelTable, HasGates, version_number, sets_of, owned, gates_of, channels_in, block_channels}
use Rattle.sdl_structure_tables.specs.Faults.{so_far}
use Rattle.sdl_structure_tables.specs.Walks.{file_of, own, IsHere, name_texts}
use Rattle.sdl_structure.specs.Drafts.{HasSignals, HasAgents, ComesTo, HasRead, ServesChannels, KnowsGates, entering, leaving, tables_of}
use Rattle.sdl_structure_tables.proofs.ListLemmas.{zip_length}
use Rattle.sdl_structure_tables.proofs.PlaceLemmas.{top_is}
use Rattle.sdl_structure.proofs.BlockLemmas.{zip_append, nil_after, length-block_channels, length-channel_names}
use Rattle.sdl_structure.proofs.GateLemmas.{AreEntered, system_knows}
use Rattle.sdl_structure.proofs.OrderLemmas.{listed_is_entered, total-leaving, few_from}
use Rattle.sdl_structure.proofs.DraftLemmas.{signals_kept}
use Rattle.sdl_structure.proofs.WalkLemmas.{first_of}

-- with the signals and the system's gates read, no block is
pub draft_starts : (root : Members) (d : Draft) → AllZip IsSignalTable (tables_at key.Signal root) d.signals.items → length d.signals.items ≤ 64 → AllZip (IsGateTable d.signals.items) (owned owner.System root) d.gates.items → length d.gates.items ≤ 8
    → d.blocks.items ≡ [] → d.sets.items ≡ [] → d.agent_names.items ≡ [] → d.channel_names.items ≡ [] → ComesTo root d scope.System 1 (tables_at key.Block root)
draft_starts root d signals few_signals gates few_gates blocks sets names channel_names =
    let ts = tables_at key.Block root in
    let none : 0 ≡ length d.blocks.items = sym (ap (λ xs. length xs) blocks) in
    record {
      signals = record { named = signals; few = few_signals };
      before = [];
      agents = record {
        blocks = rw blocks tt;
        sets = rw sets tt;
        gates = subst (λ xs. AllZip (IsGateTable d.signals.items) xs d.gates.items) (sym (nil_after (owned owner.System root))) gates;
        names = ap name_texts names;
        apart = subst (λ ns. AllPairs (λ a b. a ≢ b) (name_texts ns)) (sym names) (λ i j e before h. absurd (omega arith));
        few_sets = subst (λ xs. length xs ≤ 64) (sym sets) (omega arith);
        few_gates = omega (arith, few_gates);
      };
      after = [];
      blocks = ap (λ k. blocks_from (own_version root) 4 scope.System 1 k ts) none ∙ sym (nil_after (entering root d scope.System 1 ts));
      left = [];
      behind = [];
      leaves = ap (λ k. leaving_from (own_version root) 4 k ts) none ∙ sym (nil_after (leaving root d 1 ts));
      below = tt;
      names = ap name_texts channel_names;
      apart = subst (λ ns. AllPairs (λ a b. a ≢ b) (name_texts ns)) (sym channel_names) (λ i j e before h. absurd (omega arith));
      few = subst (λ xs. length xs ≤ 64) (sym channel_names) (omega arith);
      around = refl;
    }

-- the version that a file says is the one by which it is read
said : (z : ℤ) → pos 1 ≤ℤ z → z ≤ℤ pos 2 → z ≡ version_number (version_said z)
said (pos n) low high = choose (n == 2) refl
  where
    choose : (x : Bool) → (n == 2) ≡ x → pos n ≡ version_number (version_said (pos n))
    choose true e = rw e (ap pos (eqb-true n 2 e))
    choose false e =
        let other : n ≢ 2 = λ same. (let yes : (n == 2) ≡ true = eq-eqb n 2 same in cc) in
        let least : 1 ≤ n = omega (arith, ints) in
        let most : n ≤ 2 = omega (arith, ints) in
        let one : n ≡ 1 = omega (arith, least, most, λ (same : n ≡ 2). other same) in
        rw e (ap pos one)
said (negsuc n) low high = absurd (omega (arith, ints))

pub version_known : (w : Walk) (z : ℤ) → IsHere w → w.place.part ≡ part.System → integer_at key.Version (own w) ≡ Some z → pos 1 ≤ℤ z → z ≤ℤ pos 2 → integer_at key.Version (own w) ≡ Some (version_number w.version)
version_known w z here at is low high =
    let read : integer_at key.Version (file_of w) ≡ Some z = ap (integer_at key.Version) (sym (top_is w here at)) ∙ is in
    let version : w.version ≡ version_said z = here.version ∙ ap (λ o. option_map_or version_said o One) read in
    is ∙ ap Some (said z low high ∙ ap version_number (sym version))

at_most : (v : Version) → most_blocks v ≤ 64
at_most One = omega arith
at_most Two = omega arith

-- the blocks of the whole file
module _ (root : Members) (d e : Draft) (channels : List Channel) (none : length d.blocks.items ≡ 0) (read : HasRead root d scope.System 1 (tables_at key.Block root) channels e) where
  abbrev ts : List Members
  ts = tables_at key.Block root

  pub all_entered : entering root d scope.System 1 ts ≡ blocks_of root
  all_entered = ap (λ k. blocks_from (own_version root) 4 scope.System 1 k ts) none

  all_left : leaving root d 1 ts ≡ leaving_of root
  all_left = ap (λ k. leaving_from (own_version root) 4 k ts) none

  pub all_agents : HasAgents root (blocks_of root) e
  all_agents =
      let count : length (blocks_of root) ≡ length d.blocks.items + length (entering root d scope.System 1 ts) = zero_more (length (blocks_of root)) (length d.blocks.items) none ∙ ap (λ zs. length d.blocks.items + length zs) (sym all_entered) in
      subst (λ zs. HasAgents root zs e) (first_of (blocks_of root) (blocks_of root) [] (length d.blocks.items + length (entering root d scope.System 1 ts)) (sym (nil_after (blocks_of root))) count) read.agents
    where
      zero_more : (a b : ℕ) → b ≡ 0 → a ≡ b + a
      zero_more a b none = omega (arith, none)

  pub all_blocks : length e.blocks.items ≡ length (blocks_of root)
  all_blocks = zip_length IsBlockTable (blocks_of root) e.blocks.items all_agents.blocks

  -- a file has a block, and no more of them than their lists have
  pub some_blocks : (n : ℕ) → n ≡ length ts → 0 < n → e.listed_blocks ≡ n + listed_in (own_version root) (tables_of (entering root d scope.System 1 ts)) → e.listed_blocks ≤ most_blocks (own_version root)
      → (0 < length e.blocks.items) × (length e.blocks.items ≤ most_blocks (own_version root))
  some_blocks n same some counted few =
      let E = entering root d scope.System 1 ts in
      let long : length e.blocks.items ≡ length E = all_blocks ∙ ap (λ zs. length zs) (sym all_entered) in
      let most = few_from (own_version root) 4 scope.System 1 (length d.blocks.items) ts in
      let least = at_least (own_version root) 3 scope.System 1 (length d.blocks.items) ts (omega (arith, same, some)) in
      (omega (arith, least, long), omega (arith, most, long, same, counted, few))
    where
      at_least : (v : Version) (levels : ℕ) (at : Scope) (d n : ℕ) (us : List Members) → 0 < length us → 0 < length (blocks_from v (suc levels) at d n us)
      at_least v levels at d n [] some = absurd (omega arith)
      at_least v levels at d n (u ∷ us) some = omega arith

  pub all_whole : AllByRecursion (IsWholeBlock (own_version root)) (blocks_of root)
  all_whole = subst (λ zs. AllByRecursion (IsWholeBlock (own_version root)) zs) all_entered read.whole

  pub all_channels : AllZip (IsChannelTable e.signals.items e.blocks.items e.sets.items e.gates.items) (block_channels 0 (block_tables root)) channels
  all_channels =
      subst (λ k. AllZip (IsChannelTable e.signals.items e.blocks.items e.sets.items e.gates.items) (block_channels k (block_tables root)) channels) none
      (subst (λ zs. AllZip (IsChannelTable e.signals.items e.blocks.items e.sets.items e.gates.items) (block_channels (length d.blocks.items) (tables_of zs)) channels) all_entered read.channels_are)

  pub all_names : d.channel_names.items ≡ [] → name_texts e.channel_names.items ≡ channel_names (left_in_all root)
  all_names empty = read.names ∙ (ap (λ xs. name_texts xs ++ channel_names (map (λ x. x.1) (leaving root d 1 ts))) empty ∙ ap (λ zs. channel_names (map (λ x. x.1) zs)) all_left)

  -- the channels of the top table may be read
  pub top_serves : (w : Walk) → file_of w ≡ root → IsHere w → w.place.part ≡ part.System → HasSignals root d → length e.blocks.items ≤ most_blocks (own_version root) → ServesChannels root scope.System (own w) e
  top_serves w file here at signals few =
      let most = at_most (own_version root) in
      record {
        signals = signals_kept root d e read.signals signals;
        gates = subst (λ m. KnowsGates (own_version root) scope.System m e) (sym (top_is w here at ∙ file)) (system_knows (own_version root) root (blocks_of root) e all_agents entered);
        few_gates = omega (arith, all_agents.few_gates, all_agents.few_sets, few, most);
      }
    where
      entered : AreEntered (blocks_of root) scope.System (tables_at key.Block root)
      entered i u is = let (k, there) = listed_is_entered (own_version root) 3 scope.System 1 0 (tables_at key.Block root) i u is in (k, 1, there)

pub top_counted : (w : Walk) (e : Draft) → IsHere w → w.place.part ≡ part.System → name_texts e.channel_names.items ≡ channel_names (left_in_all (file_of w)) → length e.channel_names.items + length (tables_at key.Channel (own w)) ≡ so_far (file_of w) w.place.part key.Channel w.place.block
top_counted w e here at names =
    let one : length (name_texts e.channel_names.items) ≡ length e.channel_names.items = length-map e.channel_names.items (λ (n : ArrayString). Some n.bytes) in
    let count : length e.channel_names.items ≡ total key.Channel (left_in_all (file_of w)) = sym one ∙ (ap (λ zs. length zs) names ∙ length-channel_names (left_in_all (file_of w))) in
    subst (λ p. length e.channel_names.items + length (tables_at key.Channel (own w)) ≡ so_far (file_of w) p key.Channel w.place.block) (sym at)
    (ap (λ n. n + length (tables_at key.Channel (own w))) count ∙ ap (λ m. total key.Channel (left_in_all (file_of w)) + length (tables_at key.Channel m)) (top_is w here at))

-- the lists of a draft that is whole
pub lists_parts : (root : Members) (e : Draft) (s : Structure) (top inner : List Channel) → AllZip IsSignalTable (tables_at key.Signal root) e.signals.items → HasAgents root (blocks_of root) e → AllByRecursion (IsWholeBlock (own_version root)) (blocks_of root)
    → AllZip (IsChannelTable e.signals.items e.blocks.items e.sets.items e.gates.items) (block_channels 0 (block_tables root)) inner → AllZip (IsChannelTable e.signals.items e.blocks.items e.sets.items e.gates.items) (channels_in scope.System root) top
    → s.signals ≡ e.signals.items → s.blocks ≡ e.blocks.items → s.sets ≡ e.sets.items → s.gates ≡ e.gates.items → s.channels ≡ top ++ inner → ListsParts root s
lists_parts root e s top inner signals agents whole of_blocks of_top sig bl se ga ch = record {
  signals = rw sig signals;
  blocks = rw bl agents.blocks;
  whole = whole;
  sets = rw se agents.sets;
  gates = rw (sig, ga) agents.gates;
  channels = rw (sig, bl, se, ga, ch) (zip_append (IsChannelTable e.signals.items e.blocks.items e.sets.items e.gates.items) (channels_in scope.System root) top (block_channels 0 (block_tables root)) inner of_top of_blocks);
}

zip_all : {A B : Type 0} (R : A → B → Type 0) (P : B → Type 0) (xs : List A) (ys : List B) → ((x : A) (y : B) → R x y → P y) → AllZip R xs ys → All P ys
zip_all R P xs [] f z k d h = absurd (omega arith)
zip_all R P [] (y ∷ ys) f z k d h = absurd z
zip_all R P (x ∷ xs) (y ∷ ys) f z zero d h = f x y z.0
zip_all R P (x ∷ xs) (y ∷ ys) f z (suc k) d h = zip_all R P xs ys f z.1 k d (omega arith)

pub legal_names : (root : Members) (s : Structure) → IsFileOf root s → HasLegalNames s
legal_names root s file = record {
  signals = zip_all IsSignalTable (λ x. IsName x.name.bytes) (tables_at key.Signal root) s.signals (λ m x r. r.name.1) file.parts.signals;
  sets = zip_all IsSetTable (λ t. IsName t.name.bytes) (sets_of 0 (block_tables root)) s.sets (λ m t r. r.name.1) file.parts.sets;
  gates = zip_all (IsGateTable s.signals) (λ g. IsName g.name.bytes) (gates_of root (block_tables root)) s.gates (λ m g r. r.name.1) file.parts.gates;
  few_sets = omega (arith, file.limits.sets);
  few_gates = omega (arith, file.limits.gates, file.limits.sets, file.limits.blocks.1, at_most (own_version root));
}

-- the names and the limits of a file whose draft is whole
pub distinct_names : (root : Members) (d : Draft) (names : List ArrayString) → AllPairs (λ a b. a ≢ b) (names_of (tables_at key.Signal root)) → HasAgents root (blocks_of root) d → name_texts names ≡ channel_names (left_in_all root) ++ names_of (tables_at key.Channel root) → AllPairs (λ a b. a ≢ b) (name_texts names) → HasGates root → HasDistinctNames root
distinct_names root d names signals agents joined apart gates = record {
  signals = signals;
  agents = subst (λ ns. AllPairs (λ a b. a ≢ b) ns) agents.names agents.apart;
  channels = subst (λ ns. AllPairs (λ a b. a ≢ b) ns) joined apart;
  gates = gates;
}

-- the channels are as many as their names
pub few_channels : (root : Members) (s : Structure) (names : List ArrayString) → ListsParts root s → name_texts names ≡ channel_names (left_in_all root) ++ names_of (tables_at key.Channel root) → length names ≤ 64 → length s.channels ≤ 64
few_channels root s names parts joined few =
    let one : length (name_texts names) ≡ length names = length-map names (λ (n : ArrayString). Some n.bytes) in
    let both = ap (λ zs. length zs) joined ∙ length-append (channel_names (left_in_all root)) (names_of (tables_at key.Channel root)) in
    let in_blocks = length-channel_names (left_in_all root) in
    let at_top : length (names_of (tables_at key.Channel root)) ≡ length (tables_at key.Channel root) = length-map (tables_at key.Channel root) (text_at key.Name) in
    let count = zip_length (IsChannelTable s.signals s.blocks s.sets s.gates) (channels_in scope.System root ++ block_channels 0 (block_tables root)) s.channels parts.channels in
    let sum = length-append (channels_in scope.System root) (block_channels 0 (block_tables root)) in
    let top : length (channels_in scope.System root) ≡ length (tables_at key.Channel root) = length-map (tables_at key.Channel root) (λ c. (scope.System, c)) in
    let blocks = length-block_channels 0 (block_tables root) in
    let order : total key.Channel (left_in_all root) ≡ total key.Channel (block_tables root) = total-leaving (own_version root) key.Channel 4 scope.System 1 0 0 (tables_at key.Block root) in
    omega (arith, one, both, in_blocks, at_top, count, sum, top, blocks, order, few)

pub within_limits : (root : Members) (e : Draft) (s : Structure) → HasAgents root (blocks_of root) e → length e.signals.items ≤ 64 → (0 < length e.blocks.items) × (length e.blocks.items ≤ most_blocks (own_version root)) → length s.channels ≤ 64
    → s.signals ≡ e.signals.items → s.blocks ≡ e.blocks.items → s.sets ≡ e.sets.items → s.gates ≡ e.gates.items → IsWithinLimits (own_version root) s
within_limits root e s agents few_signals some few sig bl se ga = record {
  signals = subst (λ xs. length xs ≤ 64) (sym sig) few_signals;
  blocks = subst (λ xs. (0 < length xs) × (length xs ≤ most_blocks (own_version root))) (sym bl) some;
  sets = subst (λ xs. length xs ≤ 64) (sym se) agents.few_sets;
  gates = omega (arith, agents.few_gates, ap (λ xs. length xs) ga, ap (λ xs. length xs) bl, ap (λ xs. length xs) se);
  channels = few;
}
