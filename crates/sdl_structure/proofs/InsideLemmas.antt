-- A block whose sets are read, and what lies in it.
use Rattle.std.proofs.Common.{◌≡◌, ◌≢◌, ℕ, suc, ◌+◌, ◌<◌, ◌≤◌, ◌==◌, Bool, true, false, List, [], ◌∷◌, ◌++◌, map, take, length, AllPairs, Some, slice_get, refl, ap, sym, subst, ◌∙◌, ◌⊎◌, inl, inr, eqb-true, arith}
use Rattle.std.specs.List.{AllZip, AllByRecursion, before_first}
use Rattle.std.proofs.lemmas.Bool.{cases_eq}
use Rattle.std.proofs.lemmas.List.{append_assoc, length-append, length-map, map-append}
use Rattle.toml.specs.Data.{Members}
use Rattle.arrayvec.specs.ArrayString.{ArrayString}
use Rattle.sdl_structure_parts.specs.declared.parts.Block.{Block}
use Rattle.sdl_structure_parts.specs.declared.parts.Gate.{Gate}
use Rattle.sdl_structure_parts.specs.declared.parts.Channel.{Channel}
use Rattle.sdl_structure_parts.specs.declared.parts.Scope.{Scope}
use Rattle.sdl_structure_parts.specs.declared.parts.Scope.TheVariants as scope
use Rattle.sdl_structure_tables.specs.declared.version.Version.{Version}
use Rattle.sdl_structure_tables.specs.declared.version.Version.TheVariants.{One, Two}
use Rattle.sdl_structure_tables.specs.declared.place.Key.TheVariants as key
use Rattle.sdl_structure_tables.specs.declared.place.Part.TheVariants as part
use Rattle.sdl_structure_tables.specs.Keys.{keys_of}
use Rattle.sdl_structure_tables.specs.Versions.{most_blocks}
use Rattle.sdl_structure_tables.specs.Tables.{tables_at, names_of, channel_names, own_version, total, HasKindAt}
use Rattle.sdl_structure_tables.specs.Blocks.{BlockTable, blocks_of, block_tables, blocks_from, leaving_from, left_before, inner_tables, listed_in}
use Rattle.sdl_structure_tables.specs.Walks.{own, name_texts}
use Rattle.sdl_structure_tables.proofs.ListLemmas.{zip_length}
use Rattle.sdl_structure.specs.declared.reading.draft.Draft.{Draft}
use Rattle.sdl_structure.specs.File.{IsBlockTable, IsWholeBlock, IsChannelTable, channels_in, block_channels}
use Rattle.sdl_structure.specs.Drafts.{HasAgents, HasSets, ComesTo, HasRead, HasBegun, HasInside, HasKindsWithin, Grows, ServesChannels, levels_from, entering, leaving, entering_in, leaving_in, placed, tables_of}
use Rattle.sdl_structure.proofs.BlockLemmas.{zip_append, channel_names-append, channel_names-more, length-channel_names}
use Rattle.sdl_structure.proofs.GateLemmas.{AreEntered, block_knows}
use Rattle.sdl_structure.proofs.OrderLemmas.{within, get_behind, get_right, all_append, all_weaker, from-nothing, left_within, before_number, listed_is_entered, listed_before, few_from}
use Rattle.sdl_structure.proofs.DraftLemmas.{IsBegun, agents_stay, signals_kept, grows_on, grows_none, grows_begun}
use Rattle.sdl_structure.proofs.WalkLemmas.{one_entered, one_left, deeper, first_of, begun_blocks, comes_inside, none_read}

-- what is left before a block
not_same : (a b : ℕ) → a ≢ b → (a == b) ≡ false
not_same a b other = choose (a == b) refl
  where
    choose : (x : Bool) → (a == b) ≡ x → (a == b) ≡ false
    choose true e = absurd (other (eqb-true a b e))
    choose false e = e

pub left_is : (root : Members) (d : Draft) (b depth : ℕ) (t : Members) (begun : HasBegun root d b depth t) → left_before root b ≡ map (λ x. x.1) (begun.left ++ leaving_in root b depth t)
left_is root d b depth t begun =
    let v = own_version root in
    let L = leaving_in root b depth t in
    let P : ℕ × Members → Type 0 = λ x. (x.0 == b) ≡ false in
    let all = all_append P begun.left L
    (all_weaker (λ x. x.0 < b) P begun.left (λ x h. not_same x.0 b (λ same. absurd (omega (arith, h, same)))) begun.below)
    (all_weaker (λ x. (b + 1 ≤ x.0) × (x.0 < b + 1 + length (blocks_from v (levels_from (depth + 1)) scope.System 0 0 (inner_tables v t)))) P L (λ x h. not_same x.0 b (λ same. absurd (omega (arith, h.0, same)))) (left_within v (levels_from (depth + 1)) (b + 1) (inner_tables v t))) in
    ap (λ xs. map (λ x. x.1) xs)
    (ap (λ xs. before_first (λ x. x.0 == b) xs) (begun.leaves ∙ sym (append_assoc begun.left L ((b, t) ∷ begun.behind))) ∙ before_number b t (begun.left ++ L) begun.behind all)

-- a block of which all is read but its channels
module _ (root : Members) (m e : Draft) (b depth : ℕ) (t : Members) (inner : List Channel) (begun : HasBegun root m b depth t) (inside : HasInside root m b depth t inner e) where
  abbrev ver : Version
  ver = own_version root

  abbrev B : List BlockTable
  B = entering_in root b depth t

  abbrev L : List (ℕ × Members)
  L = leaving_in root b depth t

  abbrev p : BlockTable
  p = placed begun.at depth t

  abbrev ts : List Members
  ts = inner_tables ver t

  between_blocks : length inside.between.blocks.items ≡ b + 1
  between_blocks = ap (λ (x : Draft). length x.blocks.items) inside.frame ∙ begun_blocks root m b depth t begun

  inside_entering : entering root inside.between (within b) (depth + 1) ts ≡ B
  inside_entering = ap (λ k. blocks_from ver (levels_from (depth + 1)) (within b) (depth + 1) k ts) between_blocks

  inside_leaving : leaving root inside.between (depth + 1) ts ≡ L
  inside_leaving = ap (λ k. leaving_from ver (levels_from (depth + 1)) k ts) between_blocks

  all_first : blocks_of root ≡ (begun.before ++ p ∷ B) ++ begun.after
  all_first = begun.blocks ∙ sym (append_assoc begun.before (p ∷ B) begun.after)

  long_first : length (begun.before ++ p ∷ B) ≡ b + 1 + length B
  long_first = length-append begun.before (p ∷ B) ∙ sums (length begun.before) b (length B) begun.number
    where
      sums : (a b c : ℕ) → a ≡ b → a + suc c ≡ b + 1 + c
      sums a b c e = omega (arith, e)

  pub inside_agents : HasAgents root (begun.before ++ p ∷ B) e
  inside_agents =
      let count : length inside.between.blocks.items + length (entering root inside.between (within b) (depth + 1) ts) ≡ b + 1 + length B = ap (λ zs. length inside.between.blocks.items + length zs) inside_entering ∙ ap (λ k. k + length B) between_blocks in
      subst (λ zs. HasAgents root zs e) (first_of (blocks_of root) (begun.before ++ p ∷ B) begun.after (b + 1 + length B) all_first long_first) (subst (λ k. HasAgents root (take k (blocks_of root)) e) count inside.read.agents)

  pub inside_blocks : length e.blocks.items ≡ b + 1 + length B
  inside_blocks = zip_length IsBlockTable (begun.before ++ p ∷ B) e.blocks.items inside_agents.blocks ∙ long_first

  inside_signals : e.signals ≡ m.signals
  inside_signals = inside.read.signals ∙ ap (λ (x : Draft). x.signals) inside.frame

  pub inside_names : name_texts e.channel_names.items ≡ channel_names (left_before root b)
  inside_names =
      inside.read.names ∙ (ap (λ z. z ++ channel_names (map (λ x. x.1) (leaving root inside.between (depth + 1) ts))) (ap (λ (x : Draft). name_texts x.channel_names.items) inside.frame ∙ begun.names)
      ∙ (ap (λ zs. channel_names (map (λ x. x.1) begun.left) ++ channel_names (map (λ x. x.1) zs)) inside_leaving
      ∙ (sym (channel_names-append (map (λ x. x.1) begun.left) (map (λ x. x.1) L)) ∙ ap (λ us. channel_names us) (sym (map-append (λ (x : ℕ × Members). x.1) begun.left L) ∙ sym (left_is root m b depth t begun)))))

  -- the channels so far, with those of the block
  pub inside_counted : (k : ℕ) → length e.channel_names.items + k ≡ total key.Channel (left_before root b) + k
  inside_counted k =
      let one : length (name_texts e.channel_names.items) ≡ length e.channel_names.items = length-map e.channel_names.items (λ (n : ArrayString). Some n.bytes) in
      ap (λ j. j + k) (sym one ∙ (ap (λ zs. length zs) inside_names ∙ length-channel_names (left_before root b)))

  entered_all : (depth ≡ 4 → ts ≡ []) → depth ≤ 4 → AreEntered (begun.before ++ p ∷ B) (within b) ts
  entered_all deepest shallow i u at = choose (cases_eq depth 4)
    where
      below : depth ≢ 4 → levels_from (depth + 1) ≡ suc (levels_from (depth + 2))
      below other = omega (arith, shallow, λ (e : depth ≡ 4). other e)

      nothing : {A : Type 0} (us : List A) (x : A) → us ≡ [] → slice_get us i ≡ Some x → ⊥
      nothing [] x e h = cc
      nothing (y ∷ us) x e h = cc

      found : (under : ℕ) → levels_from (depth + 1) ≡ suc under → (k : ℕ) × (deep : ℕ) × (slice_get (begun.before ++ p ∷ B) k ≡ Some (placed (within b) deep u))
      found under is =
          let (k, there) = listed_is_entered ver under (within b) (depth + 1) (b + 1) ts i u at in
          let in_block : slice_get B k ≡ Some (placed (within b) (depth + 1) u) = ap (λ l. slice_get (blocks_from ver l (within b) (depth + 1) (b + 1) ts) k) is ∙ there in
          (length begun.before + suc k, depth + 1, get_right begun.before (p ∷ B) (suc k) (placed (within b) (depth + 1) u) in_block)

      choose : (depth ≡ 4) ⊎ (depth ≢ 4) → (k : ℕ) × (deep : ℕ) × (slice_get (begun.before ++ p ∷ B) k ≡ Some (placed (within b) deep u))
      choose (inl e) = absurd (nothing ts u (deepest e) at)
      choose (inr other) = found (levels_from (depth + 2)) (below other)

  pub inside_serves : (depth ≡ 4 → ts ≡ []) → depth ≤ 4 → m.listed_blocks ≡ length (tables_at key.Block root) + listed_in ver (take b (block_tables root)) → e.listed_blocks ≡ m.listed_blocks + length ts + listed_in ver (tables_of B) → e.listed_blocks ≤ most_blocks ver
      → ServesChannels root (within b) t e
  inside_serves deepest shallow was counted few =
      let here : slice_get (begun.before ++ p ∷ B) b ≡ Some p = ap (λ k. slice_get (begun.before ++ p ∷ B) k) (sym begun.number) ∙ get_behind begun.before p B in
      let blocks = ap (λ zs. length zs) all_first ∙ length-append (begun.before ++ p ∷ B) begun.after in
      let inside_all : b < length (blocks_of root) = omega (arith, blocks, long_first) in
      let one = listed_before ver 4 scope.System 1 0 (tables_at key.Block root) b inside_all in
      let others = few_from ver (levels_from (depth + 1)) (within b) (depth + 1) (b + 1) ts in
      let most = at_most ver in
      record {
        signals = signals_kept root m e inside_signals begun.signals;
        gates = block_knows ver root (begun.before ++ p ∷ B) b p e inside_agents here (entered_all deepest shallow);
        few_gates = omega (arith, inside_agents.few_gates, inside_agents.few_sets, inside_blocks, one, others, most, was, counted, few);
      }
    where
      at_most : (v : Version) → most_blocks v ≤ 64
      at_most One = omega arith
      at_most Two = omega arith

-- a block is read, with all that lies in it
pub block_read : (root : Members) (d m e f : Draft) (at : Scope) (depth : ℕ) (t : Members) (block : Block) (gates : List Gate) (own inner : List Channel) → depth ≤ 4 → HasBegun root m (length d.blocks.items) depth t → IsBegun (length d.blocks.items) t block gates d m
    → HasInside root m (length d.blocks.items) depth t inner e → IsWholeBlock (own_version root) (placed at depth t) → f ≡ record e { channel_names = f.channel_names }
    → AllZip (IsChannelTable e.signals.items e.blocks.items e.sets.items e.gates.items) (channels_in (within (length d.blocks.items)) t) own
    → name_texts f.channel_names.items ≡ channel_names (left_before root (length d.blocks.items)) ++ names_of (tables_at key.Channel t) → AllPairs (λ a b. a ≢ b) (name_texts f.channel_names.items) → length f.channel_names.items ≤ 64
    → HasRead root d at depth (t ∷ []) (own ++ inner) f
block_read root d m e f at depth t block gates own inner shallow has begun inside whole frame channels names apart few =
    let v = own_version root in
    let n : ℕ = length d.blocks.items in
    let B = entering_in root n depth t in
    let L = leaving_in root n depth t in
    let all = has.before ++ placed has.at depth t ∷ B in
    let entered : entering root d at depth (t ∷ []) ≡ placed at depth t ∷ B = one_entered root d at depth t shallow in
    let left : leaving root d depth (t ∷ []) ≡ L ++ (n, t) ∷ [] = one_left v (levels_from depth) (levels_from (depth + 1)) n t (deeper depth shallow) in
    let between = between_blocks root m e n depth t inner has inside in
    let inner_entered = inside_entering root m e n depth t inner has inside in
    let agents = inside_agents root m e n depth t inner has inside in
    let wider : f ≡ record e { channel_names = f.channel_names; listed_blocks = f.listed_blocks } = frame ∙ ap (λ k. record e { channel_names = f.channel_names; listed_blocks = k }) (sym (ap (λ (x : Draft). x.listed_blocks) frame)) in
    let count : n + length (entering root d at depth (t ∷ [])) ≡ n + 1 + length B = ap (λ zs. n + length zs) entered ∙ sums n (length B) in
    let first : take (n + length (entering root d at depth (t ∷ []))) (blocks_of root) ≡ all =
    ap (λ k. take k (blocks_of root)) count ∙ first_of (blocks_of root) all has.after (n + 1 + length B) (all_first root m e n depth t inner has inside) (long_first root m e n depth t inner has inside) in
    let inner_channels : AllZip (IsChannelTable e.signals.items e.blocks.items e.sets.items e.gates.items) (block_channels (n + 1) (tables_of B)) inner =
    subst (λ k. AllZip (IsChannelTable e.signals.items e.blocks.items e.sets.items e.gates.items) (block_channels k (tables_of B)) inner) between
    (subst (λ zs. AllZip (IsChannelTable e.signals.items e.blocks.items e.sets.items e.gates.items) (block_channels (length inside.between.blocks.items) (tables_of zs)) inner) inner_entered inside.read.channels_are) in
    let both = zip_append (IsChannelTable e.signals.items e.blocks.items e.sets.items e.gates.items) (channels_in (within n) t) own (block_channels (n + 1) (tables_of B)) inner channels inner_channels in
    let started : name_texts d.channel_names.items ≡ channel_names (map (λ x. x.1) has.left) = sym (ap (λ v. name_texts v.items) begun.channel_names_are) ∙ has.names in
    record {
      agents = subst (λ zs. HasAgents root zs f) (sym first) (agents_stay root all e f wider agents);
      whole = subst (λ zs. AllByRecursion (IsWholeBlock v) zs) (sym entered) (whole, subst (λ zs. AllByRecursion (IsWholeBlock v) zs) inner_entered inside.read.whole);
      channels_are = subst (λ zs. AllZip (IsChannelTable f.signals.items f.blocks.items f.sets.items f.gates.items) (block_channels n (tables_of zs)) (own ++ inner)) (sym entered)
          (subst (λ (x : Draft). AllZip (IsChannelTable x.signals.items x.blocks.items x.sets.items x.gates.items) (block_channels n (t ∷ tables_of B)) (own ++ inner)) (sym frame) both);
      names = names ∙ (ap (λ us. channel_names us ++ names_of (tables_at key.Channel t)) (left_is root m n depth t has ∙ map-append (λ (x : ℕ × Members). x.1) has.left L)
          ∙ (ap (λ z. z ++ names_of (tables_at key.Channel t)) (channel_names-append (map (λ x. x.1) has.left) (map (λ x. x.1) L))
          ∙ (append_assoc (channel_names (map (λ x. x.1) has.left)) (channel_names (map (λ x. x.1) L)) (names_of (tables_at key.Channel t))
          ∙ (ap (λ z. channel_names (map (λ x. x.1) has.left) ++ z) (sym (channel_names-more (map (λ x. x.1) L) t) ∙ ap (λ us. channel_names us) (sym (map-append (λ (x : ℕ × Members). x.1) L ((n, t) ∷ [])) ∙ ap (λ zs. map (λ x. x.1) zs) (sym left)))
          ∙ ap (λ z. z ++ channel_names (map (λ x. x.1) (leaving root d depth (t ∷ [])))) (sym started)))));
      apart = apart;
      few = few;
      signals = ap (λ (x : Draft). x.signals) frame ∙ (inside.read.signals ∙ (ap (λ (x : Draft). x.signals) inside.frame ∙ begun.signals_are));
      grows = grows_on d m f (grows_begun n t block gates d m begun) (grows_on m inside.between f inside.grows
          (grows_on inside.between e f inside.read.grows (grows_none e f (ap (λ (x : Draft). x.blocks) frame) (ap (λ (x : Draft). x.sets) frame) (ap (λ (x : Draft). x.gates) frame))));
    }
  where
    sums : (n b : ℕ) → n + suc b ≡ n + 1 + b
    sums n b = omega arith

-- what stands at the keys of a block's table is of its kind
pub block_kinds : (v : Version) (t : Members) → HasKindAt t key.Name → HasKindAt t key.Gate → HasKindsWithin v t → HasKindAt t key.Channel → AllByRecursion (HasKindAt t) (keys_of v part.Block)
block_kinds One t name gate within channel = (name, (gate, (within, (channel, tt))))
block_kinds Two t name gate within channel = (name, (gate, (within.0, (within.1, (channel, tt)))))

-- what lies in a block, in each version
module _ (root : Members) (m e : Draft) (b depth : ℕ) (t : Members) (begun : HasBegun root m b depth t) (sets : HasSets root (take b (block_tables root)) t (tables_at key.Set t) e) (few : length e.sets.items ≤ 64) (grows : Grows m e)
    (frame : e ≡ record m { sets = e.sets; gates = e.gates; agent_names = e.agent_names }) where
  inside_comes : ComesTo root e (within b) (depth + 1) (inner_tables (own_version root) t)
  inside_comes = comes_inside root m e b depth t begun sets few frame

  pub read_one : own_version root ≡ One → HasInside root m b depth t [] e
  read_one one =
      let none : inner_tables (own_version root) t ≡ [] = ap (λ v. inner_tables v t) one in
      record {
        between = e;
        sets = sets;
        few_sets = few;
        grows = grows;
        frame = frame;
        read = subst (λ us. HasRead root e (within b) (depth + 1) us [] e) (sym none) (none_read root e e (within b) (depth + 1) (inner_tables (own_version root) t) inside_comes refl);
      }

  pub counted_one : own_version root ≡ One → listed_in (own_version root) (tables_of (entering_in root b depth t)) ≡ 0
  counted_one one =
      let none : inner_tables (own_version root) t ≡ [] = ap (λ v. inner_tables v t) one in
      ap (λ us. listed_in (own_version root) (tables_of (blocks_from (own_version root) (levels_from (depth + 1)) (within b) (depth + 1) (b + 1) us))) none
      ∙ ap (λ zs. listed_in (own_version root) (tables_of zs)) (from-nothing (own_version root) (levels_from (depth + 1)) (within b) (depth + 1) (b + 1))

  pub comes_two : own_version root ≡ Two → ComesTo root e (within b) (depth + 1) (tables_at key.Block t)
  comes_two two = subst (λ us. ComesTo root e (within b) (depth + 1) us) (ap (λ v. inner_tables v t) two) inside_comes

  pub read_two : (f : Draft) (channels : List Channel) → own_version root ≡ Two → HasRead root e (within b) (depth + 1) (tables_at key.Block t) channels f → HasInside root m b depth t channels f
  read_two f channels two read = record {
    between = e;
    sets = sets;
    few_sets = few;
    grows = grows;
    frame = frame;
    read = subst (λ us. HasRead root e (within b) (depth + 1) us channels f) (sym (ap (λ v. inner_tables v t) two)) read;
  }

  pub blocks_two : length e.blocks.items ≡ b + 1
  blocks_two = ap (λ (x : Draft). length x.blocks.items) frame ∙ begun_blocks root m b depth t begun

  pub entered_two : own_version root ≡ Two → entering root e (within b) (depth + 1) (tables_at key.Block t) ≡ entering_in root b depth t
  entered_two two =
      ap (λ k. blocks_from (own_version root) (levels_from (depth + 1)) (within b) (depth + 1) k (tables_at key.Block t)) blocks_two
      ∙ ap (λ us. blocks_from (own_version root) (levels_from (depth + 1)) (within b) (depth + 1) (b + 1) us) (sym (ap (λ v. inner_tables v t) two))
