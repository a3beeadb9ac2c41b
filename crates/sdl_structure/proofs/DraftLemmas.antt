-- The draft as the walk goes on: one more set, one more block.
use Rattle.std.proofs.Common.{◌≡◌, ◌≢◌, ℕ, zero, suc, ◌+◌, ◌<◌, ◌≤◌, List, [], ◌∷◌, ◌++◌, length, take, get_or, map, All, AllPairs, true, Option, Some, None, IsSomeAnd, slice_get, refl, sym, ap, subst, inl, inr, ◌∙◌, arith}
use Rattle.std.proofs.lemmas.List.{append_assoc, length-append, length-map, map-append}
use Rattle.std.proofs.lemmas.Slice.Zip.{all_zipped_more}
use Rattle.std.specs.List.{AllZip}
use Rattle.toml.specs.Data.{Data, Members, no_members, as_str}
use Rattle.toml.specs.View.{view}
use Rattle.toml.specs.declared.value.Value.{Value}
use Rattle.sdl_structure_parts.specs.declared.parts.SignalDecl.{SignalDecl}
use Rattle.sdl_structure_parts.specs.declared.parts.Block.{Block}
use Rattle.sdl_structure_parts.specs.declared.parts.Set.{Set}
use Rattle.sdl_structure_parts.specs.declared.parts.Gate.{Gate}
use Rattle.sdl_structure_parts.specs.declared.parts.Channel.{Channel}
use Rattle.sdl_structure_parts.specs.declared.parts.End.{End}
use Rattle.sdl_structure_parts.specs.declared.parts.Owner.{Owner}
use Rattle.sdl_structure_parts.specs.declared.parts.Owner.TheVariants as owner
use Rattle.sdl_structure_parts.specs.declared.parts.Scope.{Scope}
use Rattle.sdl_structure_parts.specs.declared.parts.Scope.TheVariants as scope
use Rattle.sdl_structure_tables.specs.declared.place.Key.TheVariants as key
use Rattle.sdl_structure_tables.specs.declared.place.Part.{Part}
use Rattle.sdl_structure_tables.specs.declared.place.Part.TheVariants as part
use Rattle.sdl_structure_tables.specs.declared.version.Version.{Version}
use Rattle.sdl_structure_tables.specs.declared.version.Version.TheVariants.{One, Two}
use Rattle.sdl_structure_tables.specs.declared.place.Place.{Place}
use Rattle.sdl_structure_tables.specs.declared.fault.FileFault.TheVariants as fault
use Rattle.sdl_structure.specs.declared.reading.draft.Draft.{Draft}
use Rattle.sdl_structure_tables.specs.declared.walk.Walk.{Walk}
use Rattle.sdl_structure_tables.specs.Keys.{is_key, needs_some}
use Rattle.sdl_structure_tables.specs.Versions.{most_blocks}
use Rattle.sdl_structure_tables.specs.Tables.{text_at, elements_at, tables_at, names_of, agent_names, total, HasKindAt}
use Rattle.sdl_structure_tables.specs.Blocks.{BlockTable, blocks_of, block_tables, inner_tables, listed_in}
use Rattle.sdl_structure_tables.specs.Places.{table_at, IsPlace, block_place, inside, names_before}
use Rattle.sdl_structure.specs.File.{IsBlockTable, IsSetTable, IsGateTable, IsChannelTable, IsAgent, NamesEnd, sets_of, owned, set_gates, block_gates, gates_of}
use Rattle.sdl_structure_tables.specs.Faults.{IsBroken, IsDeepest, so_far}
use Rattle.sdl_structure_tables.specs.Walks.{file_of, own, IsHere, name_texts}
use Rattle.sdl_structure.specs.Drafts.{HasSignals, HasAgents, HasSets, IsSetRead, Grows, tables_of}
use Rattle.sdl_structure_tables.proofs.FaultLemmas.{breaks}
use Rattle.sdl_structure_tables.proofs.PlaceLemmas.{before_set}
use Rattle.sdl_structure_tables.proofs.ListLemmas.{zip_length, name_texts-more, names_of-more, apart-more}
use Rattle.sdl_structure.proofs.LimitRules.{length_tables, no_elements}
use Rattle.sdl_structure.proofs.BlockLemmas.{zip_append, sets_of-more, set_gates-more, block_gates-more, agent_names-more, total-more, length-sets_of, take_next, nil_after}

-- the table of a block, and the blocks before it
pub block_within : (w : Walk) (b : ℕ) → IsHere w → w.place ≡ block_place b → b < length (block_tables (file_of w))
block_within w b here at = (subst (λ p. IsPlace (file_of w) p) at here.place).0

pub block_is : (w : Walk) (b : ℕ) → IsHere w → w.place ≡ block_place b → get_or (block_tables (file_of w)) b no_members ≡ own w
block_is w b here at = sym (ap (λ p. table_at (file_of w) p) at) ∙ here.table

pub blocks_next : (w : Walk) (b : ℕ) → IsHere w → w.place ≡ block_place b → take (b + 1) (block_tables (file_of w)) ≡ take b (block_tables (file_of w)) ++ own w ∷ []
blocks_next w b here at =
    take_next (block_tables (file_of w)) b (block_within w b here at) ∙ ap (λ t. take b (block_tables (file_of w)) ++ t ∷ []) (block_is w b here at)

length_first : (ts : List Members) (b : ℕ) → b < length ts → length (take b ts) ≡ b
length_first [] b h = absurd (omega arith)
length_first (t ∷ ts) zero h = refl
length_first (t ∷ ts) (suc b) h = ap suc (length_first ts b (omega arith))

pub length_before : (w : Walk) (b : ℕ) → IsHere w → w.place ≡ block_place b → length (take b (block_tables (file_of w))) ≡ b
length_before w b here at = length_first (block_tables (file_of w)) b (block_within w b here at)

-- the place of a block is one of its part
pub block_part : (w : Walk) (b : ℕ) → w.place ≡ block_place b → w.place.part ≡ part.Block
block_part w b at = ap (λ (p : Place). p.part) at

pub block_number : (w : Walk) (b : ℕ) → w.place ≡ block_place b → w.place.block ≡ b
block_number w b at = ap (λ (p : Place). p.block) at

map_more : {A B : Type 0} (f : A → B) (xs : List A) (x : A) → map f (xs ++ x ∷ []) ≡ map f xs ++ f x ∷ []
map_more f [] x = refl
map_more f (y ∷ xs) x = ap (λ z. f y ∷ z) (map_more f xs x)

map_length : {A B : Type 0} (f : A → B) (xs : List A) → length (map f xs) ≡ length xs
map_length f [] = refl
map_length f (x ∷ xs) = ap suc (map_length f xs)

-- one more set of the block is read
pub set_joins : (root : Members) (T : List Members) (t : Members) (us : List Members) (u : Members) (d e : Draft) → HasSets root T t us d → IsSetRead (length T) d u e → e ≡ record d { sets = e.sets; gates = e.gates; agent_names = e.agent_names } → HasSets root T t (us ++ u ∷ []) e
set_joins root T t us u d e has read frame = record {
  sets = subst (λ ys. AllZip IsSetTable (sets_of 0 T ++ map (λ u. (length T, u)) (us ++ u ∷ [])) ys) (sym read.sets_are) (subst (λ xs. AllZip IsSetTable xs (d.sets.items ++ read.set ∷ [])) set_entries (all_zipped_more IsSetTable (sets_of 0 T ++ map (λ u. (length T, u)) us) d.sets.items (length T, u) read.set has.sets read.table));
  gates = subst (λ ys. AllZip (IsGateTable e.signals.items) ((gates_of root T ++ owned (owner.Block (record { 0 = length T })) t) ++ set_gates (length (sets_of 0 T)) (us ++ u ∷ [])) ys) (sym read.gates_are) (subst (λ ss. AllZip (IsGateTable ss) ((gates_of root T ++ owned (owner.Block (record { 0 = length T })) t) ++ set_gates (length (sets_of 0 T)) (us ++ u ∷ [])) (d.gates.items ++ read.gates)) same_signals (subst (λ xs. AllZip (IsGateTable d.signals.items) xs (d.gates.items ++ read.gates)) gate_entries (zip_append (IsGateTable d.signals.items) ((gates_of root T ++ owned (owner.Block (record { 0 = length T })) t) ++ set_gates (length (sets_of 0 T)) us) d.gates.items (owned (owner.Set (record { 0 = length d.sets.items })) u) read.gates has.gates read.gate_tables)));
  names = ap name_texts read.names_are ∙ name_texts-more d.agent_names.items read.set.name ∙ ap (λ z. z ++ Some read.set.name.bytes ∷ []) has.names ∙ ap (λ o. (agent_names T ++ text_at key.Name t ∷ names_of us) ++ o ∷ []) (sym read.table.name.0) ∙ append_assoc (agent_names T) (text_at key.Name t ∷ names_of us) (text_at key.Name u ∷ []) ∙ ap (λ z. agent_names T ++ text_at key.Name t ∷ z) (sym (names_of-more us u));
  apart = subst (λ ns. AllPairs (λ a b. a ≢ b) (name_texts ns)) (sym read.names_are) (apart-more d.agent_names.items read.set.name has.apart read.apart);
  few_gates = omega (arith, has.few_gates, read.few, gate_count, set_count, block_count);
}
  where
    set_entries : (sets_of 0 T ++ map (λ u. (length T, u)) us) ++ (length T, u) ∷ [] ≡ sets_of 0 T ++ map (λ u. (length T, u)) (us ++ u ∷ [])
    set_entries = append_assoc (sets_of 0 T) (map (λ u. (length T, u)) us) ((length T, u) ∷ []) ∙ ap (λ z. sets_of 0 T ++ z) (sym (map_more (λ u. (length T, u)) us u))

    number : length d.sets.items ≡ length (sets_of 0 T) + length us
    number = zip_length IsSetTable (sets_of 0 T ++ map (λ u. (length T, u)) us) d.sets.items has.sets ∙ length-append (sets_of 0 T) (map (λ u. (length T, u)) us) ∙ ap (λ k. length (sets_of 0 T) + k) (map_length (λ u. (length T, u)) us)

    gate_entries : ((gates_of root T ++ owned (owner.Block (record { 0 = length T })) t) ++ set_gates (length (sets_of 0 T)) us) ++ owned (owner.Set (record { 0 = length d.sets.items })) u ≡ (gates_of root T ++ owned (owner.Block (record { 0 = length T })) t) ++ set_gates (length (sets_of 0 T)) (us ++ u ∷ [])
    gate_entries = ap (λ k. ((gates_of root T ++ owned (owner.Block (record { 0 = length T })) t) ++ set_gates (length (sets_of 0 T)) us) ++ owned (owner.Set (record { 0 = k })) u) number ∙ append_assoc (gates_of root T ++ owned (owner.Block (record { 0 = length T })) t) (set_gates (length (sets_of 0 T)) us) (owned (owner.Set (record { 0 = length (sets_of 0 T) + length us })) u) ∙ ap (λ z. (gates_of root T ++ owned (owner.Block (record { 0 = length T })) t) ++ z) (sym (set_gates-more (length (sets_of 0 T)) us u))

    same_signals : d.signals.items ≡ e.signals.items
    same_signals = sym (ap (λ (x : Draft). x.signals.items) frame)

    gate_count : length e.gates.items ≡ length d.gates.items + length read.gates
    gate_count = ap (λ xs. length xs) read.gates_are ∙ length-append d.gates.items read.gates

    set_count : length e.sets.items ≡ length d.sets.items + 1
    set_count = ap (λ xs. length xs) read.sets_are ∙ length-append d.sets.items (read.set ∷ [])

    block_count : length e.blocks.items ≡ length d.blocks.items
    block_count = ap (λ (x : Draft). length x.blocks.items) frame

-- a block's table may have these lists
pub block_lists_sets : (v : Version) (q : Part) → q ≡ part.Block → is_key v q key.Set ≡ true
block_lists_sets One q e = ap (λ p. is_key One p key.Set) e
block_lists_sets Two q e = ap (λ p. is_key Two p key.Set) e

pub block_lists_gates : (v : Version) (q : Part) → q ≡ part.Block → is_key v q key.Gate ≡ true
block_lists_gates One q e = ap (λ p. is_key One p key.Gate) e
block_lists_gates Two q e = ap (λ p. is_key Two p key.Gate) e

pub block_lists_blocks : (v : Version) (q : Part) → v ≡ Two → q ≡ part.Block → is_key v q key.Block ≡ true
block_lists_blocks One q second e = cc
block_lists_blocks Two q second e = ap (λ p. is_key Two p key.Block) e

pub block_has_name : (v : Version) (q : Part) → q ≡ part.Block → is_key v q key.Name ≡ true
block_has_name One q e = ap (λ p. is_key One p key.Name) e
block_has_name Two q e = ap (λ p. is_key Two p key.Name) e

-- the place of a set in a block's list, and the names before it
pub set_part : (w u : Walk) (b i : ℕ) → w.place ≡ block_place b → u.place ≡ inside w.place key.Set i → u.place.part ≡ part.Set
set_part w u b i at place = ap (λ (p : Place). p.part) place ∙ ap (λ (p : Place). (inside p key.Set i).part) at

pub set_before : (w u : Walk) (b i : ℕ) (ts : List Members) → IsHere w → w.place ≡ block_place b → file_of u ≡ file_of w → u.place ≡ inside w.place key.Set i → tables_at key.Set (own w) ≡ ts
    → names_before (file_of u) u.place ≡ agent_names (take b (block_tables (file_of w))) ++ text_at key.Name (own w) ∷ names_of (take i ts)
set_before w u b i ts here at file place held =
    before_set w u i ts here (block_part w b at) file place held ∙ ap (λ k. agent_names (take k (block_tables (file_of w))) ++ text_at key.Name (own w) ∷ names_of (take i ts)) (block_number w b at)

-- the sets so far are over their limit
pub too_many_sets : (w : Walk) (q : Place) (b : ℕ) (d : Draft) → IsHere w → w.place ≡ block_place b → q ≡ record w.place { key = key.Set } → HasSets (file_of w) (take b (block_tables (file_of w))) (own w) [] d → 64 < length d.sets.items + length (tables_at key.Set (own w)) → IsBroken (file_of w) (fault.TooMany q)
too_many_sets w q b d here at e has over = breaks w q key.Set _ here (block_lists_sets w.version w.place.part (block_part w b at)) e
    (inr (inl (inl (inr refl), subst (λ (p : Place). 64 < so_far (file_of w) p.part key.Set p.block) (sym at) (subst (λ ts. 64 < total key.Set ts) (sym (blocks_next w b here at)) (omega (arith, over, count, total-more key.Set (take b (block_tables (file_of w))) (own w)))))))
  where
    count : length d.sets.items ≡ total key.Set (take b (block_tables (file_of w)))
    count = zip_length IsSetTable (sets_of 0 (take b (block_tables (file_of w))) ++ []) d.sets.items has.sets ∙ ap (λ xs. length xs) (nil_after (sets_of 0 (take b (block_tables (file_of w))))) ∙ length-sets_of 0 (take b (block_tables (file_of w)))

-- the blocks so far, up to the list of a block
pub blocks_so_far : (w : Walk) (b : ℕ) → IsHere w → w.place ≡ block_place b → so_far (file_of w) w.place.part key.Block w.place.block ≡ length (tables_at key.Block (file_of w)) + listed_in w.version (take (b + 1) (block_tables (file_of w)))
blocks_so_far w b here at =
    ap (λ (p : Place). so_far (file_of w) p.part key.Block p.block) at ∙ ap (λ v. length (tables_at key.Block (file_of w)) + listed_in v (take (b + 1) (block_tables (file_of w)))) (sym here.version)

listed-next : (v : Version) (ts : List Members) (t : Members) → v ≡ Two → listed_in v (ts ++ t ∷ []) ≡ listed_in v ts + length (tables_at key.Block t)
listed-next v [] t two = let a = ap (λ u. length (inner_tables u t)) two in omega (arith, a)
listed-next v (s ∷ ts) t two = let a = listed-next v ts t two in omega (arith, a)

pub listed_next : (w : Walk) (b : ℕ) → IsHere w → w.place ≡ block_place b → w.version ≡ Two → listed_in w.version (take (b + 1) (block_tables (file_of w))) ≡ listed_in w.version (take b (block_tables (file_of w))) + length (tables_at key.Block (own w))
listed_next w b here at two = ap (λ ts. listed_in w.version ts) (blocks_next w b here at) ∙ listed-next w.version (take b (block_tables (file_of w))) (own w) two

-- the blocks so far are over their limit
pub too_many_blocks : (w : Walk) (q : Place) → IsHere w → is_key w.version w.place.part key.Block ≡ true → q ≡ record w.place { key = key.Block } → most_blocks w.version < so_far (file_of w) w.place.part key.Block w.place.block → IsBroken (file_of w) (fault.TooMany q)
too_many_blocks w q here listed e over = breaks w q key.Block _ here listed e
    (inr (inl (inl (inl refl), subst (λ v. most_blocks v < so_far (file_of w) w.place.part key.Block w.place.block) here.version over)))

-- a block that lies as deep as a block may has blocks
pub too_deep : (w : Walk) (q : Place) (b depth : ℕ) (vs : List Value) → IsHere w → w.place ≡ block_place b → w.version ≡ Two → q ≡ record w.place { key = key.Block } → IsSomeAnd (slice_get (blocks_of (file_of w)) b) (λ x. x.depth ≡ depth) → depth ≡ 4
    → elements_at key.Block (own w) ≡ map view vs → 0 < length vs → IsBroken (file_of w) (fault.TooMany q)
too_deep w q b depth vs here at two e deep four held some =
    let long = ap (λ ds. length ds) held ∙ length-map vs view in
    breaks w q key.Block _ here (block_lists_blocks w.version w.place.part two (block_part w b at)) e
    (inr (inr (
      block_part w b at,
      refl,
      subst (λ (p : Place). IsDeepest (file_of w) p.block) (sym at) (subst (λ k. IsSomeAnd (slice_get (blocks_of (file_of w)) b) (λ x. x.depth ≡ k)) four deep),
      λ none. (let zero = ap (λ ds. length ds) none in absurd (omega (arith, long, some, zero))),
    )))

-- a block has neither sets nor blocks
pub neither_is_there : (w : Walk) (q : Place) (b : ℕ) (vs : List Value) → IsHere w → w.place ≡ block_place b → w.version ≡ Two → q ≡ record w.place { key = key.Block } → HasKindAt (own w) key.Set → length (tables_at key.Set (own w)) ≡ 0
    → elements_at key.Block (own w) ≡ map view vs → length vs ≡ 0 → IsBroken (file_of w) (fault.OutOfRange q)
neither_is_there w q b vs here at two e kind none held empty =
    breaks w q key.Block _ here (block_lists_blocks w.version w.place.part two (block_part w b at)) e
    (inr (inr (inl (
      block_part w b at,
      refl,
      no_elements (elements_at key.Set (own w)) (length_tables key.Set (own w) refl kind ∙ none),
      no_elements (elements_at key.Block (own w)) (ap (λ ds. length ds) held ∙ length-map vs view ∙ empty),
    ))))

pub needs_sets : (v : Version) (q : Part) → v ≡ One → q ≡ part.Block → needs_some v q key.Set ≡ true
needs_sets One q one e = ap (λ p. needs_some One p key.Set) e
needs_sets Two q one e = cc

-- a channel's ends stay when more blocks, sets and gates are read
get_more : {A : Type 0} (xs ys : List A) (i : ℕ) (P : A → Type 0) → IsSomeAnd (slice_get xs i) P → IsSomeAnd (slice_get (xs ++ ys) i) P
get_more [] ys i P h = absurd h
get_more (x ∷ xs) ys zero P h = h
get_more (x ∷ xs) ys (suc i) P h = get_more xs ys i P h

agent_stays : (bl bm : List Block) (se sf : List Set) (s : Scope) (agent : List ℕ) (o : Owner) → IsAgent bl se s agent o → IsAgent (bl ++ bm) (se ++ sf) s agent o
agent_stays bl bm se sf scope.System agent owner.System h = h
agent_stays bl bm se sf scope.System agent (owner.Block b) h = get_more bl bm b.0 _ h
agent_stays bl bm se sf scope.System agent (owner.Set t) h = h
agent_stays bl bm se sf (scope.Block b) agent owner.System h = h
agent_stays bl bm se sf (scope.Block b) agent (owner.Block c) (inl h) = inl h
agent_stays bl bm se sf (scope.Block b) agent (owner.Block c) (inr h) = inr (get_more bl bm c.0 _ h)
agent_stays bl bm se sf (scope.Block b) agent (owner.Set t) h = get_more se sf t.0 _ h

some_also : {A : Type 0} (o : Option A) (P Q : A → Type 0) → ((x : A) → P x → Q x) → IsSomeAnd o P → IsSomeAnd o Q
some_also None P Q f h = h
some_also (Some x) P Q f h = f x h

end_stays : (bl bm : List Block) (se sf : List Set) (ga gb : List Gate) (s : Scope) (d : Data) (e : End) → NamesEnd bl se ga s d e → NamesEnd (bl ++ bm) (se ++ sf) (ga ++ gb) s d e
end_stays bl bm se sf ga gb s d e h = get_more ga gb e.gate.0 _ (some_also (slice_get ga e.gate.0) _ _ (λ g k. (some_also (as_str d) _ _ (λ text r. (r.0, r.1, agent_stays bl bm se sf s _ g.owner r.2)) k.0, k.1)) h)

zip_also : {A B : Type 0} (R S : A → B → Type 0) (xs : List A) (ys : List B) → ((x : A) (y : B) → R x y → S x y) → AllZip R xs ys → AllZip S xs ys
zip_also R S [] [] f z = z
zip_also R S [] (y ∷ ys) f z = z
zip_also R S (x ∷ xs) [] f z = z
zip_also R S (x ∷ xs) (y ∷ ys) f z = (f x y z.0, zip_also R S xs ys f z.1)

pub channels_stay : (sig : List SignalDecl) (bl bm : List Block) (se sf : List Set) (ga gb : List Gate) (xs : List (Scope × Members)) (cs : List Channel) → AllZip (IsChannelTable sig bl se ga) xs cs → AllZip (IsChannelTable sig (bl ++ bm) (se ++ sf) (ga ++ gb)) xs cs
channels_stay sig bl bm se sf ga gb xs cs = zip_also (IsChannelTable sig bl se ga) (IsChannelTable sig (bl ++ bm) (se ++ sf) (ga ++ gb)) xs cs (λ x c r. record {
  shape = r.shape;
  name = r.name;
  ends = zip_also (NamesEnd bl se ga x.0) (NamesEnd (bl ++ bm) (se ++ sf) (ga ++ gb) x.0) _ _ (λ d e k. end_stays bl bm se sf ga gb x.0 d e k) r.ends;
  forth = r.forth;
  back = r.back;
  nodelay = r.nodelay;
  scope = r.scope;
})

-- a draft that grows twice grows
pub grows_on : (d e f : Draft) → Grows d e → Grows e f → Grows d f
grows_on d e f g h = record {
  blocks = g.blocks ++ h.blocks;
  sets = g.sets ++ h.sets;
  gates = g.gates ++ h.gates;
  blocks_are = h.blocks_are ∙ ap (λ z. z ++ h.blocks) g.blocks_are ∙ append_assoc d.blocks.items g.blocks h.blocks;
  sets_are = h.sets_are ∙ ap (λ z. z ++ h.sets) g.sets_are ∙ append_assoc d.sets.items g.sets h.sets;
  gates_are = h.gates_are ∙ ap (λ z. z ++ h.gates) g.gates_are ∙ append_assoc d.gates.items g.gates h.gates;
}

pub grows_none : (d e : Draft) → e.blocks ≡ d.blocks → e.sets ≡ d.sets → e.gates ≡ d.gates → Grows d e
grows_none d e blocks sets gates = record {
  blocks = [];
  sets = [];
  gates = [];
  blocks_are = ap (λ v. v.items) blocks ∙ sym (nil_after d.blocks.items);
  sets_are = ap (λ v. v.items) sets ∙ sym (nil_after d.sets.items);
  gates_are = ap (λ v. v.items) gates ∙ sym (nil_after d.gates.items);
}

pub grows_more : (d e f : Draft) (b : ℕ) (u : Members) → Grows d e → IsSetRead b e u f → f ≡ record e { sets = f.sets; gates = f.gates; agent_names = f.agent_names } → Grows d f
grows_more d e f b u g r frame = record {
  blocks = g.blocks;
  sets = g.sets ++ r.set ∷ [];
  gates = g.gates ++ r.gates;
  blocks_are = ap (λ (x : Draft). x.blocks.items) frame ∙ g.blocks_are;
  sets_are = r.sets_are ∙ ap (λ z. z ++ r.set ∷ []) g.sets_are ∙ append_assoc d.sets.items g.sets (r.set ∷ []);
  gates_are = r.gates_are ∙ ap (λ z. z ++ r.gates) g.gates_are ∙ append_assoc d.gates.items g.gates r.gates;
}

pub one_set_more : (b : ℕ) (d : Draft) (u : Members) (e : Draft) → IsSetRead b d u e → length e.sets.items ≡ length d.sets.items + 1
one_set_more b d u e r = ap (λ xs. length xs) r.sets_are ∙ length-append d.sets.items (r.set ∷ [])

pub signals_kept : (root : Members) (d f : Draft) → f.signals ≡ d.signals → HasSignals root d → HasSignals root f
signals_kept root d f same has = record { named = rw same has.named; few = rw same has.few }

-- a block has begun: its name and its gates are read
pub record IsBegun (b : ℕ) (t : Members) (block : Block) (gates : List Gate) (d e : Draft) : Type 0 where
  pub named : text_at key.Name t ≡ Some block.name.bytes
  pub apart : All (λ m. m.bytes ≢ block.name.bytes) d.agent_names.items
  pub gate_tables : AllZip (IsGateTable d.signals.items) (owned (owner.Block (record { 0 = b })) t) gates
  pub few : length gates ≤ 8
  pub signals_are : e.signals ≡ d.signals
  pub blocks_are : e.blocks.items ≡ d.blocks.items ++ block ∷ []
  pub sets_are : e.sets ≡ d.sets
  pub gates_are : e.gates.items ≡ d.gates.items ++ gates
  pub names_are : e.agent_names.items ≡ d.agent_names.items ++ block.name ∷ []
  pub channel_names_are : e.channel_names ≡ d.channel_names

pub grows_begun : (b : ℕ) (t : Members) (block : Block) (gates : List Gate) (d e : Draft) → IsBegun b t block gates d e → Grows d e
grows_begun b t block gates d e begun = record {
  blocks = block ∷ [];
  sets = [];
  gates = gates;
  blocks_are = begun.blocks_are;
  sets_are = ap (λ v. v.items) begun.sets_are ∙ sym (nil_after d.sets.items);
  gates_are = begun.gates_are;
}

pub sets_start : (root : Members) (xs : List BlockTable) (t : Members) (b : ℕ) (block : Block) (gates : List Gate) (d e : Draft) → length (tables_of xs) ≡ b → HasAgents root xs d → IsBegun b t block gates d e → HasSets root (tables_of xs) t [] e
sets_start root xs t b block gates d e long has begun =
    let T = tables_of xs in
    let gate_count : length e.gates.items ≡ length d.gates.items + length gates = ap (λ xs. length xs) begun.gates_are ∙ length-append d.gates.items gates in
    let set_count : length e.sets.items ≡ length d.sets.items = ap (λ v. length v.items) begun.sets_are in
    let block_count : length e.blocks.items ≡ length d.blocks.items + 1 = ap (λ xs. length xs) begun.blocks_are ∙ length-append d.blocks.items (block ∷ []) in
    record {
      sets = subst (λ xs. AllZip IsSetTable xs e.sets.items) (sym (nil_after (sets_of 0 T))) (subst (λ v. AllZip IsSetTable (sets_of 0 T) v.items) (sym begun.sets_are) has.sets);
      gates = subst (λ xs. AllZip (IsGateTable e.signals.items) xs e.gates.items) (sym (nil_after (gates_of root T ++ owned (owner.Block (record { 0 = length T })) t)))
          (subst (λ k. AllZip (IsGateTable e.signals.items) (gates_of root T ++ owned (owner.Block (record { 0 = k })) t) e.gates.items) (sym long)
          (subst (λ ys. AllZip (IsGateTable e.signals.items) (gates_of root T ++ owned (owner.Block (record { 0 = b })) t) ys) (sym begun.gates_are)
          (subst (λ v. AllZip (IsGateTable v.items) (gates_of root T ++ owned (owner.Block (record { 0 = b })) t) (d.gates.items ++ gates)) (sym begun.signals_are)
          (zip_append (IsGateTable d.signals.items) (gates_of root T) d.gates.items (owned (owner.Block (record { 0 = b })) t) gates has.gates begun.gate_tables))));
      names = ap name_texts begun.names_are ∙ name_texts-more d.agent_names.items block.name ∙ ap (λ z. z ++ Some block.name.bytes ∷ []) has.names ∙ ap (λ o. agent_names T ++ o ∷ []) (sym begun.named);
      apart = subst (λ ns. AllPairs (λ a b. a ≢ b) (name_texts ns)) (sym begun.names_are) (apart-more d.agent_names.items block.name has.apart begun.apart);
      few_gates = omega (arith, has.few_gates, begun.few, gate_count, set_count, block_count);
    }

from_zero : (n : ℕ) → 0 + n ≡ n
from_zero n = omega arith

-- the agents with those of a block whose sets are read
pub agents_join : (root : Members) (xs : List BlockTable) (x : BlockTable) (f : Draft) → AllZip IsBlockTable (xs ++ x ∷ []) f.blocks.items → HasSets root (tables_of xs) x.table (tables_at key.Set x.table) f → length f.sets.items ≤ 64 → HasAgents root (xs ++ x ∷ []) f
agents_join root xs x f blocks read few =
    let T = tables_of xs in
    let t = x.table in
    let tables : tables_of (xs ++ x ∷ []) ≡ T ++ t ∷ [] = map-append (λ (x : BlockTable). x.table) xs (x ∷ []) in
    let gate_entries : (gates_of root T ++ owned (owner.Block (record { 0 = length T })) t) ++ set_gates (length (sets_of 0 T)) (tables_at key.Set t) ≡ gates_of root (T ++ t ∷ []) =
    append_assoc (gates_of root T) (owned (owner.Block (record { 0 = length T })) t) (set_gates (length (sets_of 0 T)) (tables_at key.Set t))
    ∙ append_assoc (owned owner.System root) (block_gates 0 0 T) (owned (owner.Block (record { 0 = length T })) t ++ set_gates (length (sets_of 0 T)) (tables_at key.Set t))
    ∙ ap (λ z. owned owner.System root ++ z) (ap (λ k. block_gates 0 0 T ++ (owned (owner.Block (record { 0 = k })) t ++ set_gates (length (sets_of 0 T)) (tables_at key.Set t))) (sym (from_zero (length T)))
    ∙ ap (λ k. block_gates 0 0 T ++ (owned (owner.Block (record { 0 = 0 + length T })) t ++ set_gates k (tables_at key.Set t))) (length-sets_of 0 T ∙ sym (from_zero (total key.Set T)))
    ∙ sym (block_gates-more 0 0 T t)) in
    record {
      blocks = blocks;
      sets = subst (λ us. AllZip IsSetTable (sets_of 0 us) f.sets.items) (sym tables)
          (subst (λ xs. AllZip IsSetTable xs f.sets.items) (sym (sets_of-more 0 T t ∙ ap (λ k. sets_of 0 T ++ map (λ u. (k, u)) (tables_at key.Set t)) (from_zero (length T)))) read.sets);
      gates = subst (λ us. AllZip (IsGateTable f.signals.items) (gates_of root us) f.gates.items) (sym tables) (subst (λ xs. AllZip (IsGateTable f.signals.items) xs f.gates.items) gate_entries read.gates);
      names = read.names ∙ sym (agent_names-more T t) ∙ ap (λ us. agent_names us) (sym tables);
      apart = read.apart;
      few_sets = few;
      few_gates = read.few_gates;
    }

-- where only names of channels and the count of blocks have changed, the agents are the same
pub agents_stay : (root : Members) (xs : List BlockTable) (d e : Draft) → e ≡ record d { channel_names = e.channel_names; listed_blocks = e.listed_blocks } → HasAgents root xs d → HasAgents root xs e
agents_stay root xs d e frame h = subst (λ x. HasAgents root xs x) (sym frame) (record { blocks = h.blocks; sets = h.sets; gates = h.gates; names = h.names; apart = h.apart; few_sets = h.few_sets; few_gates = h.few_gates })

-- channels by the lists of a draft that has grown
pub channels_grown : (d e : Draft) (xs : List (Scope × Members)) (cs : List Channel) → e.signals ≡ d.signals → Grows d e → AllZip (IsChannelTable d.signals.items d.blocks.items d.sets.items d.gates.items) xs cs → AllZip (IsChannelTable e.signals.items e.blocks.items e.sets.items e.gates.items) xs cs
channels_grown d e xs cs signals g h =
    subst (λ v. AllZip (IsChannelTable v.items e.blocks.items e.sets.items e.gates.items) xs cs) (sym signals)
    (subst (λ y. AllZip (IsChannelTable d.signals.items y e.sets.items e.gates.items) xs cs) (sym g.blocks_are)
    (subst (λ y. AllZip (IsChannelTable d.signals.items (d.blocks.items ++ g.blocks) y e.gates.items) xs cs) (sym g.sets_are)
    (subst (λ y. AllZip (IsChannelTable d.signals.items (d.blocks.items ++ g.blocks) (d.sets.items ++ g.sets) y) xs cs) (sym g.gates_are)
    (channels_stay d.signals.items d.blocks.items g.blocks d.sets.items g.sets d.gates.items g.gates xs cs h))))
