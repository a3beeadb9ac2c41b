-- The ends of channels: which are known, and the faults of those that are not.
use Rattle.std.proofs.Common.{◌≡◌, ◌≢◌, ℕ, suc, ◌+◌, ◌<◌, ◌≤◌, Bool, true, false, List, [], ◌∷◌, ◌++◌, length, take, get_or, map, count_by, All, Option, Some, None, is_some, IsTrue, ◌↔◌, IsSomeAnd, MatchOption, refl, sym, ap, subst, inl, inr, ◌∙◌, arith}
use Rattle.std.proofs.lemmas.List.{length-append, length-map}
use Rattle.arrayvec.specs.ArrayString.{ArrayString}
use Rattle.std.proofs.lemmas.Option.{slice_get_within, slice_get_read, get_or_from_slice_get}
use Rattle.std.specs.List.{AllZip, HoldsAt, position_or_len}
use Rattle.toml.specs.Data.{Data, Members, as_str}
use Rattle.toml.specs.View.{view}
use Rattle.toml.specs.declared.value.Value.{Value}
use Rattle.sdl_structure_parts.specs.declared.parts.Block.{Block}
use Rattle.sdl_structure_parts.specs.declared.parts.Set.{Set}
use Rattle.sdl_structure_parts.specs.declared.parts.Gate.{Gate}
use Rattle.sdl_structure_parts.specs.declared.parts.Channel.{Channel}
use Rattle.sdl_structure_parts.specs.declared.parts.End.{End}
use Rattle.sdl_structure_parts.specs.declared.parts.Scope.{Scope}
use Rattle.sdl_structure_parts.specs.declared.parts.Scope.TheVariants as scope
use Rattle.sdl_structure_tables.specs.declared.place.Key.{Key}
use Rattle.sdl_structure_tables.specs.declared.place.Key.TheVariants as key
use Rattle.sdl_structure_tables.specs.declared.place.Part.{Part}
use Rattle.sdl_structure_tables.specs.declared.place.Part.TheVariants as part
use Rattle.sdl_structure_tables.specs.declared.place.Place.{Place}
use Rattle.sdl_structure_tables.specs.declared.fault.FileFault.TheVariants as fault
use Rattle.sdl_structure.specs.declared.reading.draft.Draft.{Draft}
use Rattle.sdl_structure_tables.specs.declared.walk.Walk.{Walk}
use Rattle.sdl_structure_tables.specs.Keys.{is_key, is_key_of, key_text, keys_of, channel_keys}
use Rattle.sdl_structure_tables.specs.declared.version.Version.{Version}
use Rattle.sdl_structure_tables.specs.declared.version.Version.TheVariants.{One, Two}
use Rattle.sdl_structure_tables.specs.Tables.{data_at, elements_at, tables_at, text_at, table_in, names_of, channel_names, is_text, own_version, HasKindAt}
use Rattle.sdl_structure_tables.specs.Places.{table_of, inside, part_inside, names_before}
use Rattle.sdl_structure_tables.specs.Blocks.{left_before}
use Rattle.sdl_structure_tables.specs.Names.{HasOneDot, is_dot, agent_part, gate_part}
use Rattle.sdl_structure.specs.File.{IsChannelTable, NamesEnd, IsAgent, side_in}
use Rattle.sdl_structure_tables.specs.Faults.{IsBroken, IsGateOf, IsKnownEnd, agents_within, so_far}
use Rattle.sdl_structure_tables.specs.Walks.{file_of, own, IsHere, name_texts}
use Rattle.sdl_structure.specs.Drafts.{ServesChannels, IsScope, IsChannelScope, HasGateOf, HasSignals, blocks_before}
use Rattle.sdl_structure_tables.proofs.FaultLemmas.{breaks}
use Rattle.sdl_structure_tables.proofs.PlaceLemmas.{channel_keys_inside, before_top_channel, before_block_channel}
use Rattle.sdl_structure_tables.proofs.SignalLemmas.{text_in, unknown, some_and}

-- a required key whose value is of its kind is there
pub present : (o : Option Data) (P : Data → Type 0) → MatchOption o (true ≡ false) P → o ≢ None
present None P h e = cc
present (Some d) P h e = cc

pub listed_in : (w : Walk) (k : Key) → keys_of w.version w.place.part ≡ channel_keys → is_key_of channel_keys (key_text k) ≡ true → is_key w.version w.place.part k ≡ true
listed_in w k keys held = ap (λ ks. is_key_of ks (key_text k)) keys ∙ held

pub ends_not_two : (w : Walk) (q : Place) (vs : List Value) → IsHere w → keys_of w.version w.place.part ≡ channel_keys → q ≡ record w.place { key = key.Ends } → elements_at key.Ends (own w) ≡ map view vs → HasKindAt (own w) key.Ends → length vs ≢ 2 → IsBroken (file_of w) (fault.OutOfRange q)
ends_not_two w q vs here keys e held kind other = breaks w q key.Ends _ here (listed_in w key.Ends keys refl) e
    (inr (inr (inr (refl, (λ two. other (sym (view_length vs) ∙ sym (ap (λ ds. length ds) held) ∙ two)), present (data_at key.Ends (own w)) _ kind))))
  where
    view_length : (vs : List Value) → length (map view vs) ≡ length vs
    view_length [] = refl
    view_length (v ∷ vs) = ap suc (view_length vs)

pub bad_end : (w : Walk) (q : Place) (vs : List Value) (i : ℕ) (v : Value) → IsHere w → keys_of w.version w.place.part ≡ channel_keys → q ≡ record w.place { key = key.Ends } → elements_at key.Ends (own w) ≡ map view vs → i < length vs → v ≡ get_or vs i v → is_text (view v) ≡ true → ¬ IsSomeAnd (as_str (view v)) HasOneDot → IsBroken (file_of w) (fault.BadName q)
bad_end w q vs i v here keys e held h at texts bad = with_text (as_str (view v)) refl texts
  where
    with_text : (o : Option (List ℕ)) → as_str (view v) ≡ o → is_text (view v) ≡ true → IsBroken (file_of w) (fault.BadName q)
    with_text None is texts = absurd (none_is (as_str (view v)) is texts)
      where
        none_is : (o : Option (List ℕ)) → o ≡ None → is_some o ≡ true → ⊥
        none_is None e t = cc
        none_is (Some x) e t = cc
    with_text (Some text) is texts = breaks w q key.Ends _ here (listed_in w key.Ends keys refl) e
        (inr (refl, text, i, text_in key.Ends (own w) vs i v text held h at is, λ dot. bad (rw is dot)))

-- the keys of a channel's table, by the version that the walk has
pub own_keys : (w : Walk) (scope : Scope) (d : Draft) → IsHere w → IsChannelScope (file_of w) scope w.place d → keys_of w.version w.place.part ≡ channel_keys
own_keys w scope d here serves = subst (λ v. keys_of v w.place.part ≡ channel_keys) (sym here.version) serves.keys

pub unknown_end : (w : Walk) (q : Place) (scope : Scope) (d : Draft) (vs : List Value) (i : ℕ) (v : Value) → IsHere w → IsChannelScope (file_of w) scope w.place d → q ≡ record w.place { key = key.Ends } → elements_at key.Ends (own w) ≡ map view vs → i < length vs → v ≡ get_or vs i v → IsSomeAnd (as_str (view v)) (λ text. ¬ HasGateOf d scope (agent_part text) (gate_part text)) → IsBroken (file_of w) (fault.UnknownName q)
unknown_end w q scope d vs i v here serves e held h at none =
    let (text, is, no_gate) = some_and (as_str (view v)) (λ text. ¬ HasGateOf d scope (agent_part text) (gate_part text)) none in
    unknown w q key.Ends vs i v text here (listed_in w key.Ends (own_keys w scope d here serves) refl) e held h at is (λ known. no_gate (serves.ends text known))

pub two_ends : (R : Data → End → Type 0) (vs : List Value) (v w : Value) (a b : End) → length vs ≡ 2 → v ≡ get_or vs 0 v → w ≡ get_or vs 1 w → R (view v) a → R (view w) b → AllZip R (map view vs) (a ∷ b ∷ [])
two_ends R [] v w a b two at_v at_w r s = absurd (omega arith)
two_ends R (x ∷ []) v w a b two at_v at_w r s = absurd (omega arith)
two_ends R (x ∷ y ∷ []) v w a b two at_v at_w r s = (subst (λ z. R (view z) a) at_v r, (subst (λ z. R (view z) b) at_w s, tt))
two_ends R (x ∷ y ∷ z ∷ zs) v w a b two at_v at_w r s = absurd (omega arith)

-- what the ends of a channel need, from what the table that lists it gives
known_top : (root : Members) (q : Part) (b s i : ℕ) (text : List ℕ) → q ≡ part.System → IsKnownEnd root (part_inside q key.Channel) b text → IsGateOf (tables_at key.Block (table_of root q b s i)) (table_of root q b s i) (agent_part text) (gate_part text)
known_top root q b s i text e = subst (λ q. IsKnownEnd root (part_inside q key.Channel) b text → IsGateOf (tables_at key.Block (table_of root q b s i)) (table_of root q b s i) (agent_part text) (gate_part text)) (sym e) (λ known. known)

known_inner : (root : Members) (q : Part) (b s i : ℕ) (text : List ℕ) → q ≡ part.Block → IsKnownEnd root (part_inside q key.Channel) b text → IsGateOf (agents_within (own_version root) (table_of root q b s i)) (table_of root q b s i) (agent_part text) (gate_part text)
known_inner root q b s i text e = subst (λ q. IsKnownEnd root (part_inside q key.Channel) b text → IsGateOf (agents_within (own_version root) (table_of root q b s i)) (table_of root q b s i) (agent_part text) (gate_part text)) (sym e) (λ known. known)

-- the top table and a block's list channels
top_lists : (v : Version) (q : Part) → q ≡ part.System → is_key v q key.Channel ≡ true
top_lists v q e = ap (λ p. is_key v p key.Channel) e

block_lists : (v : Version) (q : Part) → q ≡ part.Block → is_key v q key.Channel ≡ true
block_lists One q e = ap (λ p. is_key One p key.Channel) e
block_lists Two q e = ap (λ p. is_key Two p key.Channel) e

pub serves_in : (w u : Walk) (scope : Scope) (i : ℕ) (d : Draft) → IsHere w → IsScope scope w.place → file_of u ≡ file_of w → u.place ≡ inside w.place key.Channel i → ServesChannels (file_of w) scope (own w) d → IsChannelScope (file_of u) scope u.place d
serves_in w u scope.System i d here at file place serves =
    let listed : is_key w.version w.place.part key.Channel ≡ true = top_lists w.version w.place.part at in
    record {
      keys = subst (λ v. keys_of v u.place.part ≡ channel_keys) (here.version ∙ ap own_version (sym file)) (channel_keys_inside w.version w.place u.place i listed place);
      ends = λ text known. serves.gates (agent_part text) (gate_part text)
          (subst (λ m. IsGateOf (tables_at key.Block m) m (agent_part text) (gate_part text)) here.table
          (known_top (file_of w) w.place.part w.place.block w.place.set w.place.item text at
          (subst (λ r. IsKnownEnd r (part_inside w.place.part key.Channel) w.place.block text) file
          (subst (λ (p : Place). IsKnownEnd (file_of u) p.part p.block text) place known))));
      signals = subst (λ r. HasSignals r d) (sym file) serves.signals;
      few_gates = serves.few_gates;
    }
serves_in w u (scope.Block b) i d here at file place serves =
    let listed : is_key w.version w.place.part key.Channel ≡ true = block_lists w.version w.place.part at.0 in
    record {
      keys = subst (λ v. keys_of v u.place.part ≡ channel_keys) (here.version ∙ ap own_version (sym file)) (channel_keys_inside w.version w.place u.place i listed place);
      ends = λ text known. serves.gates (agent_part text) (gate_part text)
          (subst (λ m. IsGateOf (agents_within (own_version (file_of w)) m) m (agent_part text) (gate_part text)) here.table
          (known_inner (file_of w) w.place.part w.place.block w.place.set w.place.item text at.0
          (subst (λ r. IsKnownEnd r (part_inside w.place.part key.Channel) w.place.block text) file
          (subst (λ (p : Place). IsKnownEnd (file_of u) p.part p.block text) place known))));
      signals = subst (λ r. HasSignals r d) (sym file) serves.signals;
      few_gates = serves.few_gates;
    }

-- the names of the channels before one in the list of a scope
pub names_before_channel : (w u : Walk) (scope : Scope) (i : ℕ) (ts : List Members) → IsHere w → IsScope scope w.place → file_of u ≡ file_of w → u.place ≡ inside w.place key.Channel i → tables_at key.Channel (own w) ≡ ts → channel_names (blocks_before (file_of w) scope) ++ names_of (take i ts) ≡ names_before (file_of u) u.place
names_before_channel w u scope.System i ts here at file place held = sym (before_top_channel w u i ts here at file place held)
names_before_channel w u (scope.Block b) i ts here at file place held =
    ap (λ k. channel_names (left_before (file_of w) k) ++ names_of (take i ts)) at.1 ∙ sym (before_block_channel w u i ts here at.0 file place held)

-- the names of channels are no part of it
pub other_names : (root : Members) (scope : Scope) (p : Place) (d e : Draft) → e ≡ record d { channel_names = e.channel_names } → IsChannelScope root scope p d → IsChannelScope root scope p e
other_names root scope p d e frame h = subst (λ x. IsChannelScope root scope p x) (sym frame) (record { keys = h.keys; ends = h.ends; signals = record { named = h.signals.named; few = h.signals.few }; few_gates = h.few_gates })

pub too_many_channels : (w : Walk) (q : Place) (scope : Scope) → IsHere w → IsScope scope w.place → q ≡ record w.place { key = key.Channel } → 64 < so_far (file_of w) w.place.part key.Channel w.place.block → IsBroken (file_of w) (fault.TooMany q)
too_many_channels w q scope.System here at e h = breaks w q key.Channel _ here (top_lists w.version w.place.part at) e (inr (inl (inr refl, h)))
too_many_channels w q (scope.Block b) here at e h = breaks w q key.Channel _ here (block_lists w.version w.place.part at.0) e (inr (inl (inr refl, h)))

pub scope_lists : (v : Version) (scope : Scope) (p : Place) → IsScope scope p → is_key v p.part key.Channel ≡ true
scope_lists v scope.System p at = top_lists v p.part at
scope_lists v (scope.Block b) p at = block_lists v p.part at.0

-- a text without a first dot has none
pub no_dot : (text : List ℕ) → position_or_len is_dot text ≡ length text → count_by is_dot text ≡ 0
no_dot [] e = refl
no_dot (b ∷ text) e = at (is_dot b) refl (no_dot text)
  where
    at : (t : Bool) → is_dot b ≡ t → (position_or_len is_dot text ≡ length text → count_by is_dot text ≡ 0) → count_by is_dot (b ∷ text) ≡ 0
    at true is rest = absurd (omega (arith, rw is at e))
    at false is rest = rw is (rest (omega (arith, rw is at e)))

-- the gate that is found
pub names_end : (blocks : List Block) (sets : List Set) (gates : List Gate) (scope : Scope) (d : Data) (text : List ℕ) (end : End) (i : ℕ) (g : Gate) → i < length gates → g ≡ get_or gates i g → HoldsAt (λ g. (g.name.bytes ≡ gate_part text) × IsAgent blocks sets scope (agent_part text) g.owner) gates i → as_str d ≡ Some text → HasOneDot text → end.gate.0 ≡ i → end.side ≡ side_in scope g.owner → NamesEnd blocks sets gates scope d end
names_end blocks sets gates scope d text end i g h at found is dot number side =
    let said = found g in
    rw (number, slice_get_read gates (length gates) i g refl h at, is) ((dot, subst (λ (x : Gate). x.name.bytes ≡ gate_part text) (sym at) said.0, subst (λ (x : Gate). IsAgent blocks sets scope (agent_part text) x.owner) (sym at) said.1), side)

pub no_gate_of : (d : Draft) (scope : Scope) (agent gate : List ℕ) → All (λ g. ¬ ((g.name.bytes ≡ gate) × IsAgent d.blocks.items d.sets.items scope agent g.owner)) d.gates.items → ¬ HasGateOf d scope agent gate
no_gate_of d scope agent gate none (i, g, is, named, known) =
    let h = slice_get_within d.gates.items i g is in
    let at = get_or_from_slice_get d.gates.items i g g is in
    none i g h (subst (λ (x : Gate). (x.name.bytes ≡ gate) × IsAgent d.blocks.items d.sets.items scope agent x.owner) (sym at) (named, known))

-- a test of what may stand in an option
pub some_iff : {A : Type 0} (o : Option A) (x : A) (P : A → Type 0) (b : Bool) → o ≡ Some x → (IsTrue b ↔ P x) → IsTrue b ↔ IsSomeAnd o P
some_iff None x P b is h = cc
some_iff (Some y) x P b is h = let same : x ≡ y = cc in subst (λ z. IsTrue b ↔ P z) same h

pub none_iff : {A : Type 0} (o : Option A) (P : A → Type 0) → o ≡ None → IsTrue false ↔ IsSomeAnd o P
none_iff None P is = ((λ t. cc), (λ h. absurd h))
none_iff (Some y) P is = cc

pub refuted : (b : Bool) (P : Type 0) → (IsTrue b ↔ P) → b ≡ false → ¬ P
refuted b P h is p = let q : b ≡ true = h.1 p in cc

-- the table of a channel, by the lists that the draft had before its names grew
pub channel_joins : (d e : Draft) (scope : Scope) (m n : Members) (x : Channel) → e ≡ record d { channel_names = e.channel_names } → m ≡ n → IsChannelTable e.signals.items e.blocks.items e.sets.items e.gates.items (scope, m) x → IsChannelTable d.signals.items d.blocks.items d.sets.items d.gates.items (scope, n) x
channel_joins d e scope m n x frame same r =
    subst (λ k. IsChannelTable d.signals.items d.blocks.items d.sets.items d.gates.items (scope, k) x) same
    (subst (λ (f : Draft). IsChannelTable f.signals.items f.blocks.items f.sets.items f.gates.items (scope, m) x) frame r)

-- how many names of channels are taken after those of a list
pub few_names : (old new : List ArrayString) (before : List (Option (List ℕ))) (ts : List Members) (vs : List Value) → name_texts old ≡ before → name_texts new ≡ before ++ names_of ts → ts ≡ map table_in vs → length old + length vs ≤ 64 → length new ≤ 64
few_names old new before ts vs had has held few =
    let a : length (name_texts old) ≡ length old = length-map old (λ (n : ArrayString). Some n.bytes) in
    let b : length (name_texts new) ≡ length new = length-map new (λ (n : ArrayString). Some n.bytes) in
    let c = ap (λ zs. length zs) has ∙ length-append before (names_of ts) in
    let e = ap (λ zs. length zs) had in
    let f : length (names_of ts) ≡ length ts = length-map ts (text_at key.Name) in
    let g : length ts ≡ length vs = ap (λ us. length us) held ∙ length-map vs table_in in
    omega (arith, a, b, c, e, f, g, few)
