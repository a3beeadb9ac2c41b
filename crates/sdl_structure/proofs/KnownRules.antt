-- In a file that keeps all rules, the sorts, signals and ends that its lists name are there.
use Rattle.std.proofs.Common.{◌≡◌, ℕ, zero, suc, ◌+◌, ◌<◌, List, [], ◌∷◌, length, map, ◌++◌, get_or, Contains, true, Option, Some, IsSomeAnd, slice_get, refl, sym, ap, subst, ◌∙◌, inl, inr, arith}
use Rattle.std.proofs.lemmas.Option.{slice_get-get_or}
use Rattle.std.specs.List.{AllByRecursion}
use Rattle.toml.specs.Data.{Data, Members, no_members, as_str}
use Rattle.sdl_signal.specs.declared.ids.SignalId.{SignalId}
use Rattle.sdl_signal.specs.declared.ids.BlockId.{BlockId}
use Rattle.sdl_signal.specs.declared.values.Sort.{Sort}
use Rattle.sdl_structure_parts.specs.declared.parts.Channel.{Channel}
use Rattle.sdl_structure_parts.specs.declared.parts.End.{End}
use Rattle.sdl_structure_parts.specs.declared.parts.Owner.{Owner}
use Rattle.sdl_structure_parts.specs.declared.parts.Owner.TheVariants as owner
use Rattle.sdl_structure_parts.specs.declared.parts.Scope.{Scope}
use Rattle.sdl_structure_parts.specs.declared.parts.Scope.TheVariants as scope
use Rattle.sdl_structure_parts.specs.Structure.{Structure}
use Rattle.sdl_structure_tables.specs.declared.version.Version.{Version}
use Rattle.sdl_structure_tables.specs.declared.version.Version.TheVariants.{One, Two}
use Rattle.sdl_structure_tables.specs.declared.place.Part.{Part}
use Rattle.sdl_structure_tables.specs.declared.place.Part.TheVariants as part
use Rattle.sdl_structure_tables.specs.declared.place.Key.{Key}
use Rattle.sdl_structure_tables.specs.declared.place.Key.TheVariants as key
use Rattle.sdl_structure_tables.specs.declared.place.Place.{Place}
use Rattle.sdl_structure_tables.specs.Keys.{Kind, whole_number, text, flag, sorts, signals, ends, tables, nothing, kind_of, is_key}
use Rattle.sdl_structure_tables.specs.Tables.{text_at, elements_at, tables_at, names_of, own_version}
use Rattle.sdl_structure_tables.specs.Blocks.{BlockTable, blocks_of, block_tables, inner_tables}
use Rattle.sdl_structure_tables.specs.Places.{table_at, table_of, Exists}
use Rattle.sdl_structure_tables.specs.Names.{sort_text, NamesSort, NamesSignal, ListsSignals, HasOneDot, agent_part, gate_part}
use Rattle.sdl_structure_tables.specs.Faults.{BreaksAt, NamesUnknown, HoldsText, HasGate, IsKnown, IsKnownEnd, IsGateOf, agents_within}
use Rattle.sdl_structure_tables.proofs.SignalLemmas.{some_and}
use Rattle.sdl_structure_tables.proofs.TableLemmas.{some_map}
use Rattle.sdl_structure.specs.File.{IsFileOf, IsChannelTable, IsBlockTable, IsSetTable, NamesEnd, IsAgent, IsBlockIn, side_in, channels_in, block_channels, channels_of, sets_of}
use Rattle.sdl_structure.proofs.GateLemmas.{Has, map_get}
use Rattle.sdl_structure.proofs.OrderLemmas.{within, IsListed, all_listed, stands_whole, get_right}
use Rattle.sdl_structure.proofs.KeptLemmas.{IsKept, never, Channels, kept_at, at_place, each, left, right, mapped, nth}
use Rattle.sdl_structure.proofs.KeyKinds.{of_kind, zip_left, text_has}
use Rattle.sdl_structure.proofs.RepeatRules.{zip_named, signal_name, signal_list}
use Rattle.sdl_structure.proofs.OwnerLemmas.{IsOwned, set_stands, gate_table, contains_at, has_gate}

-- the sorts that a signal's table names
sorts_known : (v : Version) (s : Structure) (q : Part) (ms : Members) (i : ℕ) (name : List ℕ) → IsKept v s q ms → is_key v q key.Sorts ≡ true → HoldsText key.Sorts ms i name → (o : Sort) × (sort_text o ≡ name)
sorts_known v s part.System ms i name kept l held = never l
sorts_known v s part.Signal ms i name (x, table) l held =
    text_has (λ name. (o : Sort) × (sort_text o ≡ name)) (elements_at key.Sorts ms) i name
    (zip_left NamesSort (λ d. IsSomeAnd (as_str d) (λ name. (o : Sort) × (sort_text o ≡ name))) (elements_at key.Sorts ms) x.sorts.items (λ d o e. rw e (o, refl)) table.sorts) held
sorts_known v s part.Gate ms i name kept l held = never l
sorts_known v s part.Channel ms i name kept l held = never l
sorts_known One s part.Block ms i name kept l held = never l
sorts_known Two s part.Block ms i name kept l held = never l
sorts_known v s part.BlockGate ms i name kept l held = never l
sorts_known v s part.BlockChannel ms i name kept l held = never l
sorts_known v s part.Set ms i name kept l held = never l
sorts_known v s part.SetGate ms i name kept l held = never l

-- the signals that a list names
signal_known : (root : Members) (s : Structure) (k : Key) (ms : Members) (i : ℕ) (name : List ℕ) → IsFileOf root s → (ids : List SignalId) × ListsSignals s.signals k ms ids → HoldsText k ms i name → Contains (names_of (tables_at key.Signal root)) (Some name)
signal_known root s k ms i name file (ids, lists) held =
    text_has (λ name. Contains (names_of (tables_at key.Signal root)) (Some name)) (elements_at k ms) i name
    (zip_left (NamesSignal s.signals) (λ d. IsSomeAnd (as_str d) (λ name. Contains (names_of (tables_at key.Signal root)) (Some name))) (elements_at k ms) ids known lists.named) held
  where
    known : (d : Data) (id : SignalId) → NamesSignal s.signals d id → IsSomeAnd (as_str d) (λ name. Contains (names_of (tables_at key.Signal root)) (Some name))
    known d id names =
        let (x, there, said) = some_and (slice_get s.signals id.0) (λ x. as_str d ≡ Some x.name.bytes) names in
        rw said (contains_at (names_of (tables_at key.Signal root)) id.0 (Some x.name.bytes) (signal_name root s id.0 x file there))

same_value : {A : Type 0} (o w : Option A) (x y : A) → o ≡ w → o ≡ Some x → w ≡ Some y → x ≡ y
same_value o w x y e is_x is_y = let both : Some x ≡ Some y = sym is_x ∙ e ∙ is_y in cc

-- the list in which a block stands that lies in a scope
abbrev Standing : Members → BlockTable → Type 0
Standing root x = IsListed (own_version root) (blocks_of root) scope.System (tables_at key.Block root) x

all_stand : (root : Members) → AllByRecursion (Standing root) (blocks_of root)
all_stand root = all_listed (own_version root) (blocks_of root) 4 scope.System 1 0 (tables_at key.Block root) (stands_whole (blocks_of root))

in_system : (root : Members) (x : BlockTable) → Standing root x → x.scope ≡ scope.System → (i : ℕ) × (slice_get (tables_at key.Block root) i ≡ Some x.table)
in_system root x (inl (at, i, is)) here = (i, is)
in_system root x (inr (b, y, i, at, there, is)) here = let not : within b ≡ scope.System = sym at ∙ here in cc

abbrev number_in : Scope → ℕ
number_in scope.System = 0
number_in (scope.Block b) = b.0

same_number : (b c : ℕ) → within b ≡ within c → b ≡ c
same_number b c e = ap number_in e

in_block : (root : Members) (x : BlockTable) (b : BlockId) (t : Members) → Standing root x → x.scope ≡ scope.Block b → slice_get (block_tables root) b.0 ≡ Some t → (i : ℕ) × (slice_get (inner_tables (own_version root) t) i ≡ Some x.table)
in_block root x b t (inl (at, i, is)) here there = let not : scope.System ≡ scope.Block b = sym at ∙ here in cc
in_block root x b t (inr (c, y, i, at, found, is)) here there =
    let number : c ≡ b.0 = same_number c b.0 (sym at ∙ here) in
    let table : slice_get (block_tables root) c ≡ Some y.table = map_get (λ (x : BlockTable). x.table) (blocks_of root) c y found in
    let same : y.table ≡ t = same_value (slice_get (block_tables root) c) (slice_get (block_tables root) b.0) y.table t (ap (λ k. slice_get (block_tables root) k) number) table there in
    (i, subst (λ u. slice_get (inner_tables (own_version root) u) i ≡ Some x.table) same is)

-- the block of a number that lies in the scope, and has the name
block_found : (root : Members) (s : Structure) (at : Scope) (agent : List ℕ) (b : BlockId) → IsFileOf root s → IsBlockIn s.blocks at agent b
    → (x : BlockTable) × (slice_get (blocks_of root) b.0 ≡ Some x) × (x.scope ≡ at) × (text_at key.Name x.table ≡ Some agent)
block_found root s at agent b file named =
    let (y, there, said) = some_and (slice_get s.blocks b.0) (λ y. (y.scope ≡ at) × (y.name.bytes ≡ agent)) named in
    let (x, is, table) = zip_named IsBlockTable (blocks_of root) s.blocks b.0 y file.parts.blocks there in
    (x, is, sym table.scope ∙ said.0, table.name.0 ∙ ap Some said.1)

block_gate : (root : Members) (x : BlockTable) (b : BlockId) (m : Members) (gate : List ℕ) → slice_get (blocks_of root) b.0 ≡ Some x → IsOwned root (owner.Block b) m → text_at key.Name m ≡ Some gate → HasGate x.table gate
block_gate root x b m gate is (t, at, has) named =
    let same : t ≡ x.table = same_value (slice_get (block_tables root) b.0) (slice_get (block_tables root) b.0) t x.table refl at (map_get (λ (x : BlockTable). x.table) (blocks_of root) b.0 x is) in
    has_gate x.table m gate (subst (λ u. Has (tables_at key.Gate u) m) same has) named

-- the gate that an end names, in a channel of the system and in one of a block
top_known : (root : Members) (s : Structure) (o : Owner) (m : Members) (agent gate : List ℕ) → IsFileOf root s → IsOwned root o m → text_at key.Name m ≡ Some gate → IsAgent s.blocks s.sets scope.System agent o → IsGateOf (tables_at key.Block root) root agent gate
top_known root s owner.System m agent gate file has named is = inl (is, has_gate root m gate has named)
top_known root s (owner.Block b) m agent gate file owns named is =
    let (x, at, here, called) = block_found root s scope.System agent b file is in
    let (i, listed) = in_system root x (at_place (Standing root) (blocks_of root) b.0 x (all_stand root) at) here in
    inr (i, x.table, listed, called, block_gate root x b m gate at owns named)
top_known root s (owner.Set n) m agent gate file owns named is = absurd is

get_left : {A : Type 0} (xs ys : List A) (i : ℕ) (x : A) → slice_get xs i ≡ Some x → slice_get (xs ++ ys) i ≡ Some x
get_left [] ys i x e = cc
get_left (z ∷ xs) ys zero x e = e
get_left (z ∷ xs) ys (suc i) x e = get_left xs ys i x e

inner_known : (root : Members) (s : Structure) (b : BlockId) (t : Members) (o : Owner) (m : Members) (agent gate : List ℕ) → IsFileOf root s → slice_get (block_tables root) b.0 ≡ Some t → IsOwned root o m → text_at key.Name m ≡ Some gate → IsAgent s.blocks s.sets (scope.Block b) agent o → IsGateOf (agents_within (own_version root) t) t agent gate
inner_known root s b t owner.System m agent gate file is owns named known = absurd known
inner_known root s b t (owner.Block c) m agent gate file is (u, at, has) named (inl known) =
    let same : u ≡ t = same_value (slice_get (block_tables root) c.0) (slice_get (block_tables root) b.0) u t (ap (λ (k : BlockId). slice_get (block_tables root) k.0) known.0) at is in
    inl (known.1, has_gate t m gate (subst (λ v. Has (tables_at key.Gate v) m) same has) named)
inner_known root s b t (owner.Block c) m agent gate file is owns named (inr known) =
    let (x, at, here, called) = block_found root s (scope.Block b) agent c file known in
    let (i, listed) = in_block root x b t (at_place (Standing root) (blocks_of root) c.0 x (all_stand root) at) here is in
    inr (
      length (tables_at key.Set t) + i,
      x.table,
      get_right (tables_at key.Set t) (inner_tables (own_version root) t) i x.table listed,
      called,
      block_gate root x c m gate at owns named,
    )
inner_known root s b t (owner.Set n) m agent gate file is (x, at, has) named known =
    let (set, there, said) = some_and (slice_get s.sets n.0) (λ x. (x.block.0 ≡ b.0) × (x.name.bytes ≡ agent)) known in
    let (y, at_y, table) = zip_named IsSetTable (sets_of 0 (block_tables root)) s.sets n.0 set file.parts.sets there in
    let same : y ≡ x = cc in
    let (u, at_u, stands) = set_stands root n.0 x at in
    let number : x.0 ≡ b.0 = ap (λ (z : ℕ × Members). z.0) (sym same) ∙ sym table.block ∙ said.0 in
    let alike : u ≡ t = same_value (slice_get (block_tables root) x.0) (slice_get (block_tables root) b.0) u t (ap (λ k. slice_get (block_tables root) k) number) at_u is in
    inr (
      stands.index,
      x.1,
      get_left (tables_at key.Set t) (inner_tables (own_version root) t) stands.index x.1 (subst (λ v. slice_get (tables_at key.Set v) stands.index ≡ Some x.1) alike stands.is),
      ap (λ (z : ℕ × Members). text_at key.Name z.1) (sym same) ∙ table.name.0 ∙ ap Some said.1,
      has_gate x.1 m gate has named,
    )

-- the ends of a channel in a scope
end_known : (root : Members) (s : Structure) (o : Scope) (P : List ℕ → List ℕ → Type 0) (d : Data) (e : End) → IsFileOf root s → ((w : Owner) (m : Members) (agent gate : List ℕ) → IsOwned root w m → text_at key.Name m ≡ Some gate → IsAgent s.blocks s.sets o agent w → P agent gate) → NamesEnd s.blocks s.sets s.gates o d e → IsSomeAnd (as_str d) (λ text. P (agent_part text) (gate_part text))
end_known root s o P d e file known named =
    let (g, is, said) = some_and (slice_get s.gates e.gate.0) (λ g. IsSomeAnd (as_str d) (λ text. HasOneDot text × (g.name.bytes ≡ gate_part text) × IsAgent s.blocks s.sets o (agent_part text) g.owner) × (e.side ≡ side_in o g.owner)) named in
    let (m, owns, name) = gate_table root s e.gate.0 g file is in
    some_map (as_str d) _ (λ text. P (agent_part text) (gate_part text)) (λ text h. known g.owner m (agent_part text) (gate_part text) owns (name ∙ ap Some h.1) h.2) said.0

ends_known : (root : Members) (s : Structure) (o : Scope) (P : List ℕ → List ℕ → Type 0) (ms : Members) (c : Channel) (i : ℕ) (end : List ℕ) → IsFileOf root s → ((w : Owner) (m : Members) (agent gate : List ℕ) → IsOwned root w m → text_at key.Name m ≡ Some gate → IsAgent s.blocks s.sets o agent w → P agent gate) → IsChannelTable s.signals s.blocks s.sets s.gates (o, ms) c → HoldsText key.Ends ms i end → P (agent_part end) (gate_part end)
ends_known root s o P ms c i end file known table held =
    text_has (λ text. P (agent_part text) (gate_part text)) (elements_at key.Ends ms) i end
    (zip_left (NamesEnd s.blocks s.sets s.gates o) (λ d. IsSomeAnd (as_str d) (λ text. P (agent_part text) (gate_part text))) (elements_at key.Ends ms) _ (λ d e h. end_known root s o P d e file known h) table.ends) held

-- the channel that a place names
all_channels : (root : Members) (s : Structure) → IsFileOf root s → Channels s (channels_of root)
all_channels root s file = each (IsChannelTable s.signals s.blocks s.sets s.gates) (channels_of root) s.channels file.parts.channels

in_list : (s : Structure) (o : Scope) (cs : List Members) (i : ℕ) → Channels s (map (λ c. (o, c)) cs) → i < length cs → (c : Channel) × IsChannelTable s.signals s.blocks s.sets s.gates (o, get_or cs i no_members) c
in_list s o cs i h inside = nth (λ ms. (c : Channel) × IsChannelTable s.signals s.blocks s.sets s.gates (o, ms) c) cs i no_members (mapped (λ c. (o, c)) (λ x. (c : Channel) × IsChannelTable s.signals s.blocks s.sets s.gates x c) (λ ms. (c : Channel) × IsChannelTable s.signals s.blocks s.sets s.gates (o, ms) c) cs (λ c k. k) h) inside

top_channel : (root : Members) (s : Structure) (i : ℕ) → IsFileOf root s → i < length (tables_at key.Channel root) → (c : Channel) × IsChannelTable s.signals s.blocks s.sets s.gates (scope.System, get_or (tables_at key.Channel root) i no_members) c
top_channel root s i file h = in_list s scope.System (tables_at key.Channel root) i (left _ (channels_in scope.System root) (block_channels 0 (block_tables root)) (all_channels root s file)) h

block_channel : (s : Structure) (n : ℕ) (ts : List Members) (b i : ℕ) → Channels s (block_channels n ts) → b < length ts → i < length (tables_at key.Channel (get_or ts b no_members)) → (c : Channel) × IsChannelTable s.signals s.blocks s.sets s.gates (scope.Block (record { 0 = n + b }), get_or (tables_at key.Channel (get_or ts b no_members)) i no_members) c
block_channel s n [] b i h below inside = absurd (omega arith)
block_channel s n (t ∷ ts) zero i h below inside =
    let here : n ≡ n + 0 = omega arith in
    subst (λ k. (c : Channel) × IsChannelTable s.signals s.blocks s.sets s.gates (scope.Block (record { 0 = k }), get_or (tables_at key.Channel t) i no_members) c) here
    (in_list s (scope.Block (record { 0 = n })) (tables_at key.Channel t) i (left _ (channels_in (scope.Block (record { 0 = n })) t) (block_channels (n + 1) ts) h) inside)
block_channel s n (t ∷ ts) (suc b) i h below inside =
    let next : n + 1 + b ≡ n + suc b = omega arith in
    subst (λ k. (c : Channel) × IsChannelTable s.signals s.blocks s.sets s.gates (scope.Block (record { 0 = k }), get_or (tables_at key.Channel (get_or ts b no_members)) i no_members) c) next
    (block_channel s (n + 1) ts b i (right _ (channels_in (scope.Block (record { 0 = n })) t) (block_channels (n + 1) ts) h) (omega arith) inside)

end_is_known : (v : Version) (root : Members) (s : Structure) (q : Part) (b u i j : ℕ) (end : List ℕ) → IsFileOf root s → Exists root q b u i → is_key v q key.Ends ≡ true → HoldsText key.Ends (table_of root q b u i) j end → IsKnownEnd root q b end
end_is_known v root s part.System b u i j end file e l held = never l
end_is_known v root s part.Signal b u i j end file e l held = never l
end_is_known v root s part.Gate b u i j end file e l held = never l
end_is_known v root s part.Channel b u i j end file e l held =
    let (c, table) = top_channel root s i file e.2 in
    ends_known root s scope.System (IsGateOf (tables_at key.Block root) root) (get_or (tables_at key.Channel root) i no_members) c j end file (λ w m agent gate owns named is. top_known root s w m agent gate file owns named is) table held
end_is_known One root s part.Block b u i j end file e l held = never l
end_is_known Two root s part.Block b u i j end file e l held = never l
end_is_known v root s part.BlockGate b u i j end file e l held = never l
end_is_known v root s part.BlockChannel b u i j end file e l held =
    let t = get_or (block_tables root) b no_members in
    let (c, table) = block_channel s 0 (block_tables root) b i (right _ (channels_in scope.System root) (block_channels 0 (block_tables root)) (all_channels root s file)) e.0 e.2 in
    let here : b ≡ 0 + b = omega arith in
    let is : slice_get (block_tables root) (0 + b) ≡ Some t = subst (λ k. slice_get (block_tables root) k ≡ Some t) here (slice_get-get_or (block_tables root) b no_members e.0) in
    ends_known root s (scope.Block (record { 0 = 0 + b })) (IsGateOf (agents_within (own_version root) t) t) (get_or (tables_at key.Channel t) i no_members) c j end file (λ w m agent gate owns named known. inner_known root s (record { 0 = 0 + b }) t w m agent gate file is owns named known) table held
end_is_known v root s part.Set b u i j end file e l held = never l
end_is_known v root s part.SetGate b u i j end file e l held = never l

pub none_unknown_name : (root : Members) (s : Structure) (p : Place) → IsFileOf root s → ¬ BreaksAt root p (NamesUnknown root)
none_unknown_name root s p file breaks = known breaks.broken
  where
    kept : IsKept (own_version root) s p.part (table_at root p)
    kept = kept_at root s p.part p.block p.set p.item file breaks.place

    listed_as : (k : Key) → p.key ≡ k → is_key (own_version root) p.part k ≡ true
    listed_as k e = subst (λ k. is_key (own_version root) p.part k ≡ true) e breaks.listed

    is_known : (kind : Kind) → kind_of p.key ≡ kind → (i : ℕ) (name : List ℕ) → HoldsText p.key (table_at root p) i name → IsKnown root p kind name
    is_known whole_number e i name held = tt
    is_known text e i name held = tt
    is_known flag e i name held = tt
    is_known sorts e i name held =
        let at : p.key ≡ key.Sorts = of_kind sorts p.key e in
        sorts_known (own_version root) s p.part (table_at root p) i name kept (listed_as key.Sorts at) (subst (λ k. HoldsText k (table_at root p) i name) at held)
    is_known signals e i name held = signal_known root s p.key (table_at root p) i name file (signal_list (own_version root) s p.part p.key (table_at root p) kept breaks.listed e) held
    is_known ends e i name held =
        let at : p.key ≡ key.Ends = of_kind ends p.key e in
        end_is_known (own_version root) root s p.part p.block p.set p.item i name file breaks.place (listed_as key.Ends at) (subst (λ k. HoldsText k (table_at root p) i name) at held)
    is_known tables e i name held = tt
    is_known nothing e i name held = tt

    known : NamesUnknown root p (table_at root p) → ⊥
    known (name, i, held, unknown) = unknown (is_known (kind_of p.key) refl i name held)
