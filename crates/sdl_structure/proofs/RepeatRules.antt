-- In a file that keeps all rules, no name is taken twice in its name space, and no signal stands twice in a list.
use Rattle.std.proofs.Common.{◌≡◌, ◌≢◌, ℕ, zero, suc, ◌<◌, List, [], ◌∷◌, ◌++◌, map, get_or, AllPairs, Contains, true, Some, slice_get, refl, sym, ap, subst, ◌∙◌, ◌⊎◌, inl, inr, arith}
use Rattle.std.proofs.lemmas.Option.{slice_get_within, get_or_from_slice_get}
use Rattle.std.specs.List.{AllZip}
use Rattle.toml.specs.Data.{Data, Members, no_members, as_str}
use Rattle.sdl_signal.specs.declared.ids.SignalId.{SignalId}
use Rattle.sdl_structure_parts.specs.declared.parts.SignalDecl.{SignalDecl}
use Rattle.sdl_structure_parts.specs.Structure.{Structure}
use Rattle.sdl_structure_tables.specs.declared.version.Version.{Version}
use Rattle.sdl_structure_tables.specs.declared.version.Version.TheVariants.{One, Two}
use Rattle.sdl_structure_tables.specs.declared.place.Part.{Part}
use Rattle.sdl_structure_tables.specs.declared.place.Part.TheVariants as part
use Rattle.sdl_structure_tables.specs.declared.place.Key.{Key}
use Rattle.sdl_structure_tables.specs.declared.place.Key.TheVariants as key
use Rattle.sdl_structure_tables.specs.declared.place.Place.{Place}
use Rattle.sdl_structure_tables.specs.Keys.{kind_of, signals, is_key}
use Rattle.sdl_structure_tables.specs.Tables.{text_at, elements_at, tables_at, names_of, agent_names, channel_names, own_version}
use Rattle.sdl_structure_tables.specs.Blocks.{block_tables, left_in_all}
use Rattle.sdl_structure_tables.specs.Places.{table_at, table_of, Exists, names_before, names_before_in}
use Rattle.sdl_structure_tables.specs.Names.{IsSignalTable, NamesSignal, ListsSignals}
use Rattle.sdl_structure_tables.specs.Faults.{BreaksAt, IsDuplicate, IsRepeated, HoldsText}
use Rattle.sdl_structure_tables.proofs.SignalLemmas.{some_and}
use Rattle.sdl_structure.specs.File.{IsFileOf}
use Rattle.sdl_structure.proofs.GateLemmas.{zip_found, map_get}
use Rattle.sdl_structure.proofs.KeptLemmas.{IsKept, never, kept_at}
use Rattle.sdl_structure.proofs.KeyKinds.{signals_key}
use Rattle.sdl_structure.proofs.LimitRules.{gates_of_agent}
use Rattle.sdl_structure.proofs.SplitLemmas.{none_before, split_names, split_block, split_set, split_block_channel, split_top_channel}

-- a block's table may have gates
block_gates_key : (v : Version) → is_key v part.Block key.Gate ≡ true
block_gates_key One = refl
block_gates_key Two = refl

-- the names before a table in its name space do not have its own
not_taken : (root : Members) (s : Structure) (q : Part) (b u i : ℕ) → IsFileOf root s → Exists root q b u i → ¬ Contains (names_before_in root q b u i) (text_at key.Name (table_of root q b u i))
not_taken root s q b u i file there = at q there
  where
    blocks : List Members
    blocks = block_tables root

    gate_names : (agent : Part) (ms : Members) → IsKept (own_version root) s agent ms → is_key (own_version root) agent key.Gate ≡ true → AllPairs (λ a b. a ≢ b) (names_of (tables_at key.Gate ms))
    gate_names agent ms kept l = (gates_of_agent (own_version root) s agent ms kept l).apart

    at : (q : Part) → Exists root q b u i → ¬ Contains (names_before_in root q b u i) (text_at key.Name (table_of root q b u i))
    at part.System e = λ taken. (let inside = taken.1 in absurd (omega arith))
    at part.Signal e = none_before (names_of (tables_at key.Signal root)) _ _ file.names.signals (split_names (tables_at key.Signal root) i e.2)
    at part.Gate e = none_before (names_of (tables_at key.Gate root)) _ _ file.names.gates.apart (split_names (tables_at key.Gate root) i e.2)
    at part.Channel e = none_before (channel_names (left_in_all root) ++ names_of (tables_at key.Channel root)) _ _ file.names.channels (split_top_channel (channel_names (left_in_all root)) (tables_at key.Channel root) i e.2)
    at part.Block e = none_before (agent_names blocks) _ _ file.names.agents (split_block blocks b e.0)
    at part.BlockGate e =
        let kept = kept_at root s part.Block b 0 0 file (e.0, refl, refl) in
        none_before (names_of (tables_at key.Gate (get_or blocks b no_members))) _ _ (gate_names part.Block (get_or blocks b no_members) kept (block_gates_key (own_version root))) (split_names (tables_at key.Gate (get_or blocks b no_members)) i e.2)
    at part.BlockChannel e = none_before (channel_names (left_in_all root) ++ names_of (tables_at key.Channel root)) _ _ file.names.channels (split_block_channel root (names_of (tables_at key.Channel root)) b i e.0 e.2)
    at part.Set e = none_before (agent_names blocks) _ _ file.names.agents (split_set blocks b u e.0 e.1)
    at part.SetGate e =
        let set = get_or (tables_at key.Set (get_or blocks b no_members)) u no_members in
        let kept = kept_at root s part.Set b u 0 file (e.0, e.1, refl) in
        none_before (names_of (tables_at key.Gate set)) _ _ (gate_names part.Set set kept refl) (split_names (tables_at key.Gate set) i e.2)

-- the element that a text of a list is
element_of : (ds : List Data) (i : ℕ) (t : List ℕ) → slice_get (map as_str ds) i ≡ Some (Some t) → (d : Data) × (slice_get ds i ≡ Some d) × (as_str d ≡ Some t)
element_of [] i t e = cc
element_of (d ∷ ds) zero t e = let here : as_str d ≡ Some t = cc in (d, refl, here)
element_of (d ∷ ds) (suc i) t e = element_of ds i t e

-- the element that one at the same place names
pub zip_named : {A B : Type 0} (R : A → B → Type 0) (xs : List A) (ys : List B) (k : ℕ) (y : B) → AllZip R xs ys → slice_get ys k ≡ Some y → (x : A) × (slice_get xs k ≡ Some x) × R x y
zip_named R xs [] k y z e = cc
zip_named R [] (w ∷ ys) k y z e = absurd z
zip_named R (x ∷ xs) (w ∷ ys) zero y z e = let same : w ≡ y = cc in (x, refl, subst (λ v. R x v) same z.0)
zip_named R (x ∷ xs) (w ∷ ys) (suc k) y z e = zip_named R xs ys k y z.1 e

-- signals with one name have one number
not_ordered : {A : Type 0} (xs : List A) (a b : ℕ) (x : A) → AllPairs (λ a b. a ≢ b) xs → slice_get xs a ≡ Some x → slice_get xs b ≡ Some x → ¬ (a < b)
not_ordered xs a b x apart at_a at_b before =
    apart a b x before (slice_get_within xs b x at_b) (get_or_from_slice_get xs a x x at_a ∙ sym (get_or_from_slice_get xs b x x at_b))

same_place : {A : Type 0} (xs : List A) (a b : ℕ) (x : A) → AllPairs (λ a b. a ≢ b) xs → slice_get xs a ≡ Some x → slice_get xs b ≡ Some x → a ≡ b
same_place xs a b x apart at_a at_b =
    let up = not_ordered xs a b x apart at_a at_b in
    let down = not_ordered xs b a x apart at_b at_a in
    omega arith

pub signal_name : (root : Members) (s : Structure) (n : ℕ) (x : SignalDecl) → IsFileOf root s → slice_get s.signals n ≡ Some x → slice_get (names_of (tables_at key.Signal root)) n ≡ Some (Some x.name.bytes)
signal_name root s n x file is =
    let (t, at, table) = zip_named IsSignalTable (tables_at key.Signal root) s.signals n x file.parts.signals is in
    map_get (text_at key.Name) (tables_at key.Signal root) n t at ∙ ap Some table.name.0

-- the number of the signal that a text of a list names
named : (root : Members) (s : Structure) (k : Key) (ms : Members) (ids : List SignalId) (i : ℕ) (name : List ℕ) → IsFileOf root s → ListsSignals s.signals k ms ids → HoldsText k ms i name → (id : SignalId) × (slice_get ids i ≡ Some id) × (slice_get (names_of (tables_at key.Signal root)) id.0 ≡ Some (Some name))
named root s k ms ids i name file lists held =
    let (d, at, text) = element_of (elements_at k ms) i name held in
    let (id, is, names) = zip_found (NamesSignal s.signals) (elements_at k ms) ids i d lists.named at in
    let (x, there, said) = some_and (slice_get s.signals id.0) (λ x. as_str d ≡ Some x.name.bytes) names in
    (id, is, signal_name root s id.0 x file there ∙ ap Some (sym said ∙ text))

not_repeated : (root : Members) (s : Structure) (k : Key) (ms : Members) (ids : List SignalId) → IsFileOf root s → ListsSignals s.signals k ms ids → ¬ IsRepeated k ms
not_repeated root s k ms ids file lists (name, i, j, before, at_i, at_j) =
    let (a, is_a, named_a) = named root s k ms ids i name file lists at_i in
    let (b, is_b, named_b) = named root s k ms ids j name file lists at_j in
    let one : a.0 ≡ b.0 = same_place (names_of (tables_at key.Signal root)) a.0 b.0 (Some name) file.names.signals named_a named_b in
    lists.once i j a before (slice_get_within ids j b is_b) (ap (λ (x : SignalId). x.0) (get_or_from_slice_get ids i a a is_a) ∙ one ∙ sym (ap (λ (x : SignalId). x.0) (get_or_from_slice_get ids j b a is_b)))

-- the list of signals at a key
abbrev pub Lists : Structure → Key → Members → Type 0
Lists s k ms = (ids : List SignalId) × ListsSignals s.signals k ms ids

inward_list : (v : Version) (s : Structure) (q : Part) (ms : Members) → IsKept v s q ms → is_key v q key.Inward ≡ true → Lists s key.Inward ms
inward_list v s part.System ms kept l = never l
inward_list v s part.Signal ms kept l = never l
inward_list v s part.Gate ms kept l = (kept.1.inward.items, kept.2.inward)
inward_list v s part.Channel ms kept l = never l
inward_list One s part.Block ms kept l = never l
inward_list Two s part.Block ms kept l = never l
inward_list v s part.BlockGate ms kept l = (kept.1.inward.items, kept.2.inward)
inward_list v s part.BlockChannel ms kept l = never l
inward_list v s part.Set ms kept l = never l
inward_list v s part.SetGate ms kept l = (kept.1.inward.items, kept.2.inward)

outward_list : (v : Version) (s : Structure) (q : Part) (ms : Members) → IsKept v s q ms → is_key v q key.Outward ≡ true → Lists s key.Outward ms
outward_list v s part.System ms kept l = never l
outward_list v s part.Signal ms kept l = never l
outward_list v s part.Gate ms kept l = (kept.1.outward.items, kept.2.outward)
outward_list v s part.Channel ms kept l = never l
outward_list One s part.Block ms kept l = never l
outward_list Two s part.Block ms kept l = never l
outward_list v s part.BlockGate ms kept l = (kept.1.outward.items, kept.2.outward)
outward_list v s part.BlockChannel ms kept l = never l
outward_list v s part.Set ms kept l = never l
outward_list v s part.SetGate ms kept l = (kept.1.outward.items, kept.2.outward)

forth_list : (v : Version) (s : Structure) (q : Part) (ms : Members) → IsKept v s q ms → is_key v q key.Forth ≡ true → Lists s key.Forth ms
forth_list v s part.System ms kept l = never l
forth_list v s part.Signal ms kept l = never l
forth_list v s part.Gate ms kept l = never l
forth_list v s part.Channel ms kept l = (kept.1.forth.items, kept.2.forth)
forth_list One s part.Block ms kept l = never l
forth_list Two s part.Block ms kept l = never l
forth_list v s part.BlockGate ms kept l = never l
forth_list v s part.BlockChannel ms kept l = (kept.1.forth.items, kept.2.forth)
forth_list v s part.Set ms kept l = never l
forth_list v s part.SetGate ms kept l = never l

back_list : (v : Version) (s : Structure) (q : Part) (ms : Members) → IsKept v s q ms → is_key v q key.Back ≡ true → Lists s key.Back ms
back_list v s part.System ms kept l = never l
back_list v s part.Signal ms kept l = never l
back_list v s part.Gate ms kept l = never l
back_list v s part.Channel ms kept l = (kept.1.back.items, kept.2.back)
back_list One s part.Block ms kept l = never l
back_list Two s part.Block ms kept l = never l
back_list v s part.BlockGate ms kept l = never l
back_list v s part.BlockChannel ms kept l = (kept.1.back.items, kept.2.back)
back_list v s part.Set ms kept l = never l
back_list v s part.SetGate ms kept l = never l

pub signal_list : (v : Version) (s : Structure) (q : Part) (k : Key) (ms : Members) → IsKept v s q ms → is_key v q k ≡ true → kind_of k ≡ signals → Lists s k ms
signal_list v s q k ms kept l kind = choose (signals_key k kind)
  where
    at : (j : Key) → k ≡ j → is_key v q j ≡ true
    at j e = subst (λ k. is_key v q k ≡ true) e l

    choose : (k ≡ key.Inward) ⊎ (k ≡ key.Outward) ⊎ (k ≡ key.Forth) ⊎ (k ≡ key.Back) → Lists s k ms
    choose (inl e) = subst (λ k. Lists s k ms) (sym e) (inward_list v s q ms kept (at key.Inward e))
    choose (inr (inl e)) = subst (λ k. Lists s k ms) (sym e) (outward_list v s q ms kept (at key.Outward e))
    choose (inr (inr (inl e))) = subst (λ k. Lists s k ms) (sym e) (forth_list v s q ms kept (at key.Forth e))
    choose (inr (inr (inr e))) = subst (λ k. Lists s k ms) (sym e) (back_list v s q ms kept (at key.Back e))

pub none_duplicate : (root : Members) (s : Structure) (p : Place) → IsFileOf root s → ¬ BreaksAt root p (IsDuplicate root)
none_duplicate root s p file breaks = choose breaks.broken
  where
    choose : IsDuplicate root p (table_at root p) → ⊥
    choose (inl (e, taken)) = not_taken root s p.part p.block p.set p.item file breaks.place (subst (λ o. Contains (names_before root p) o) (sym taken.1) taken.2)
    choose (inr (kind, repeated)) =
        let kept = kept_at root s p.part p.block p.set p.item file breaks.place in
        let (ids, lists) = signal_list (own_version root) s p.part p.key (table_at root p) kept breaks.listed kind in
        not_repeated root s p.key (table_at root p) ids file lists repeated
