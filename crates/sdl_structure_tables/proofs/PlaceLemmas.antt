-- The place of a table in a list, from the place of the table that holds the list.
use Rattle.std.proofs.Common.{◌≡◌, ◌≢◌, ℕ, ◌<◌, List, ◌∷◌, ◌++◌, take, Bool, true, false, length, refl, sym, ap, subst, ◌∙◌}
use Rattle.std.proofs.lemmas.Option.{slice_get_within, get_or_from_slice_get}
use Rattle.toml.specs.Data.{Members, no_members}
use Rattle.sdl_structure_tables.specs.declared.version.Version.{Version}
use Rattle.sdl_structure_tables.specs.declared.version.Version.TheVariants.{One, Two}
use Rattle.sdl_structure_tables.specs.declared.place.Key.{Key}
use Rattle.sdl_structure_tables.specs.declared.place.Key.TheVariants as key
use Rattle.sdl_structure_tables.specs.declared.place.Part.{Part}
use Rattle.sdl_structure_tables.specs.declared.place.Part.TheVariants as part
use Rattle.sdl_structure_tables.specs.declared.place.Place.{Place}
use Rattle.sdl_structure_tables.specs.Keys.{Kind, is_key, keys_of, gate_keys, channel_keys, kind_of, tables}
use Rattle.sdl_structure_tables.specs.Tables.{text_at, tables_at, the_table, names_of, agent_names, channel_names}
use Rattle.sdl_structure_tables.specs.Places.{table_of, table_at, Exists, IsPlace, part_inside, inside, block_place, names_before, names_before_in}
use Rattle.sdl_structure_tables.specs.Blocks.{IsBlockAt, block_tables, left_before, left_in_all}
use Rattle.sdl_structure_tables.specs.declared.walk.Walk.{Walk}
use Rattle.sdl_structure_tables.specs.Walks.{file_of, own, IsHere}

-- a table that may not have the key is no case, and no key but one of tables is one
never : {A : Type 0} → false ≡ true → A
never e = cc

abbrev holds_tables : Kind → Bool
holds_tables tables = true
holds_tables _ = false

at_signal : (v : Version) (root : Members) (q : Part) (b s j i : ℕ) → Exists root q b s j → is_key v q key.Signal ≡ true → i < length (tables_at key.Signal (table_of root q b s j))
    → Exists root (part_inside q key.Signal) b s i × (table_of root (part_inside q key.Signal) b s i ≡ the_table key.Signal i (table_of root q b s j))
at_signal v root part.System b s j i e l h = ((e.0, e.1, h), refl)
at_signal v root part.Signal b s j i e l h = never l
at_signal v root part.Gate b s j i e l h = never l
at_signal v root part.Channel b s j i e l h = never l
at_signal One root part.Block b s j i e l h = never l
at_signal Two root part.Block b s j i e l h = never l
at_signal v root part.BlockGate b s j i e l h = never l
at_signal v root part.BlockChannel b s j i e l h = never l
at_signal v root part.Set b s j i e l h = never l
at_signal v root part.SetGate b s j i e l h = never l

at_gate : (v : Version) (root : Members) (q : Part) (b s j i : ℕ) → Exists root q b s j → is_key v q key.Gate ≡ true → i < length (tables_at key.Gate (table_of root q b s j))
    → Exists root (part_inside q key.Gate) b s i × (table_of root (part_inside q key.Gate) b s i ≡ the_table key.Gate i (table_of root q b s j))
at_gate v root part.System b s j i e l h = ((e.0, e.1, h), refl)
at_gate v root part.Signal b s j i e l h = never l
at_gate v root part.Gate b s j i e l h = never l
at_gate v root part.Channel b s j i e l h = never l
at_gate v root part.Block b s j i e l h = ((e.0, e.1, h), refl)
at_gate v root part.BlockGate b s j i e l h = never l
at_gate v root part.BlockChannel b s j i e l h = never l
at_gate v root part.Set b s j i e l h = ((e.0, e.1, h), refl)
at_gate v root part.SetGate b s j i e l h = never l

at_set : (v : Version) (root : Members) (q : Part) (b s j i : ℕ) → Exists root q b s j → is_key v q key.Set ≡ true → i < length (tables_at key.Set (table_of root q b s j))
    → Exists root (part_inside q key.Set) b i j × (table_of root (part_inside q key.Set) b i j ≡ the_table key.Set i (table_of root q b s j))
at_set v root part.System b s j i e l h = never l
at_set v root part.Signal b s j i e l h = never l
at_set v root part.Gate b s j i e l h = never l
at_set v root part.Channel b s j i e l h = never l
at_set v root part.Block b s j i e l h = ((e.0, h, e.2), refl)
at_set v root part.BlockGate b s j i e l h = never l
at_set v root part.BlockChannel b s j i e l h = never l
at_set v root part.Set b s j i e l h = never l
at_set v root part.SetGate b s j i e l h = never l

at_channel : (v : Version) (root : Members) (q : Part) (b s j i : ℕ) → Exists root q b s j → is_key v q key.Channel ≡ true → i < length (tables_at key.Channel (table_of root q b s j))
    → Exists root (part_inside q key.Channel) b s i × (table_of root (part_inside q key.Channel) b s i ≡ the_table key.Channel i (table_of root q b s j))
at_channel v root part.System b s j i e l h = ((e.0, e.1, h), refl)
at_channel v root part.Signal b s j i e l h = never l
at_channel v root part.Gate b s j i e l h = never l
at_channel v root part.Channel b s j i e l h = never l
at_channel v root part.Block b s j i e l h = ((e.0, e.1, h), refl)
at_channel v root part.BlockGate b s j i e l h = never l
at_channel v root part.BlockChannel b s j i e l h = never l
at_channel v root part.Set b s j i e l h = never l
at_channel v root part.SetGate b s j i e l h = never l

pub inside_is : (v : Version) (root : Members) (p : Place) (k : Key) (i : ℕ) → IsPlace root p → is_key v p.part k ≡ true → kind_of k ≡ tables → k ≢ key.Block → i < length (tables_at k (table_at root p))
    → IsPlace root (inside p k i) × (table_at root (inside p k i) ≡ the_table k i (table_at root p))
inside_is v root p key.Version i e l t n h = never (ap holds_tables t)
inside_is v root p key.System i e l t n h = never (ap holds_tables t)
inside_is v root p key.Budget i e l t n h = never (ap holds_tables t)
inside_is v root p key.Signal i e l t n h = at_signal v root p.part p.block p.set p.item i e l h
inside_is v root p key.Gate i e l t n h = at_gate v root p.part p.block p.set p.item i e l h
inside_is v root p key.Block i e l t n h = absurd (n refl)
inside_is v root p key.Channel i e l t n h = at_channel v root p.part p.block p.set p.item i e l h
inside_is v root p key.Name i e l t n h = never (ap holds_tables t)
inside_is v root p key.Sorts i e l t n h = never (ap holds_tables t)
inside_is v root p key.Inward i e l t n h = never (ap holds_tables t)
inside_is v root p key.Outward i e l t n h = never (ap holds_tables t)
inside_is v root p key.Set i e l t n h = at_set v root p.part p.block p.set p.item i e l h
inside_is v root p key.Initial i e l t n h = never (ap holds_tables t)
inside_is v root p key.Maximum i e l t n h = never (ap holds_tables t)
inside_is v root p key.Ends i e l t n h = never (ap holds_tables t)
inside_is v root p key.Forth i e l t n h = never (ap holds_tables t)
inside_is v root p key.Back i e l t n h = never (ap holds_tables t)
inside_is v root p key.Nodelay i e l t n h = never (ap holds_tables t)
inside_is v root p key.Other i e l t n h = never (ap holds_tables t)

-- the place of the block of a number, where there is one
pub block_place_is : (root : Members) (b : ℕ) (t : Members) → IsBlockAt root b t → IsPlace root (block_place b) × (table_at root (block_place b) ≡ t)
block_place_is root b t there = ((slice_get_within (block_tables root) b t there, refl, refl), get_or_from_slice_get (block_tables root) b t no_members there)

-- the names before a table in a list
gates_before : (v : Version) (root : Members) (q : Part) (b s j i : ℕ) → is_key v q key.Gate ≡ true → names_before_in root (part_inside q key.Gate) b s i ≡ names_of (take i (tables_at key.Gate (table_of root q b s j)))
gates_before v root part.System b s j i e = refl
gates_before v root part.Signal b s j i e = never e
gates_before v root part.Gate b s j i e = never e
gates_before v root part.Channel b s j i e = never e
gates_before v root part.Block b s j i e = refl
gates_before v root part.BlockGate b s j i e = never e
gates_before v root part.BlockChannel b s j i e = never e
gates_before v root part.Set b s j i e = refl
gates_before v root part.SetGate b s j i e = never e

signal_names : (root : Members) (q : Part) (b s j i : ℕ) → q ≡ part.System → names_before_in root (part_inside q key.Signal) b s i ≡ names_of (take i (tables_at key.Signal (table_of root q b s j)))
signal_names root q b s j i e = subst (λ q. names_before_in root (part_inside q key.Signal) b s i ≡ names_of (take i (tables_at key.Signal (table_of root q b s j)))) (sym e) refl

set_names : (root : Members) (q : Part) (b s j i : ℕ) → q ≡ part.Block → names_before_in root (part_inside q key.Set) b i j ≡ agent_names (take b (block_tables root)) ++ text_at key.Name (table_of root q b s j) ∷ names_of (take i (tables_at key.Set (table_of root q b s j)))
set_names root q b s j i e = subst (λ q. names_before_in root (part_inside q key.Set) b i j ≡ agent_names (take b (block_tables root)) ++ text_at key.Name (table_of root q b s j) ∷ names_of (take i (tables_at key.Set (table_of root q b s j)))) (sym e) refl

top_channel_names : (root : Members) (q : Part) (b s j i : ℕ) → q ≡ part.System → names_before_in root (part_inside q key.Channel) b s i ≡ channel_names (left_in_all root) ++ names_of (take i (tables_at key.Channel (table_of root q b s j)))
top_channel_names root q b s j i e = subst (λ q. names_before_in root (part_inside q key.Channel) b s i ≡ channel_names (left_in_all root) ++ names_of (take i (tables_at key.Channel (table_of root q b s j)))) (sym e) refl

block_channel_names : (root : Members) (q : Part) (b s j i : ℕ) → q ≡ part.Block → names_before_in root (part_inside q key.Channel) b s i ≡ channel_names (left_before root b) ++ names_of (take i (tables_at key.Channel (table_of root q b s j)))
block_channel_names root q b s j i e = subst (λ q. names_before_in root (part_inside q key.Channel) b s i ≡ channel_names (left_before root b) ++ names_of (take i (tables_at key.Channel (table_of root q b s j)))) (sym e) refl

pub before_gate : (w u : Walk) (i : ℕ) (ts : List Members) → IsHere w → is_key w.version w.place.part key.Gate ≡ true → file_of u ≡ file_of w → u.place ≡ inside w.place key.Gate i → tables_at key.Gate (own w) ≡ ts → names_before (file_of u) u.place ≡ names_of (take i ts)
before_gate w u i ts here part file place held =
    ap (λ r. names_before r u.place) file ∙ ap (λ p. names_before (file_of w) p) place ∙ here_names ∙ ap (λ us. names_of (take i us)) held
  where
    here_names : names_before (file_of w) (inside w.place key.Gate i) ≡ names_of (take i (tables_at key.Gate (own w)))
    here_names = gates_before w.version (file_of w) w.place.part w.place.block w.place.set w.place.item i part ∙ ap (λ m. names_of (take i (tables_at key.Gate m))) here.table

pub before_signal : (w u : Walk) (i : ℕ) (ts : List Members) → IsHere w → w.place.part ≡ part.System → file_of u ≡ file_of w → u.place ≡ inside w.place key.Signal i → tables_at key.Signal (own w) ≡ ts → names_before (file_of u) u.place ≡ names_of (take i ts)
before_signal w u i ts here part file place held =
    ap (λ r. names_before r u.place) file ∙ ap (λ p. names_before (file_of w) p) place ∙ here_names ∙ ap (λ us. names_of (take i us)) held
  where
    here_names : names_before (file_of w) (inside w.place key.Signal i) ≡ names_of (take i (tables_at key.Signal (own w)))
    here_names = signal_names (file_of w) w.place.part w.place.block w.place.set w.place.item i part ∙ ap (λ m. names_of (take i (tables_at key.Signal m))) here.table

pub before_block : (u : Walk) (root : Members) (b : ℕ) → file_of u ≡ root → u.place ≡ block_place b → names_before (file_of u) u.place ≡ agent_names (take b (block_tables root))
before_block u root b file place = ap (λ r. names_before r u.place) file ∙ ap (λ p. names_before root p) place

pub before_set : (w u : Walk) (i : ℕ) (ts : List Members) → IsHere w → w.place.part ≡ part.Block → file_of u ≡ file_of w → u.place ≡ inside w.place key.Set i → tables_at key.Set (own w) ≡ ts → names_before (file_of u) u.place ≡ agent_names (take w.place.block (block_tables (file_of w))) ++ text_at key.Name (own w) ∷ names_of (take i ts)
before_set w u i ts here part file place held =
    ap (λ r. names_before r u.place) file ∙ ap (λ p. names_before (file_of w) p) place ∙ here_names ∙ ap (λ us. agent_names (take w.place.block (block_tables (file_of w))) ++ text_at key.Name (own w) ∷ names_of (take i us)) held
  where
    here_names : names_before (file_of w) (inside w.place key.Set i) ≡ agent_names (take w.place.block (block_tables (file_of w))) ++ text_at key.Name (own w) ∷ names_of (take i (tables_at key.Set (own w)))
    here_names = set_names (file_of w) w.place.part w.place.block w.place.set w.place.item i part ∙ ap (λ m. agent_names (take w.place.block (block_tables (file_of w))) ++ text_at key.Name m ∷ names_of (take i (tables_at key.Set m))) here.table

pub before_top_channel : (w u : Walk) (i : ℕ) (ts : List Members) → IsHere w → w.place.part ≡ part.System → file_of u ≡ file_of w → u.place ≡ inside w.place key.Channel i → tables_at key.Channel (own w) ≡ ts → names_before (file_of u) u.place ≡ channel_names (left_in_all (file_of w)) ++ names_of (take i ts)
before_top_channel w u i ts here part file place held =
    ap (λ r. names_before r u.place) file ∙ ap (λ p. names_before (file_of w) p) place ∙ here_names ∙ ap (λ us. channel_names (left_in_all (file_of w)) ++ names_of (take i us)) held
  where
    here_names : names_before (file_of w) (inside w.place key.Channel i) ≡ channel_names (left_in_all (file_of w)) ++ names_of (take i (tables_at key.Channel (own w)))
    here_names = top_channel_names (file_of w) w.place.part w.place.block w.place.set w.place.item i part ∙ ap (λ m. channel_names (left_in_all (file_of w)) ++ names_of (take i (tables_at key.Channel m))) here.table

pub before_block_channel : (w u : Walk) (i : ℕ) (ts : List Members) → IsHere w → w.place.part ≡ part.Block → file_of u ≡ file_of w → u.place ≡ inside w.place key.Channel i → tables_at key.Channel (own w) ≡ ts → names_before (file_of u) u.place ≡ channel_names (left_before (file_of w) w.place.block) ++ names_of (take i ts)
before_block_channel w u i ts here part file place held =
    ap (λ r. names_before r u.place) file ∙ ap (λ p. names_before (file_of w) p) place ∙ here_names ∙ ap (λ us. channel_names (left_before (file_of w) w.place.block) ++ names_of (take i us)) held
  where
    here_names : names_before (file_of w) (inside w.place key.Channel i) ≡ channel_names (left_before (file_of w) w.place.block) ++ names_of (take i (tables_at key.Channel (own w)))
    here_names = block_channel_names (file_of w) w.place.part w.place.block w.place.set w.place.item i part ∙ ap (λ m. channel_names (left_before (file_of w) w.place.block) ++ names_of (take i (tables_at key.Channel m))) here.table

-- the top table is the whole file
pub top_is : (w : Walk) → IsHere w → w.place.part ≡ part.System → own w ≡ file_of w
top_is w here top = sym here.table ∙ ap (λ q. table_of (file_of w) q w.place.block w.place.set w.place.item) top

-- the keys of a gate's table, and of a channel's
gate_keys_in : (v : Version) (q : Part) → is_key v q key.Gate ≡ true → keys_of v (part_inside q key.Gate) ≡ gate_keys
gate_keys_in v part.System e = refl
gate_keys_in v part.Signal e = never e
gate_keys_in v part.Gate e = never e
gate_keys_in v part.Channel e = never e
gate_keys_in v part.Block e = refl
gate_keys_in v part.BlockGate e = never e
gate_keys_in v part.BlockChannel e = never e
gate_keys_in v part.Set e = refl
gate_keys_in v part.SetGate e = never e

pub gate_keys_inside : (v : Version) (p q : Place) (i : ℕ) → is_key v p.part key.Gate ≡ true → q ≡ inside p key.Gate i → keys_of v q.part ≡ gate_keys
gate_keys_inside v p q i listed e = ap (λ (r : Place). keys_of v r.part) e ∙ gate_keys_in v p.part listed

channel_keys_in : (v : Version) (q : Part) → is_key v q key.Channel ≡ true → keys_of v (part_inside q key.Channel) ≡ channel_keys
channel_keys_in v part.System e = refl
channel_keys_in v part.Signal e = never e
channel_keys_in v part.Gate e = never e
channel_keys_in v part.Channel e = never e
channel_keys_in v part.Block e = refl
channel_keys_in v part.BlockGate e = never e
channel_keys_in v part.BlockChannel e = never e
channel_keys_in v part.Set e = never e
channel_keys_in v part.SetGate e = never e

pub channel_keys_inside : (v : Version) (p q : Place) (i : ℕ) → is_key v p.part key.Channel ≡ true → q ≡ inside p key.Channel i → keys_of v q.part ≡ channel_keys
channel_keys_inside v p q i listed e = ap (λ (r : Place). keys_of v r.part) e ∙ channel_keys_in v p.part listed
