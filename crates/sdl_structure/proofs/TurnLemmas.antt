-- A turn of the walk over a list of blocks, and what follows from calls.
use Rattle.std.proofs.Common.{◌≡◌, ℕ, ◌+◌, ◌<◌, ◌≤◌, List, [], ◌∷◌, ◌++◌, map, take, get_or, length, ap, sym, subst, ◌∙◌, inl, inr, arith}
use Rattle.std.specs.Prelude.{Result, Ok, Err, IfOk, OnOk}
use Rattle.std.proofs.lemmas.Bool.{cases_eq}
use Rattle.std.proofs.lemmas.Option.{slice_get_within}
use Rattle.std.proofs.lemmas.List.{length-map}
use Rattle.toml.specs.Data.{Members, no_members}
use Rattle.toml.specs.declared.value.Value.{Value}
use Rattle.sdl_structure_parts.specs.declared.parts.Channel.{Channel}
use Rattle.sdl_structure_parts.specs.declared.parts.Scope.{Scope}
use Rattle.sdl_structure_parts.specs.declared.parts.Scope.TheVariants as scope
use Rattle.sdl_structure_tables.specs.declared.version.Version.{Version}
use Rattle.sdl_structure_tables.specs.declared.version.Version.TheVariants.{One, Two}
use Rattle.sdl_structure_tables.specs.declared.place.Key.TheVariants as key
use Rattle.sdl_structure_tables.specs.Versions.{most_blocks}
use Rattle.sdl_structure_tables.specs.Tables.{tables_at, table_in, own_version}
use Rattle.sdl_structure_tables.specs.Blocks.{BlockTable, blocks_of, block_tables, listed_in, IsBlockAt}
use Rattle.sdl_structure_tables.specs.declared.walk.Walk.{Walk}
use Rattle.sdl_structure_tables.specs.Walks.{file_of, own}
use Rattle.sdl_structure_tables.proofs.ListLemmas.{the_element, take_map_more}
use Rattle.sdl_structure.specs.declared.reading.draft.Draft.{Draft}
use Rattle.sdl_structure.specs.Drafts.{ComesTo, HasRead, levels_from, entering, placed, tables_of}
use Rattle.sdl_structure.proofs.GateLemmas.{map_get}
use Rattle.sdl_structure.proofs.OrderLemmas.{from-nothing, listed_before}
use Rattle.sdl_structure.proofs.SplitLemmas.{split_at}
use Rattle.sdl_structure.proofs.WalkLemmas.{next_is, comes_next, listed_now, listed_more, read_more}

-- a turn of the walk over a list of tables
at_most : (v : Version) → most_blocks v ≤ 64
at_most One = omega arith
at_most Two = omega arith

split_value : (vs : List Value) (i : ℕ) (v : Value) → i < length vs → v ≡ get_or vs i v → (rest : List Members) × (map table_in vs ≡ take i (map table_in vs) ++ table_in v ∷ rest)
split_value vs i v h is =
    let ts = map table_in vs in
    let inside : i < length ts = rw length-map h in
    let s = split_at ts i no_members inside in
    (s.rest, s.is ∙ ap (λ t. take i ts ++ t ∷ s.rest) (the_element table_in vs i v no_members h is))

module _ (root : Members) (d e : Draft) (at : Scope) (depth : ℕ) (vs : List Value) (i : ℕ) (value : Value) (channels : List Channel)
    (h : i < length vs) (is : value ≡ get_or vs i value) (comes : ComesTo root d at depth (map table_in vs)) (read : HasRead root d at depth (take i (map table_in vs)) channels e) where
  abbrev values : List Members
  values = map table_in vs

  abbrev ver_of : Version
  ver_of = own_version root

  comes_split : ComesTo root d at depth (take i values ++ table_in value ∷ (split_value vs i value h is).0)
  comes_split = subst (λ us. ComesTo root d at depth us) (split_value vs i value h is).1 comes

  pub turn_comes : ComesTo root e at depth (table_in value ∷ [])
  turn_comes = comes_next root d e at depth (take i values) (table_in value) (split_value vs i value h is).0 channels comes_split read

  pub turn_reads : (f : Draft) (more : List Channel) → HasRead root e at depth (table_in value ∷ []) more f → HasRead root d at depth (take (i + 1) values) (channels ++ more) f
  turn_reads f more next =
      subst (λ us. HasRead root d at depth us (channels ++ more) f) (sym (take_map_more table_in vs i value h is))
      (read_more root d e at depth (take i values) (table_in value) (split_value vs i value h is).0 channels comes_split read f more next)

  -- how many blocks the lists have that the walk has met
  pub turn_counted : (so_far : ℕ) → d.listed_blocks + length vs ≡ so_far → so_far ≡ length (tables_at key.Block root) + listed_in ver_of (take (length d.blocks.items) (block_tables root))
      → e.listed_blocks ≡ d.listed_blocks + length vs + listed_in ver_of (tables_of (entering root d at depth (take i values)))
      → e.listed_blocks ≡ length (tables_at key.Block root) + listed_in ver_of (take (length e.blocks.items) (block_tables root))
  turn_counted so_far was all now =
      let sum = listed_now root d e at depth (take i values) (table_in value) (split_value vs i value h is).0 channels comes_split read in
      omega (arith, was, all, now, sum)

  pub turn_listed : (f : Draft) → e.listed_blocks ≡ d.listed_blocks + length vs + listed_in ver_of (tables_of (entering root d at depth (take i values)))
      → f.listed_blocks ≡ e.listed_blocks + listed_in ver_of (tables_of (entering root e at depth (table_in value ∷ [])))
      → f.listed_blocks ≡ d.listed_blocks + length vs + listed_in ver_of (tables_of (entering root d at depth (take (i + 1) values)))
  turn_listed f was now =
      let sum = listed_more root d e at depth (take i values) (table_in value) (split_value vs i value h is).0 channels comes_split read in
      let next = ap (λ us. listed_in ver_of (tables_of (entering root d at depth us))) (take_map_more table_in vs i value h is) in
      omega (arith, was, now, sum, next)

-- the number of the block that comes next
pub next_table : (root : Members) (d : Draft) (at : Scope) (depth : ℕ) (t : Members) → depth ≤ 4 → ComesTo root d at depth (t ∷ []) → IsBlockAt root (length d.blocks.items) t
next_table root d at depth t shallow comes = map_get (λ (x : BlockTable). x.table) (blocks_of root) (length d.blocks.items) (placed at depth t) (next_is root d at depth t shallow comes)

pub next_few : (root : Members) (d : Draft) (at : Scope) (depth : ℕ) (t : Members) → depth ≤ 4 → ComesTo root d at depth (t ∷ []) → d.listed_blocks ≡ length (tables_at key.Block root) + listed_in (own_version root) (take (length d.blocks.items) (block_tables root))
    → d.listed_blocks ≤ most_blocks (own_version root) → length d.blocks.items < 64
next_few root d at depth t shallow comes counted few =
    let inside = slice_get_within (blocks_of root) (length d.blocks.items) (placed at depth t) (next_is root d at depth t shallow comes) in
    let one = listed_before (own_version root) 4 scope.System 1 0 (tables_at key.Block root) (length d.blocks.items) inside in
    let most = at_most (own_version root) in
    omega (arith, inside, one, most, counted, few)

-- nothing is listed in what is not there
pub none_listed : (root : Members) (d : Draft) (at : Scope) (depth : ℕ) → listed_in (own_version root) (tables_of (entering root d at depth [])) ≡ 0
none_listed root d at depth = ap (λ zs. listed_in (own_version root) (tables_of zs)) (from-nothing (own_version root) (levels_from depth) at depth (length d.blocks.items))

-- what follows for the value of a call that succeeds
pub if_ok : {A E : Type 0} (r : Result A E) (P Q : A → Type 0) → ((x : A) → P x → Q x) → IfOk r P → IfOk r Q
if_ok (Ok x) P Q f h = f x h
if_ok (Err e) P Q f h = h

pub on_ok : {A E : Type 0} (r : Result A E) (P Q : Type 0) → (P → Q) → OnOk r P → OnOk r Q
on_ok (Ok x) P Q f h = f h
on_ok (Err e) P Q f h = h

pub on_both : {A E : Type 0} (r : Result A E) (P : A → Type 0) (Q S U : Type 0) → ((x : A) → P x → Q → S → U) → IfOk r P → OnOk r Q → OnOk r S → OnOk r U
on_both (Ok x) P Q S U f p q s = f x p q s
on_both (Err e) P Q S U f p q s = q

-- where nothing may lie so deep, a list that has something does not
pub not_deepest : {A : Type 0} (xs : List A) (i d : ℕ) → i < length xs → d ≤ 5 → (d ≡ 5 → xs ≡ []) → d ≤ 4
not_deepest xs i d there most none = elim (cases_eq d 5) [
  | inl e ↦ let l = ap (λ ys. length ys) (none e) in absurd (omega (arith, l, there))
  | inr f ↦ omega (arith, most, λ (e : d ≡ 5). f e)
]

-- the same of the walk over the block's own table
pub turn_here : (w u : Walk) (e : Draft) (at : Scope) (depth : ℕ) (t : Members) → file_of u ≡ file_of w → own u ≡ t → ComesTo (file_of w) e at depth (t ∷ []) → ComesTo (file_of u) e at depth (own u ∷ [])
turn_here w u e at depth t file table comes =
    subst (λ r. ComesTo r e at depth (own u ∷ [])) (sym file) (subst (λ m. ComesTo (file_of w) e at depth (m ∷ [])) (sym table) comes)

pub counted_here : (w u : Walk) (e : Draft) → file_of u ≡ file_of w → u.version ≡ w.version → w.version ≡ own_version (file_of w) → e.listed_blocks ≡ length (tables_at key.Block (file_of w)) + listed_in (own_version (file_of w)) (take (length e.blocks.items) (block_tables (file_of w)))
    → e.listed_blocks ≡ length (tables_at key.Block (file_of u)) + listed_in u.version (take (length e.blocks.items) (block_tables (file_of u)))
counted_here w u e file version here counted =
    subst (λ v. e.listed_blocks ≡ length (tables_at key.Block (file_of u)) + listed_in v (take (length e.blocks.items) (block_tables (file_of u)))) (sym (version ∙ here))
    (subst (λ r. e.listed_blocks ≡ length (tables_at key.Block r) + listed_in (own_version (file_of w)) (take (length e.blocks.items) (block_tables r))) (sym file) counted)

pub read_here : (w u : Walk) (e f : Draft) (at : Scope) (depth : ℕ) (t : Members) (more : List Channel) → file_of u ≡ file_of w → own u ≡ t → HasRead (file_of u) e at depth (own u ∷ []) more f → HasRead (file_of w) e at depth (t ∷ []) more f
read_here w u e f at depth t more file table read =
    subst (λ r. HasRead r e at depth (t ∷ []) more f) file (subst (λ m. HasRead (file_of u) e at depth (m ∷ []) more f) table read)

pub listed_here : (w u : Walk) (e f : Draft) (at : Scope) (depth : ℕ) (t : Members) → file_of u ≡ file_of w → own u ≡ t → u.version ≡ w.version → w.version ≡ own_version (file_of w)
    → f.listed_blocks ≡ e.listed_blocks + listed_in u.version (tables_of (entering (file_of u) e at depth (own u ∷ []))) → f.listed_blocks ≡ e.listed_blocks + listed_in (own_version (file_of w)) (tables_of (entering (file_of w) e at depth (t ∷ [])))
listed_here w u e f at depth t file table version here listed =
    subst (λ v. f.listed_blocks ≡ e.listed_blocks + listed_in v (tables_of (entering (file_of w) e at depth (t ∷ [])))) (version ∙ here)
    (subst (λ r. f.listed_blocks ≡ e.listed_blocks + listed_in u.version (tables_of (entering r e at depth (t ∷ [])))) file
    (subst (λ m. f.listed_blocks ≡ e.listed_blocks + listed_in u.version (tables_of (entering (file_of u) e at depth (m ∷ [])))) table listed))

pub ok_always : {A E : Type 0} (r : Result A E) (P : Type 0) → P → OnOk r P
ok_always (Ok x) P p = p
ok_always (Err e) P p = tt
