-- A table as the code holds it, beside what the definitions see, and where it stands in the file.
use Rattle.std.proofs.Common.{◌≡◌, ℕ, ◌<◌, true, ◌&&◌, List, [], ◌∷◌, map, length, get_or, All, Contains, Some, String, Global, string_bytes, refl, sym, ap, subst, ◌∙◌}
use Rattle.std.proofs.lemmas.List.{length-map}
use Rattle.std.specs.List.{list_all}
use Rattle.std.specs.Map.{keys_of}
use Rattle.toml.specs.Data.{Data, Members, no_members, as_array}
use Rattle.toml.specs.View.{view, items_view, members_view}
use Rattle.toml.specs.declared.value.Value.{Value}
use Rattle.sdl_listing_file.specs.declared.place.AgentsPart.{AgentsPart}
use Rattle.sdl_listing_file.specs.declared.place.AgentsPart.TheVariants as part
use Rattle.sdl_listing_file.specs.declared.place.AgentsKey.{AgentsKey}
use Rattle.sdl_listing_file.specs.declared.place.AgentsKey.TheVariants as key
use Rattle.sdl_listing_file.specs.declared.walk.Walk.{Walk}
use Rattle.sdl_listing_file.specs.Keys.{is_key_of}
use Rattle.sdl_listing_file.specs.Tables.{list_of, data_at, elements_at, texts_at, tables_at, is_table, text_of, text_in, table_or_none, table_in, has_only, the_table, table_at, Exists}
use Rattle.sdl_listing_file.specs.Walks.{file_of, own, IsHere}
use Rattle.sdl_listing_file.proofs.ListLemmas.{the_element}

pub list_of-view : (vs : List Value) → list_of (items_view vs) ≡ map view vs
list_of-view [] = refl
list_of-view (v ∷ vs) = ap (λ ds. view v ∷ ds) (list_of-view vs)

pub has_only-entries : (ks : List AgentsKey) (es : List (String Global × Value)) → has_only ks (members_view es) ≡ list_all (λ k. is_key_of ks (string_bytes k)) (keys_of es)
has_only-entries ks [] = refl
has_only-entries ks (e ∷ es) = ap (λ b. is_key_of ks (string_bytes e.0) && b) (has_only-entries ks es)

-- the elements at a key that holds an array
pub elements_at-array : (k : AgentsKey) (ms : Members) (v : Value) (vs : List Value) → data_at k ms ≡ Some (view v) → as_array (view v) ≡ Some (items_view vs) → elements_at k ms ≡ map view vs
elements_at-array k ms v vs there held = rw (there, held, list_of-view vs)

map_map : {A : Type 0} (f : Data → A) (vs : List Value) → map f (map view vs) ≡ map (λ v. f (view v)) vs
map_map f [] = refl
map_map f (v ∷ vs) = ap (λ l. f (view v) ∷ l) (map_map f vs)

pub texts_at-values : (k : AgentsKey) (ms : Members) (vs : List Value) → elements_at k ms ≡ map view vs → texts_at k ms ≡ map text_of vs
texts_at-values k ms vs held = ap (λ ds. map text_in ds) held ∙ map_map text_in vs

pub tables_at-values : (k : AgentsKey) (ms : Members) (vs : List Value) → elements_at k ms ≡ map view vs → tables_at k ms ≡ map table_in vs
tables_at-values k ms vs held = ap (λ ds. map table_or_none ds) held ∙ map_map table_or_none vs

-- an element of a list of tables
pub record IsElement (k : AgentsKey) (ms : Members) (i : ℕ) (v : Value) : Type 0 where
  pub table : is_table (view v) ≡ true
  pub there : the_table k i ms ≡ table_in v
  pub within : i < length (tables_at k ms)
  pub among : Contains (tables_at k ms) (table_in v)

pub element : (k : AgentsKey) (ms : Members) (vs : List Value) (i : ℕ) (v : Value) → tables_at k ms ≡ map table_in vs → All (λ v. is_table (view v) ≡ true) vs → i < length vs → v ≡ get_or vs i v → IsElement k ms i v
element k ms vs i v held each h is =
    let inside : i < length (map table_in vs) = rw length-map h in
    let within : Contains (map table_in vs) (table_in v) = (i, inside, the_element table_in vs i v (table_in v) h is) in
    record {
      table = subst (λ u. is_table (view u) ≡ true) (sym is) (each i v h);
      there = ap (λ ts. get_or ts i no_members) held ∙ the_element table_in vs i v no_members h is;
      within = subst (λ ts. i < length ts) (sym held) inside;
      among = subst (λ ts. Contains ts (table_in v)) (sym held) within;
    }

-- the table of a walk over the whole file, and that of one over a behaviour
pub top_is : (w : Walk) → IsHere w → w.place.part ≡ part.Agents → own w ≡ file_of w
top_is w here is = sym here.table ∙ ap (λ p. table_at (file_of w) p w.place.behaviour w.place.state) is

pub behaviour_is : (w : Walk) → IsHere w → w.place.part ≡ part.Behaviour → own w ≡ the_table key.Behaviour w.place.behaviour (file_of w)
behaviour_is w here is = sym here.table ∙ ap (λ p. table_at (file_of w) p w.place.behaviour w.place.state) is

-- where there is a behaviour, and a group in it
pub behaviour_exists : (w : Walk) → IsHere w → w.place.part ≡ part.Behaviour → w.place.behaviour < length (tables_at key.Behaviour (file_of w))
behaviour_exists w here is = (subst (λ (p : AgentsPart). Exists (file_of w) p w.place.behaviour w.place.state) is here.place).0
