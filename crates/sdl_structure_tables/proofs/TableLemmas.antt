-- A table as the code holds it, beside what the definitions see.
use Rattle.std.proofs.Common.{◌≡◌, ℕ, ℤ, ◌<◌, zero, suc, Bool, true, false, ◌&&◌, List, [], ◌∷◌, map, length, get_or, Option, Some, None, MatchOption, IsSomeAnd, is_some, String, Global, string_bytes, refl, sym, ap, ◌∙◌, arith}
use Rattle.std.proofs.lemmas.List.{length-map}
use Rattle.std.specs.List.{list_all}
use Rattle.std.specs.Map.{keys_of}
use Rattle.std.specs.Option.{option_map_or}
use Rattle.toml.specs.Data.{Data, Items, no_items, item, Members, no_members, as_array, as_integer}
use Rattle.toml.specs.View.{view, items_view, members_view}
use Rattle.toml.specs.declared.value.Value.{Value}
use Rattle.sdl_structure_tables.specs.declared.place.Key.{Key}
use Rattle.sdl_structure_tables.specs.Keys.{is_key_of, kind_of, is_required, is_texts, tables, Kind, whole_number, text, flag, sorts, signals, ends, nothing}
use Rattle.sdl_structure_tables.specs.Tables.{list_of, elements_of, data_at, elements_at, is_text, is_table, is_array_of, is_of_kind, has_only, table_or_none, table_in, tables_at, the_table, HasKindAt, IsArrayAt}

pub list_of-view : (vs : List Value) → list_of (items_view vs) ≡ map view vs
list_of-view [] = refl
list_of-view (v ∷ vs) = ap (λ ds. view v ∷ ds) (list_of-view vs)

pub list_all-view : (p : Data → Bool) (vs : List Value) → list_all p (map view vs) ≡ list_all (λ v. p (view v)) vs
list_all-view p [] = refl
list_all-view p (v ∷ vs) = ap (λ b. p (view v) && b) (list_all-view p vs)

pub has_only-entries : (ks : List Key) (es : List (String Global × Value)) → has_only ks (members_view es) ≡ list_all (λ k. is_key_of ks (string_bytes k)) (keys_of es)
has_only-entries ks [] = refl
has_only-entries ks (e ∷ es) = ap (λ b. is_key_of ks (string_bytes e.0) && b) (has_only-entries ks es)

-- the elements at a key that holds an array
pub elements_at-array : (k : Key) (ms : Members) (v : Value) (vs : List Value) → data_at k ms ≡ Some (view v) → as_array (view v) ≡ Some (items_view vs) → elements_at k ms ≡ map view vs
elements_at-array k ms v vs there held = rw (there, held, list_of-view vs)

-- the tables of a list, each of whose elements is one
pub tables_at-values : (k : Key) (ms : Members) (vs : List Value) → elements_at k ms ≡ map view vs → list_all (λ v. is_table (view v)) vs ≡ true → tables_at k ms ≡ map table_in vs
tables_at-values k ms vs held all = rw (held, list_all-view is_table vs ∙ all) (map_map vs)
  where
    map_map : (vs : List Value) → map table_or_none (map view vs) ≡ map table_in vs
    map_map [] = refl
    map_map (v ∷ vs) = ap (λ ts. table_in v ∷ ts) (map_map vs)

-- an array whose elements pass the test, from the elements of what stands there
and_false : (b : Bool) → b && false ≡ false
and_false true = refl
and_false false = refl

array_kind : (test : Data → Bool) (o : Option Data) (ds : List Data) (N : Type 0) → option_map_or elements_of o [] ≡ ds → list_all test ds ≡ true → MatchOption o N (λ d. is_some (as_array d) ≡ true) → MatchOption o N (λ d. is_array_of test d ≡ true)
array_kind test None ds N held all is = is
array_kind test (Some d) ds N held all is =
    let whole : list_all test (elements_of d) ≡ true = rw held all in
    rw (is, whole) refl

pub wrong_in : (test : Data → Bool) (o : Option Data) (ds : List Data) → option_map_or elements_of o [] ≡ ds → list_all test ds ≡ false → IsSomeAnd o (λ d. is_array_of test d ≡ false)
wrong_in test None [] held bad = cc
wrong_in test None (d ∷ ds) held bad = cc
wrong_in test (Some d) ds held bad =
    let part : list_all test (elements_of d) ≡ false = rw held bad in
    rw part (and_false (is_some (as_array d)))

pub match_map : {A : Type 0} (o : Option A) (N : Type 0) (P Q : A → Type 0) → ((x : A) → P x → Q x) → MatchOption o N P → MatchOption o N Q
match_map None N P Q f h = h
match_map (Some x) N P Q f h = f x h

pub some_map : {A : Type 0} (o : Option A) (P Q : A → Type 0) → ((x : A) → P x → Q x) → IsSomeAnd o P → IsSomeAnd o Q
some_map None P Q f h = h
some_map (Some x) P Q f h = f x h

-- what a list of texts is of
pub texts_kind : (kind : Kind) (d : Data) → is_texts kind ≡ true → is_of_kind kind d ≡ is_array_of is_text d
texts_kind whole_number d is = cc
texts_kind text d is = cc
texts_kind flag d is = cc
texts_kind sorts d is = refl
texts_kind signals d is = refl
texts_kind ends d is = refl
texts_kind tables d is = cc
texts_kind nothing d is = cc

pub has_texts : (k : Key) (ms : Members) (vs : List Value) → is_texts (kind_of k) ≡ true → elements_at k ms ≡ map view vs → list_all (λ v. is_text (view v)) vs ≡ true → IsArrayAt ms k → HasKindAt ms k
has_texts k ms vs kind held all is =
    match_map (data_at k ms) (is_required k ≡ false) _ _ (λ d h. texts_kind (kind_of k) d kind ∙ h) (array_kind is_text (data_at k ms) (map view vs) _ held (list_all-view is_text vs ∙ all) is)

pub has_integer : (k : Key) (ms : Members) (d : Data) (z : ℤ) → kind_of k ≡ whole_number → data_at k ms ≡ Some d → as_integer d ≡ Some z → HasKindAt ms k
has_integer k ms d z kind there is = rw (there, kind) (ap (λ o. is_some o) is)

pub has_tables : (k : Key) (ms : Members) (vs : List Value) → kind_of k ≡ tables → elements_at k ms ≡ map view vs → list_all (λ v. is_table (view v)) vs ≡ true → IsArrayAt ms k → HasKindAt ms k
has_tables k ms vs kind held all is =
    match_map (data_at k ms) (is_required k ≡ false) (λ d. is_array_of is_table d ≡ true) (λ d. is_of_kind (kind_of k) d ≡ true) (λ d h. rw kind h) (array_kind is_table (data_at k ms) (map view vs) _ held (list_all-view is_table vs ∙ all) is)
