-- Lists of tables in the file, beside the parts that they name, and the names that are taken on the way.
use Rattle.std.proofs.Common.{◌≡◌, ◌≢◌, ℕ, zero, suc, ◌+◌, ◌<◌, ◌≤◌, List, [], ◌∷◌, ◌++◌, length, take, get_or, map, All, AllPairs, Bool, true, Option, Some, None, IsSomeAnd, slice_get, refl, sym, ap, subst, ◌∙◌, rules, arith}
use Rattle.std.proofs.lemmas.List.{take_more, take_all, length-map, append_assoc}
use Rattle.std.proofs.lemmas.List.Elements.{All-map}
use Rattle.std.proofs.lemmas.List.Quantifiers.{all_pairs_push}
use Rattle.std.proofs.lemmas.Slice.Zip.{all_zipped_more}
use Rattle.std.specs.List.{AllZip, HoldsAt}
use Rattle.arrayvec.specs.ArrayString.{ArrayString}
use Rattle.toml.specs.Data.{Data, Members, no_members, as_str}
use Rattle.toml.specs.View.{view}
use Rattle.toml.specs.declared.value.Value.{Value}
use Rattle.sdl_structure_tables.specs.declared.place.Key.TheVariants as key
use Rattle.sdl_structure_tables.specs.declared.place.Key.{Key}
use Rattle.sdl_structure_tables.specs.Tables.{text_at, table_in, names_of, is_table, tables_at, the_table}
use Rattle.sdl_structure_tables.specs.Walks.{name_texts}

pub the_element : {A B : Type 0} (f : A → B) (xs : List A) (i : ℕ) (x : A) (d : B) → i < length xs → x ≡ get_or xs i x → get_or (map f xs) i d ≡ f x
the_element f [] i x d h is = absurd (omega arith)
the_element f (y ∷ ys) zero x d h is = ap f (sym is)
the_element f (y ∷ ys) (suc i) x d h is = the_element f ys i x d (omega arith) is

-- the first elements of a list that is mapped, and one more
pub take_map_more : {A B : Type 0} (f : A → B) (xs : List A) (i : ℕ) (x : A) → i < length xs → x ≡ get_or xs i x → take (i + 1) (map f xs) ≡ take i (map f xs) ++ f x ∷ []
take_map_more f xs i x h is =
    let inside : i < length (map f xs) = rw length-map h in
    take_more (map f xs) i (f x) inside ∙ ap (λ z. take i (map f xs) ++ z ∷ []) (the_element f xs i x (f x) h is)

pub take_map_all : {A B : Type 0} (f : A → B) (xs : List A) (i : ℕ) → length xs ≤ i → take i (map f xs) ≡ map f xs
take_map_all f xs i h = let past : length (map f xs) ≤ i = rw length-map h in take_all i (map f xs) past

pub name_texts-more : (names : List ArrayString) (n : ArrayString) → name_texts (names ++ n ∷ []) ≡ name_texts names ++ Some n.bytes ∷ []
name_texts-more [] n = refl
name_texts-more (m ∷ names) n = ap (λ z. Some m.bytes ∷ z) (name_texts-more names n)

pub names_of-more : (ts : List Members) (t : Members) → names_of (ts ++ t ∷ []) ≡ names_of ts ++ text_at key.Name t ∷ []
names_of-more [] t = refl
names_of-more (u ∷ ts) t = ap (λ z. text_at key.Name u ∷ z) (names_of-more ts t)

-- no name of the list has these bytes, so that one with these bytes may join
pub apart-more : (names : List ArrayString) (n : ArrayString) → AllPairs (λ a b. a ≢ b) (name_texts names) → All (λ m. m.bytes ≢ n.bytes) names → AllPairs (λ a b. a ≢ b) (name_texts (names ++ n ∷ []))
apart-more names n apart none = rw (name_texts-more names n) (all_pairs_push (λ a b. a ≢ b) (name_texts names) (Some n.bytes) apart (none_of names none))
  where
    none_of : (names : List ArrayString) → All (λ m. m.bytes ≢ n.bytes) names → All (λ a. a ≢ Some n.bytes) (name_texts names)
    none_of names none = All-map (λ a. a ≢ Some n.bytes) (λ (m : ArrayString). Some m.bytes) names (λ k d h e. none k d h (cc))

-- the tables that are read, the parts that they name, and the names that are taken after those before
pub record AreRead {X : Type 0} (R : Members → X → Type 0) (before : List (Option (List ℕ))) (ts : List Members) (xs : List X) (taken : List ArrayString) : Type 0 where
  pub named : AllZip R ts xs
  pub names : name_texts taken ≡ before ++ names_of ts
  pub apart : AllPairs (λ a b. a ≢ b) (name_texts taken)

pub read_more : {X : Type 0} (R : Members → X → Type 0) (before : List (Option (List ℕ))) (vs : List Value) (i : ℕ) (v : Value) (xs : List X) (taken : List ArrayString) (x : X) (n : ArrayString)
    → i < length vs → v ≡ get_or vs i v → AreRead R before (take i (map table_in vs)) xs taken → R (table_in v) x → text_at key.Name (table_in v) ≡ Some n.bytes → All (λ m. m.bytes ≢ n.bytes) taken
    → AreRead R before (take (i + 1) (map table_in vs)) (xs ++ x ∷ []) (taken ++ n ∷ [])
read_more R before vs i v xs taken x n h is read r name none =
    let one = take_map_more table_in vs i v h is in
    record {
      named = rw one (all_zipped_more R (take i (map table_in vs)) xs (table_in v) x read.named r);
      names = rw (one, name_texts-more taken n, names_of-more (take i (map table_in vs)) (table_in v), read.names, name, append_assoc) refl;
      apart = apart-more taken n read.apart none;
    }

pub read_all : {X : Type 0} (R : Members → X → Type 0) (before : List (Option (List ℕ))) (vs : List Value) (i : ℕ) (xs : List X) (taken : List ArrayString) → length vs ≤ i → AreRead R before (take i (map table_in vs)) xs taken → AreRead R before (map table_in vs) xs taken
read_all R before vs i xs taken h read = subst (λ ts. AreRead R before ts xs taken) (take_map_all table_in vs i h) read

pub zip_length : {A B : Type 0} (R : A → B → Type 0) (xs : List A) (ys : List B) → AllZip R xs ys → length ys ≡ length xs
zip_length R [] [] z = refl
zip_length R [] (y ∷ ys) z = absurd z
zip_length R (x ∷ xs) [] z = absurd z
zip_length R (x ∷ xs) (y ∷ ys) z = ap suc (zip_length R xs ys z.1)

pub zip_map : {A B C : Type 0} (f : A → C) (R : C → B → Type 0) (xs : List A) (ys : List B) → AllZip (λ x y. R (f x) y) xs ys → AllZip R (map f xs) ys
zip_map f R [] [] z = z
zip_map f R [] (y ∷ ys) z = absurd z
zip_map f R (x ∷ xs) [] z = absurd z
zip_map f R (x ∷ xs) (y ∷ ys) z = (z.0, zip_map f R xs ys z.1)

-- an element of a list of tables
pub record IsElement (k : Key) (ms : Members) (i : ℕ) (v : Value) : Type 0 where
  pub table : is_table (view v) ≡ true
  pub there : the_table k i ms ≡ table_in v
  pub within : i < length (tables_at k ms)

pub element : (k : Key) (ms : Members) (vs : List Value) (i : ℕ) (v : Value) → tables_at k ms ≡ map table_in vs → All (λ v. is_table (view v) ≡ true) vs → i < length vs → v ≡ get_or vs i v → IsElement k ms i v
element k ms vs i v held each h is = record {
  table = subst (λ u. is_table (view u) ≡ true) (sym is) (each i v h);
  there = ap (λ ts. get_or ts i no_members) held ∙ the_element table_in vs i v no_members h is;
  within = subst (λ ts. i < length ts) (sym held) (rw length-map h);
}

-- the whole list is read
pub record IsAllRead {X : Type 0} (R : Members → X → Type 0) (before : List (Option (List ℕ))) (ts : List Members) (vs : List Value) (xs : List X) (taken : List ArrayString) : Type 0 where
  pub named : AllZip R ts xs
  pub names : name_texts taken ≡ before ++ names_of ts
  pub apart : AllPairs (λ a b. a ≢ b) (name_texts taken)
  pub len : length xs ≡ length vs

length_map : (vs : List Value) → length (map table_in vs) ≡ length vs
length_map [] = refl
length_map (v ∷ vs) = ap suc (length_map vs)

pub all_read : {X : Type 0} (R : Members → X → Type 0) (before : List (Option (List ℕ))) (ts : List Members) (vs : List Value) (i : ℕ) (xs : List X) (taken : List ArrayString) → ts ≡ map table_in vs → length vs ≤ i → AreRead R before (take i (map table_in vs)) xs taken → IsAllRead R before ts vs xs taken
all_read R before ts vs i xs taken held h read =
    let whole = read_all R before vs i xs taken h read in
    record {
      named = subst (λ us. AllZip R us xs) (sym held) whole.named;
      names = whole.names ∙ ap (λ us. before ++ names_of us) (sym held);
      apart = whole.apart;
      len = zip_length R (map table_in vs) xs whole.named ∙ length_map vs;
    }

-- the names of tables that are all read are those that are taken
pub names_apart : {X : Type 0} (R : Members → X → Type 0) (ts : List Members) (vs : List Value) (xs : List X) (taken : List ArrayString) → IsAllRead R [] ts vs xs taken → AllPairs (λ a b. a ≢ b) (names_of ts)
names_apart R ts vs xs taken all = subst (λ ns. AllPairs (λ a b. a ≢ b) ns) all.names all.apart
