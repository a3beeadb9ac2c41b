-- The lists of signals: a name that no signal has, and one that stands earlier in the list.
use Rattle.std.proofs.Common.{◌≡◌, ◌≢◌, ℕ, zero, suc, ◌+◌, ◌<◌, ◌≤◌, ◌==◌, Bool, true, false, List, [], ◌∷◌, ◌++◌, length, take, get_or, map, All, AllPairs, Contains, Option, Some, None, IsSomeAnd, slice_get, option_and_then, refl, sym, ap, subst, inl, inr, ◌∙◌, rules, arith}
use Rattle.std.proofs.lemmas.List.{take_more, take_all, length-map, length-append}
use Rattle.std.proofs.lemmas.List.Elements.{All-tail, All-push}
use Rattle.std.proofs.lemmas.List.Quantifiers.{all_pairs_push}
use Rattle.std.proofs.lemmas.Bool.Decides.{Decides-eqb, eqb_tells}
use Rattle.std.proofs.lemmas.Map.Made.{IsDistinct-from_AllPairs}
use Rattle.std.proofs.lemmas.Map.Steps.{length-le_from_distinct_below}
use Rattle.std.proofs.lemmas.Option.{slice_get_within}
use Rattle.std.proofs.Math.Dec.{eqb}
use Rattle.std.specs.List.{list_any}
use Rattle.std.proofs.lemmas.Slice.Zip.{all_zipped_more}
use Rattle.std.specs.List.{AllZip, HoldsAt}
use Rattle.toml.specs.Data.{Data, Members, as_str}
use Rattle.toml.specs.View.{view}
use Rattle.toml.specs.declared.value.Value.{Value}
use Rattle.sdl_signal.specs.declared.ids.SignalId.{SignalId}
use Rattle.sdl_signal.specs.declared.values.Sort.{Sort}
use Rattle.sdl_structure_parts.specs.declared.parts.SignalDecl.{SignalDecl}
use Rattle.sdl_structure_tables.specs.declared.place.Key.{Key}
use Rattle.sdl_structure_tables.specs.declared.place.Key.TheVariants as key
use Rattle.sdl_structure_tables.specs.declared.place.Place.{Place}
use Rattle.sdl_structure_tables.specs.declared.fault.FileFault.TheVariants as fault
use Rattle.sdl_structure_tables.specs.declared.walk.Walk.{Walk}
use Rattle.sdl_structure_tables.specs.Keys.{is_key, kind_of, signals, Kind}
use Rattle.sdl_structure_tables.specs.Tables.{text_at, elements_at, texts_at, tables_at, names_of}
use Rattle.sdl_structure_tables.specs.Names.{sort_text, IsSignalTable, NamesSignal}
use Rattle.sdl_structure_tables.specs.Faults.{HoldsText, IsKnown, IsBroken}
use Rattle.sdl_structure_tables.specs.Walks.{file_of, own, IsHere}
use Rattle.sdl_structure_tables.proofs.FaultLemmas.{breaks}

pub some_and : {A : Type 0} (o : Option A) (P : A → Type 0) → IsSomeAnd o P → (x : A) × (o ≡ Some x) × P x
some_and None P h = absurd h
some_and (Some x) P h = (x, refl, h)

-- one more element and the value that it names
pub zip_more : {A B : Type 0} (R : A → B → Type 0) (xs : List A) (ys : List B) (i : ℕ) (x : A) (y : B) → i < length xs → x ≡ get_or xs i x → AllZip R (take i xs) ys → R x y → AllZip R (take (i + 1) xs) (ys ++ y ∷ [])
zip_more R xs ys i x y h read zipped r =
    let one : take (i + 1) xs ≡ take i xs ++ x ∷ [] = take_more xs i x h ∙ ap (λ z. take i xs ++ z ∷ []) (sym read) in
    rw one (all_zipped_more R (take i xs) ys x y zipped r)

-- what is zipped of the values is zipped of their data
pub zip_view : {B : Type 0} (R : Data → B → Type 0) (vs : List Value) (ys : List B) → AllZip (λ v y. R (view v) y) vs ys → AllZip R (map view vs) ys
zip_view R [] [] h = h
zip_view R [] (y ∷ ys) h = absurd h
zip_view R (v ∷ vs) [] h = absurd h
zip_view R (v ∷ vs) (y ∷ ys) h = (h.0, zip_view R vs ys h.1)

-- after the loop over a list of texts
pub lists_all : {B : Type 0} (R : Data → B → Type 0) (k : Key) (ms : Members) (vs : List Value) (ys : List B) (i : ℕ) → elements_at k ms ≡ map view vs → length vs ≤ i → AllZip (λ v y. R (view v) y) (take i vs) ys → AllZip R (elements_at k ms) ys
lists_all R k ms vs ys i held past zipped =
    let whole : AllZip (λ v y. R (view v) y) vs ys = subst (λ ws. AllZip (λ v y. R (view v) y) ws ys) (take_all i vs past) zipped in
    rw held (zip_view R vs ys whole)

-- the text with a number in a list
pub text_in : (k : Key) (ms : Members) (vs : List Value) (i : ℕ) (v : Value) (name : List ℕ) → elements_at k ms ≡ map view vs → i < length vs → v ≡ get_or vs i v → as_str (view v) ≡ Some name → HoldsText k ms i name
text_in k ms vs i v name held h read text = rw held (at vs i h read)
  where
    at : (vs : List Value) (i : ℕ) → i < length vs → v ≡ get_or vs i v → slice_get (map as_str (map view vs)) i ≡ Some (Some name)
    at [] i h read = absurd (omega arith)
    at (w ∷ vs) zero h read = rw (← read, text) refl
    at (w ∷ vs) (suc i) h read = at vs i (omega arith) read

-- a text that is not known
pub unknown : (w : Walk) (q : Place) (k : Key) (vs : List Value) (i : ℕ) (v : Value) (name : List ℕ) → IsHere w → is_key w.version w.place.part k ≡ true → q ≡ record w.place { key = k } → elements_at k (own w) ≡ map view vs → i < length vs → v ≡ get_or vs i v → as_str (view v) ≡ Some name
    → ¬ IsKnown (file_of w) (record w.place { key = k }) (kind_of k) name → IsBroken (file_of w) (fault.UnknownName q)
unknown w q k vs i v name here listed e held h read text none = breaks w q k _ here listed e (name, i, text_in k (own w) vs i v name held h read text, none)

-- the names of the signals that are read are those of their tables
pub signal_names : (ts : List Members) (xs : List SignalDecl) → AllZip IsSignalTable ts xs → names_of ts ≡ map (λ x. Some x.name.bytes) xs
signal_names [] [] z = refl
signal_names [] (x ∷ xs) z = absurd z
signal_names (t ∷ ts) [] z = absurd z
signal_names (t ∷ ts) (x ∷ xs) z = rw (z.0.name.0, signal_names ts xs z.1) refl

-- an element of a list that is mapped, and what it is mapped from
pub found_at : {A B : Type 0} (f : A → B) (xs : List A) (i : ℕ) (d : B) → i < length (map f xs) → (x : A) × (i < length xs) × ((e : A) → get_or xs i e ≡ x) × (f x ≡ get_or (map f xs) i d)
found_at f [] i d h = absurd (omega arith)
found_at f (x ∷ xs) zero d h = (x, omega arith, λ e. refl, refl)
found_at f (x ∷ xs) (suc i) d h = let (y, a, b, e) = found_at f xs i d (omega arith) in (y, omega arith, b, e)

no_signal : (xs : List SignalDecl) (name : List ℕ) → All (λ x. x.name.bytes ≢ name) xs → Contains (map (λ x. Some x.name.bytes) xs) (Some name) → ⊥
no_signal xs name none (i, h, found) =
    let (x, a, b, e) = found_at (λ (x : SignalDecl). Some x.name.bytes) xs i (Some name) h in
    let same : Some x.name.bytes ≡ Some name = e ∙ found in
    let is : get_or xs i x ≡ x = b x in
    none i x a (ap (λ (z : SignalDecl). z.name.bytes) is ∙ cc)

pub unknown_signal : (w : Walk) (q : Place) (k : Key) (vs : List Value) (xs : List SignalDecl) (i : ℕ) (v : Value) (name : List ℕ) → IsHere w → is_key w.version w.place.part k ≡ true → q ≡ record w.place { key = k } → kind_of k ≡ signals → elements_at k (own w) ≡ map view vs → i < length vs → v ≡ get_or vs i v → as_str (view v) ≡ Some name
    → AllZip IsSignalTable (tables_at key.Signal (file_of w)) xs → All (λ x. x.name.bytes ≢ name) xs → IsBroken (file_of w) (fault.UnknownName q)
unknown_signal w q k vs xs i v name here listed e kind held h read text are none =
    unknown w q k vs i v name here listed e held h read text (λ known. not_known (subst (λ kd. IsKnown (file_of w) (record w.place { key = k }) kd name) kind known))
  where
    not_known : Contains (names_of (tables_at key.Signal (file_of w))) (Some name) → ⊥
    not_known known = no_signal xs name none (subst (λ ns. Contains ns (Some name)) (signal_names (tables_at key.Signal (file_of w)) xs are) known)

-- the element before i that a value names, and the value
pub zip_at : {A B : Type 0} (R : A → B → Type 0) (xs : List A) (ys : List B) (i m : ℕ) → AllZip R (take i xs) ys → m < length ys → (x : A) × (y : B) × (m < i) × (m < length xs) × (x ≡ get_or xs m x) × (y ≡ get_or ys m y) × R x y
zip_at R xs [] i m z h = absurd (omega arith)
zip_at R [] (w ∷ ws) zero m z h = absurd z
zip_at R [] (w ∷ ws) (suc i) m z h = absurd z
zip_at R (x ∷ xs) (w ∷ ws) zero m z h = absurd z
zip_at R (x ∷ xs) (w ∷ ws) (suc i) zero z h = (x, w, omega arith, omega arith, refl, refl, z.0)
zip_at R (x ∷ xs) (w ∷ ws) (suc i) (suc m) z h =
    let (v, y, a, b, c, d, e) = zip_at R xs ws i m z.1 (omega arith) in
    (v, y, omega arith, omega arith, c, d, e)

pub slice_get_at : {A : Type 0} (xs : List A) (i : ℕ) (P : A → Type 0) → i < length xs → HoldsAt P xs i → IsSomeAnd (slice_get xs i) P
slice_get_at [] i P h found = absurd (omega arith)
slice_get_at (x ∷ xs) zero P h found = found x
slice_get_at (x ∷ xs) (suc i) P h found = slice_get_at xs i P (omega arith) found

-- the text stands earlier in the list
pub repeated_signal : (w : Walk) (q : Place) (k : Key) (vs : List Value) (xs : List SignalDecl) (ids : List SignalId) (i j number : ℕ) (v : Value) (name : List ℕ) → IsHere w → is_key w.version w.place.part k ≡ true → q ≡ record w.place { key = k } → kind_of k ≡ signals → elements_at k (own w) ≡ map view vs → i < length vs → v ≡ get_or vs i v → as_str (view v) ≡ Some name
    → number < length xs → HoldsAt (λ x. x.name.bytes ≡ name) xs number → AllZip (λ v id. NamesSignal xs (view v) id) (take i vs) ids → j < length ids → HoldsAt (λ id. id.0 ≡ number) ids j → IsBroken (file_of w) (fault.Duplicate q)
repeated_signal w q k vs xs ids i j number v name here listed e kind held h read text inside named zipped within found =
    let (u, id, before, in_list, at_u, at_id, says) = zip_at (λ v id. NamesSignal xs (view v) id) vs ids i j zipped within in
    let same : id.0 ≡ number = ap (λ (x : SignalId). x.0) at_id ∙ found id in
    let (x, is, said) = some_and (slice_get xs id.0) (λ x. as_str (view u) ≡ Some x.name.bytes) says in
    let (y, is_y, named_y) = some_and (slice_get xs number) (λ x. x.name.bytes ≡ name) (slice_get_at xs number (λ x. x.name.bytes ≡ name) inside named) in
    let alike : x ≡ y = cc in
    let again : as_str (view u) ≡ Some name = said ∙ ap Some (ap (λ (x : SignalDecl). x.name.bytes) alike ∙ named_y) in
    breaks w q k _ here listed e (inr (kind, (name, j, i, before, text_in k (own w) vs j u name held in_list at_u again, text_in k (own w) vs i v name held h read text)))

-- a signal that stands in no list yet, of which there are at most as many as signals: the list has room
pub pairs_map : {A B : Type 0} (f : A → B) (R : B → B → Type 0) (xs : List A) → AllPairs (λ x y. R (f x) (f y)) xs → AllPairs R (map f xs)
pairs_map f R xs pairs i j d before h =
    let (x, hx, at_x, is_x) = found_at f xs i d (omega arith) in
    let (y, hy, at_y, is_y) = found_at f xs j d h in
    let r : R (f (get_or xs i x)) (f (get_or xs j x)) = pairs i j x before hy in
    subst (λ b. R b (get_or (map f xs) j d)) (ap f (at_x x) ∙ is_x) (subst (λ b. R (f (get_or xs i x)) b) (ap f (at_y x) ∙ is_y) r)

any_below : (ids : List SignalId) (q n : ℕ) → All (λ x. x.0 < n) ids → list_any (eqb q) (map (λ (x : SignalId). x.0) ids) ≡ true → q < n
any_below [] q n below any = cc
any_below (x ∷ ids) q n below any = elim (eqb_tells q x.0) [
  | inl (equal, same) ↦ (let h : x.0 < n = below 0 x (omega arith) in omega arith)
  | inr (apart, other) ↦ any_below ids q n (All-tail (λ x. x.0 < n) x ids below) (rw apart at any)
]

ids_below : (xs : List SignalDecl) (us : List Value) (ids : List SignalId) → AllZip (λ v id. NamesSignal xs (view v) id) us ids → All (λ x. x.0 < length xs) ids
ids_below xs us [] z k d h = absurd (omega arith)
ids_below xs [] (id ∷ ids) z k d h = absurd z
ids_below xs (u ∷ us) (id ∷ ids) z zero d h =
    let (x, is, said) = some_and (slice_get xs id.0) (λ x. as_str (view u) ≡ Some x.name.bytes) z.0 in
    slice_get_within xs id.0 x is
ids_below xs (u ∷ us) (id ∷ ids) z (suc k) d h = ids_below xs us ids z.1 k d (omega arith)

pub has_room : (xs : List SignalDecl) (us : List Value) (ids : List SignalId) (number : ℕ) → AllZip (λ v id. NamesSignal xs (view v) id) us ids → AllPairs (λ x y. x.0 ≢ y.0) ids → number < length xs → All (λ x. x.0 ≢ number) ids → length ids < length xs
has_room xs us ids number z pairs h new =
    let id : SignalId = record { 0 = number } in
    let all_below : All (λ x. x.0 < length xs) (ids ++ id ∷ []) = All-push (λ (x : SignalId). x.0 < length xs) ids id (ids_below xs us ids z) h in
    let apart : AllPairs (λ x y. x.0 ≢ y.0) (ids ++ id ∷ []) = all_pairs_push (λ (x y : SignalId). x.0 ≢ y.0) ids id pairs new in
    let distinct = IsDistinct-from_AllPairs Decides-eqb (map (λ (x : SignalId). x.0) (ids ++ id ∷ [])) (pairs_map (λ (x : SignalId). x.0) (λ a b. a ≢ b) (ids ++ id ∷ []) apart) in
    let few = length-le_from_distinct_below (map (λ (x : SignalId). x.0) (ids ++ id ∷ [])) (length xs) distinct (λ q any. any_below (ids ++ id ∷ []) q (length xs) all_below any) in
    omega (arith, simp (length-map, length-append) at few)
