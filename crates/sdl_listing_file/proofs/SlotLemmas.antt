-- The slots of the sets: which are taken, and what they have.
use Rattle.std.proofs.Common.{◌≡◌, ◌≢◌, ◌⊎◌, ℕ, zero, suc, ◌+◌, ◌<◌, ◌≤◌, List, [], ◌∷◌, ◌++◌, length, take, get_or, map, set, All, AllPairs, Contains, Option, Some, None, slice_get, refl, sym, ap, subst, ◌∙◌, append-nil, append_assoc, inl, inr, arith}
use Rattle.std.proofs.lemmas.List.{length-append, length-map, map_push}
use Rattle.std.specs.List.{AllByRecursion}
use Rattle.toml.specs.Data.{Members}
use Rattle.toml.specs.declared.value.Value.{Value}
use Rattle.sdl_signal.specs.declared.ids.SetId.{SetId}
use Rattle.sdl_structure_parts.specs.Structure.{Structure}
use Rattle.sdl_listing_expression_text.specs.Meanings.{set_named}
use Rattle.sdl_listing_expression_text.specs.declared.setting.Constant.{Constant}
use Rattle.sdl_listing_expression_text.specs.declared.setting.Setting.{Setting}
use Rattle.sdl_listing_body.specs.declared.listing.ListedSet.{ListedSet}
use Rattle.sdl_listing_file.specs.declared.place.AgentsKey.TheVariants as key
use Rattle.sdl_listing_file.specs.Tables.{texts_at, tables_at, text_of, table_in}
use Rattle.sdl_listing_file.specs.File.{AreNumbered, AreSlots, IsNamedIn, IsSettingOf, IsListedBy, IsListed, taken, sets_in}
use Rattle.sdl_listing_file.proofs.ListLemmas.{the_element, take_map_more, take_map_all, flat_map-one}

-- ---- slots with nothing

never_listed : (slots : List (Option ListedSet)) → AllByRecursion (λ slot. slot ≡ None) slots → (k : ℕ) (l : ListedSet) → slice_get slots k ≡ Some (Some l) → ⊥
never_listed [] all k l e = cc
never_listed (o ∷ slots) all zero l e = let none : o ≡ None = all.0 in cc
never_listed (o ∷ slots) all (suc k) l e = never_listed slots all.1 k l e

pub none_listed : (P : ListedSet → Type 0) (slots : List (Option ListedSet)) → AllByRecursion (λ slot. slot ≡ None) slots → (k : ℕ) (l : ListedSet) → slice_get slots k ≡ Some (Some l) → (l.set.0 ≡ k) × P l
none_listed P slots all k l e = absurd (never_listed slots all k l e)

pub none_taken : (slots : List (Option ListedSet)) → AllByRecursion (λ slot. slot ≡ None) slots → taken slots ≡ 0
none_taken [] all = refl
none_taken (None ∷ slots) all = none_taken slots all.1
none_taken (Some l ∷ slots) all = let bad : Some l ≡ None = all.0 in cc

pub none_more : (slots : List (Option ListedSet)) → AllByRecursion (λ slot. slot ≡ None) slots → AllByRecursion (λ slot. slot ≡ None) (slots ++ None ∷ [])
none_more [] all = (refl, tt)
none_more (o ∷ slots) all = (all.0, none_more slots all.1)

-- ---- one more slot that is taken

put_at : (slots : List (Option ListedSet)) (i : ℕ) (o : Option ListedSet) (k : ℕ) (m : ListedSet) → slice_get (set slots i o) k ≡ Some (Some m) → ((k ≡ i) × (o ≡ Some m)) ⊎ (slice_get slots k ≡ Some (Some m))
put_at [] i o k m e = inr e
put_at (s ∷ slots) zero o zero m e = inl (refl, cc)
put_at (s ∷ slots) zero o (suc k) m e = inr e
put_at (s ∷ slots) (suc i) o zero m e = inr e
put_at (s ∷ slots) (suc i) o (suc k) m e = elim (put_at slots i o k m e) [
  | inl (same, is) ↦ inl (ap suc same, is)
  | inr before ↦ inr before
]

pub listed_put : (P : ListedSet → Type 0) (slots : List (Option ListedSet)) (l : ListedSet) → AreSlots P slots → P l → (k : ℕ) (m : ListedSet) → slice_get (set slots l.set.0 (Some l)) k ≡ Some (Some m) → (m.set.0 ≡ k) × P m
listed_put P slots l are p k m e = elim (put_at slots l.set.0 (Some l) k m e) [
  | inl (at, is) ↦ (let same : l ≡ m = cc in (ap (λ (x : ListedSet). x.set.0) (sym same) ∙ sym at, subst P same p))
  | inr before ↦ are k m before
]

pub taken_put : (slots : List (Option ListedSet)) (i : ℕ) (l : ListedSet) → slice_get slots i ≡ Some None → taken (set slots i (Some l)) ≡ taken slots + 1
taken_put [] i l free = absurd (let bad : ⊥ = cc in bad)
taken_put (None ∷ slots) zero l free = omega arith
taken_put (Some m ∷ slots) zero l free = absurd (let bad : ⊥ = cc in bad)
taken_put (None ∷ slots) (suc i) l free = taken_put slots i l free
taken_put (Some m ∷ slots) (suc i) l free = let more : taken (set slots i (Some l)) ≡ taken slots + 1 = taken_put slots i l free in omega arith

free_still : (slots : List (Option ListedSet)) (i : ℕ) (o : Option ListedSet) (k : ℕ) → k ≢ i → slice_get slots k ≡ Some None → slice_get (set slots i o) k ≡ Some None
free_still [] i o k apart free = free
free_still (s ∷ slots) zero o zero apart free = absurd (apart refl)
free_still (s ∷ slots) zero o (suc k) apart free = free
free_still (s ∷ slots) (suc i) o zero apart free = free
free_still (s ∷ slots) (suc i) o (suc k) apart free = free_still slots i o k (λ same. apart (ap suc same)) free

-- the slots of the sets from this position on have nothing
abbrev pub AreFree : List (Option ListedSet) → List SetId → ℕ → Type 0
AreFree slots sets i = (k : ℕ) (d : SetId) → i ≤ k → k < length sets → slice_get slots (get_or sets k d).0 ≡ Some None

pub free_here : (slots : List (Option ListedSet)) (sets : List SetId) (i : ℕ) (x : SetId) → AreFree slots sets i → i < length sets → x ≡ get_or sets i x → slice_get slots x.0 ≡ Some None
free_here slots sets i x free h is =
    let low : i ≤ i = omega arith in
    subst (λ (y : SetId). slice_get slots y.0 ≡ Some None) (sym is) (free i x low h)

pub free_behind : (slots : List (Option ListedSet)) (sets : List SetId) (i : ℕ) (x : SetId) (o : Option ListedSet) → AllPairs (λ a b. a.0 ≢ b.0) sets → AreFree slots sets i → i < length sets → x ≡ get_or sets i x
    → AreFree (set slots x.0 o) sets (i + 1)
free_behind slots sets i x o apart free h is k d low inside =
    let past : i < k = omega arith in
    let from : i ≤ k = omega arith in
    let same : get_or sets i d ≡ x = the_same sets i x d h is in
    let other : (get_or sets k d).0 ≢ x.0 = λ e. apart i k d past inside (ap (λ (y : SetId). y.0) same ∙ sym e) in
    free_still slots x.0 o (get_or sets k d).0 other (free k d from inside)
  where
    the_same : (sets : List SetId) (i : ℕ) (x d : SetId) → i < length sets → x ≡ get_or sets i x → get_or sets i d ≡ x
    the_same [] i x d h is = absurd (omega arith)
    the_same (y ∷ sets) zero x d h is = sym is
    the_same (y ∷ sets) (suc i) x d h is = the_same sets i x d (omega arith) is

pub free_at_first : (slots seen : List (Option ListedSet)) (sets each : List SetId) → seen ≡ slots → each ≡ sets → All (λ x. slice_get seen x.0 ≡ Some None) sets → AreFree slots each 0
free_at_first slots seen sets each e f free k d low inside =
    let within : k < length sets = subst (λ (xs : List SetId). k < length xs) f inside in
    let here : slice_get seen (get_or sets k d).0 ≡ Some None = free k d within in
    let own : slice_get slots (get_or sets k d).0 ≡ Some None = subst (λ (l : List (Option ListedSet)). slice_get l (get_or sets k d).0 ≡ Some None) e here in
    subst (λ (xs : List SetId). slice_get slots (get_or xs k d).0 ≡ Some None) (sym f) own

pub named_here : (structure : Structure) (names : List (List ℕ)) (sets each : List SetId) (i : ℕ) (x : SetId) → each ≡ sets → All (IsNamedIn structure names) sets → i < length each → x ≡ get_or each i x → IsNamedIn structure names x
named_here structure names sets each i x e all h is =
    let own : All (IsNamedIn structure names) each = subst (λ (xs : List SetId). All (IsNamedIn structure names) xs) (sym e) all in
    subst (λ (y : SetId). IsNamedIn structure names y) (sym is) (own i x h)

pub is_listed : (structure : Structure) (constants : List Constant) (root b : Members) (s : Setting) (l : ListedSet) → IsListedBy s b l → IsSettingOf structure constants b s → Contains (tables_at key.Behaviour root) b
    → IsNamedIn structure (texts_at key.Sets b) s.set → IsListed structure constants root l
is_listed structure constants root b s l by of among named =
    let own : IsNamedIn structure (texts_at key.Sets b) l.set = subst (λ (x : SetId). IsNamedIn structure (texts_at key.Sets b) x) (sym by.set) named in
    (b, s, among, own, of, by)

-- ---- the sets of all behaviours

pub set_is_named : (s : Structure) (names : List (List ℕ)) (vs : List Value) (i : ℕ) (v : Value) (text : List ℕ) (set : SetId) → i < length vs → v ≡ get_or vs i v → text ≡ text_of v → names ≡ map text_of vs → set_named s text ≡ Some set
    → IsNamedIn s names set
set_is_named s names vs i v text set h is read held found =
    let inside : i < length (map text_of vs) = rw length-map h in
    let among : Contains (map text_of vs) (text_of v) = (i, inside, the_element text_of vs i v (text_of v) h is) in
    (text_of v, subst (λ ns. Contains ns (text_of v)) (sym held) among, subst (λ t. set_named s t ≡ Some set) read found)

pub named_more : (vs : List Value) (i : ℕ) (v : Value) (n m : ℕ) → i < length vs → v ≡ get_or vs i v → n ≡ length (sets_in (take i (map table_in vs))) → m ≡ n + length (texts_at key.Sets (table_in v))
    → m ≡ length (sets_in (take (i + 1) (map table_in vs)))
named_more vs i v n m h is so_far added =
    let before : List (List ℕ) = sets_in (take i (map table_in vs)) in
    let texts : List (List ℕ) = texts_at key.Sets (table_in v) in
    let whole : sets_in (take (i + 1) (map table_in vs)) ≡ before ++ texts = ap (λ l. sets_in l) (take_map_more table_in vs i v h is) ∙ flat_map-one (λ b. texts_at key.Sets b) (take i (map table_in vs)) (table_in v) in
    added ∙ (ap (λ k. k + length texts) so_far ∙ sym (ap (λ l. length l) whole ∙ length-append before texts))

pub named_all : (vs : List Value) (i n : ℕ) (behaviours : List Members) → behaviours ≡ map table_in vs → length vs ≤ i → n ≡ length (sets_in (take i (map table_in vs))) → n ≡ length (sets_in behaviours)
named_all vs i n behaviours held past so_far = so_far ∙ ap (λ l. length (sets_in l)) (take_map_all table_in vs i past ∙ sym held)

-- ---- all slots are taken

pub moved_more : (listing : List ListedSet) (l : ListedSet) (o : Option ListedSet) (rest left slots : List (Option ListedSet)) → map Some listing ++ rest ≡ slots → rest ≡ o ∷ left → o ≡ Some l → map Some (listing ++ l ∷ []) ++ left ≡ slots
moved_more listing l o rest left slots so_far first is =
    let more : map Some (listing ++ l ∷ []) ≡ map Some listing ++ Some l ∷ [] = map_push Some listing l in
    let same : rest ≡ Some l ∷ left = first ∙ ap (λ x. x ∷ left) is in
    ap (λ xs. xs ++ left) more ∙ (append_assoc (map Some listing) (Some l ∷ []) left ∙ (ap (λ xs. map Some listing ++ xs) (sym same) ∙ so_far))

pub moved_all : (listing : List ListedSet) (rest slots : List (Option ListedSet)) → map Some listing ++ rest ≡ slots → rest ≡ [] → map Some listing ≡ slots
moved_all listing rest slots so_far none = sym (append-nil (map Some listing)) ∙ (ap (λ xs. map Some listing ++ xs) (sym none) ∙ so_far)

pub listing_long : (slots : List (Option ListedSet)) (listing : List ListedSet) → map Some listing ≡ slots → length listing ≡ length slots
listing_long slots listing e = sym (length-map listing Some) ∙ ap (λ l. length l) e

pub all_taken : (slots : List (Option ListedSet)) (listing : List ListedSet) → map Some listing ≡ slots → taken slots ≡ length listing
all_taken slots listing e = subst (λ l. taken l ≡ length listing) e (whole listing)
  where
    whole : (listing : List ListedSet) → taken (map Some listing) ≡ length listing
    whole [] = refl
    whole (l ∷ listing) = ap suc (whole listing)

numbered_from : (P : ListedSet → Type 0) (n : ℕ) (listing : List ListedSet) → ((k : ℕ) (l : ListedSet) → slice_get (map Some listing) k ≡ Some (Some l) → (l.set.0 ≡ n + k) × P l) → AreNumbered n listing
numbered_from P n [] h = tt
numbered_from P n (l ∷ listing) h =
    let first : l.set.0 ≡ n + 0 = (h 0 l refl).0 in
    (omega arith, numbered_from P (suc n) listing (λ k m q. let later : m.set.0 ≡ n + suc k = (h (suc k) m q).0 in (omega arith, (h (suc k) m q).1)))

pub numbered : (P : ListedSet → Type 0) (slots : List (Option ListedSet)) (listing : List ListedSet) → map Some listing ≡ slots → AreSlots P slots → AreNumbered 0 listing
numbered P slots listing e are =
    let own : AreSlots P (map Some listing) = subst (λ l. AreSlots P l) (sym e) are in
    numbered_from P 0 listing (λ k l q. let at : l.set.0 ≡ k = (own k l q).0 in (omega arith, (own k l q).1))

listed_from : (P : ListedSet → Type 0) (listing : List ListedSet) → ((k : ℕ) (l : ListedSet) → slice_get (map Some listing) k ≡ Some (Some l) → P l) → AllByRecursion P listing
listed_from P [] h = tt
listed_from P (l ∷ listing) h = (h 0 l refl, listed_from P listing (λ k m q. h (suc k) m q))

pub all_listed : (P : ListedSet → Type 0) (slots : List (Option ListedSet)) (listing : List ListedSet) → map Some listing ≡ slots → AreSlots P slots → AllByRecursion P listing
all_listed P slots listing e are =
    let own : AreSlots P (map Some listing) = subst (λ l. AreSlots P l) (sym e) are in
    listed_from P listing (λ k l q. (own k l q).1)
