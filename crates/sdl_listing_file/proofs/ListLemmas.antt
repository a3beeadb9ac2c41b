-- Lists that grow while other lists are read.
use Rattle.std.proofs.Common.{◌≡◌, ℕ, zero, suc, ◌+◌, ◌<◌, ◌≤◌, List, [], ◌∷◌, ◌++◌, length, take, get_or, map, All, Some, slice_get, sym, ap, subst, ◌∙◌, append-nil, append_assoc, arith}
use Rattle.std.proofs.lemmas.List.{take_more, take_all, length-map}
use Rattle.std.proofs.lemmas.List.Concat.{flat_map-append}
use Rattle.std.proofs.lemmas.List.Elements.{All-push}
use Rattle.std.specs.Prelude.{flat_map}
use Rattle.std.specs.List.{AllZip}
use Rattle.sdl_listing_file.specs.File.{Appends}

pub the_element : {A B : Type 0} (f : A → B) (xs : List A) (i : ℕ) (x : A) (d : B) → i < length xs → x ≡ get_or xs i x → get_or (map f xs) i d ≡ f x
the_element f [] i x d h is = absurd (omega arith)
the_element f (y ∷ ys) zero x d h is = ap f (sym is)
the_element f (y ∷ ys) (suc i) x d h is = the_element f ys i x d (omega arith) is

pub the_place : {A B : Type 0} (f : A → B) (xs : List A) (i : ℕ) (x : A) → i < length xs → x ≡ get_or xs i x → slice_get (map f xs) i ≡ Some (f x)
the_place f [] i x h is = absurd (omega arith)
the_place f (y ∷ ys) zero x h is = ap (λ z. Some (f z)) (sym is)
the_place f (y ∷ ys) (suc i) x h is = the_place f ys i x (omega arith) is

-- the first elements of a list that is mapped, and one more
pub take_map_more : {A B : Type 0} (f : A → B) (xs : List A) (i : ℕ) (x : A) → i < length xs → x ≡ get_or xs i x → take (i + 1) (map f xs) ≡ take i (map f xs) ++ f x ∷ []
take_map_more f xs i x h is =
    let inside : i < length (map f xs) = rw length-map h in
    take_more (map f xs) i (f x) inside ∙ ap (λ z. take i (map f xs) ++ z ∷ []) (the_element f xs i x (f x) h is)

pub take_map_all : {A B : Type 0} (f : A → B) (xs : List A) (i : ℕ) → length xs ≤ i → take i (map f xs) ≡ map f xs
take_map_all f xs i h = let past : length (map f xs) ≤ i = rw length-map h in take_all i (map f xs) past

pub flat_map-one : {A B : Type 0} (f : A → List B) (xs : List A) (x : A) → flat_map f (xs ++ x ∷ []) ≡ flat_map f xs ++ f x
flat_map-one f xs x = flat_map-append f xs (x ∷ []) ∙ ap (λ l. flat_map f xs ++ l) (append-nil (f x))

-- what holds of each element, with one more
pub all_map_more : {A B : Type 0} (P : B → Type 0) (f : A → B) (xs : List A) (i : ℕ) (x : A) → i < length xs → x ≡ get_or xs i x → All P (take i (map f xs)) → P (f x) → All P (take (i + 1) (map f xs))
all_map_more P f xs i x h is all p = subst (λ l. All P l) (sym (take_map_more f xs i x h is)) (All-push P (take i (map f xs)) (f x) all p)

zip_append : {A B : Type 0} (R : A → B → Type 0) (xs ys : List A) (us vs : List B) → AllZip R xs us → AllZip R ys vs → AllZip R (xs ++ ys) (us ++ vs)
zip_append R [] ys [] vs h k = k
zip_append R [] ys (u ∷ us) vs h k = absurd h
zip_append R (x ∷ xs) ys [] vs h k = absurd h
zip_append R (x ∷ xs) ys (u ∷ us) vs h k = (h.0, zip_append R xs ys us vs h.1 k)

pub appends_nothing : {A B : Type 0} (R : A → B → Type 0) (bs : List B) → Appends R [] bs bs
appends_nothing R bs = ([], sym (append-nil bs), tt)

pub appends_one : {A B : Type 0} (R : A → B → Type 0) (x : A) (old new : List B) (b : B) → new ≡ old ++ b ∷ [] → R x b → Appends R (x ∷ []) old new
appends_one R x old new b e r = (b ∷ [], e, (r, tt))

pub appends_more : {A B : Type 0} (R : A → B → Type 0) (xs ys : List A) (a b c : List B) → Appends R xs a b → Appends R ys b c → Appends R (xs ++ ys) a c
appends_more R xs ys a b c (us, e, h) (vs, f, k) =
    (us ++ vs, f ∙ (ap (λ l. l ++ vs) e ∙ append_assoc a us vs), zip_append R xs ys us vs h k)

-- one more element of a list that is mapped
pub appends_map : {X A B : Type 0} (R : A → B → Type 0) (f : X → A) (xs : List X) (i : ℕ) (x : X) (a b c : List B) → i < length xs → x ≡ get_or xs i x
    → Appends R (take i (map f xs)) a b → Appends R (f x ∷ []) b c → Appends R (take (i + 1) (map f xs)) a c
appends_map R f xs i x a b c h is p q = subst (λ l. Appends R l a c) (sym (take_map_more f xs i x h is)) (appends_more R (take i (map f xs)) (f x ∷ []) a b c p q)

pub appends_map_all : {X A B : Type 0} (R : A → B → Type 0) (f : X → A) (xs : List X) (i : ℕ) (a b : List B) → length xs ≤ i → Appends R (take i (map f xs)) a b → Appends R (map f xs) a b
appends_map_all R f xs i a b past p = subst (λ l. Appends R l a b) (take_map_all f xs i past) p

-- one more element of a list that is mapped, of which several come
pub appends_flat : {X Y A B : Type 0} (R : A → B → Type 0) (g : Y → List A) (f : X → Y) (xs : List X) (i : ℕ) (x : X) (y : Y) (a b c : List B) → i < length xs → x ≡ get_or xs i x → y ≡ f x
    → Appends R (flat_map g (take i (map f xs))) a b → Appends R (g y) b c → Appends R (flat_map g (take (i + 1) (map f xs))) a c
appends_flat R g f xs i x y a b c h is same p q =
    let whole : flat_map g (take (i + 1) (map f xs)) ≡ flat_map g (take i (map f xs)) ++ g (f x) = ap (λ l. flat_map g l) (take_map_more f xs i x h is) ∙ flat_map-one g (take i (map f xs)) (f x) in
    subst (λ l. Appends R l a c) (sym whole) (appends_more R (flat_map g (take i (map f xs))) (g (f x)) a b c p (subst (λ z. Appends R (g z) b c) same q))

pub appends_flat_all : {X Y A B : Type 0} (R : A → B → Type 0) (g : Y → List A) (f : X → Y) (xs : List X) (ys : List Y) (i : ℕ) (a b : List B) → ys ≡ map f xs → length xs ≤ i
    → Appends R (flat_map g (take i (map f xs))) a b → Appends R (flat_map g ys) a b
appends_flat_all R g f xs ys i a b held past p = subst (λ l. Appends R (flat_map g l) a b) (take_map_all f xs i past ∙ sym held) p

-- all that is behind nothing
pub appends_all : {A B : Type 0} (R : A → B → Type 0) (xs : List A) (old new : List B) → old ≡ [] → Appends R xs old new → AllZip R xs new
appends_all R xs old new none (more, e, h) = subst (λ l. AllZip R xs l) (sym (e ∙ ap (λ l. l ++ more) none)) h
