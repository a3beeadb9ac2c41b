-- Elements of lists by their places.
use Rattle.std.proofs.Common.{ℕ, zero, suc, ◌+◌, ◌<◌, List, [], ◌∷◌, ◌++◌, length, map, get_or, slice_get, Some, All, ◌≡◌, refl, ap, ◌∙◌, subst, arith}
use Rattle.std.proofs.lemmas.Option.{none-some, same_Some}
use Rattle.std.specs.List.{AllByRecursion, AllZip}
use Rattle.sdl_forward_ends.specs.Ends.{WorkerEnds}
use Rattle.sdl_run.specs.Sharing.{paired}

pub all_places : {X : Type 0} (P : X → Type 0) (xs : List X) → ((k : ℕ) (x : X) → slice_get xs k ≡ Some x → P x) → AllByRecursion P xs
all_places P [] h = tt
all_places P (x ∷ xs) h = (h 0 x refl, all_places P xs (λ k y e. h (suc k) y e))

one_more : {X : Type 0} (P : X → Type 0) (y : X) (ys : List X) → P y → All P ys → (n : ℕ) (x : X) → n < length (y ∷ ys) → P (get_or (y ∷ ys) n x)
one_more P y ys h all zero x less = h
one_more P y ys h all (suc n) x less = all n x (omega (arith, less))

pub all_of : {X : Type 0} (P : X → Type 0) (xs : List X) → AllByRecursion P xs → All P xs
all_of P [] h = λ n x less. absurd (omega (arith, less))
all_of P (y ∷ ys) h = one_more P y ys h.0 (all_of P ys h.1)

pub front : {X : Type 0} (xs ys : List X) (k : ℕ) (x : X) → slice_get xs k ≡ Some x → slice_get (xs ++ ys) k ≡ Some x
front [] ys k x e = absurd (none-some x e)
front (z ∷ zs) ys zero x e = e
front (z ∷ zs) ys (suc k) x e = front zs ys k x e

pub behind : {X : Type 0} (xs ys : List X) (n k : ℕ) → n ≡ length xs + k → slice_get (xs ++ ys) n ≡ slice_get ys k
behind [] ys n k e = ap (slice_get ys) (omega (arith, e))
behind (x ∷ xs) ys zero k e = absurd (omega (arith, e))
behind (x ∷ xs) ys (suc n) k e = behind xs ys n k (omega (arith, e))

pub at_map : {X Y : Type 0} (f : X → Y) (xs : List X) (k : ℕ) (y : Y) → slice_get (map f xs) k ≡ Some y → (x : X) × (slice_get xs k ≡ Some x) × (f x ≡ y)
at_map f [] k y e = absurd (none-some y e)
at_map f (x ∷ xs) zero y e = (x, refl, same_Some (f x) y e)
at_map f (x ∷ xs) (suc k) y e = at_map f xs k y e

pub map_at : {X Y : Type 0} (f : X → Y) (xs : List X) (k : ℕ) (x : X) → slice_get xs k ≡ Some x → slice_get (map f xs) k ≡ Some (f x)
map_at f [] k x e = absurd (none-some x e)
map_at f (y ∷ ys) zero x e = ap (λ z. Some (f z)) (same_Some y x e)
map_at f (y ∷ ys) (suc k) x e = map_at f ys k x e

-- what stands at a place among those with their ends
pub at_paired : {X W : Type 0} (f : X → WorkerEnds → W) (xs : List X) (es : List WorkerEnds) (k : ℕ) (w : W) → slice_get (paired f xs es) k ≡ Some w
    → (x : X) × (e : WorkerEnds) × (slice_get xs k ≡ Some x) × (slice_get es k ≡ Some e) × (f x e ≡ w)
at_paired f [] es k w h = absurd (none-some w h)
at_paired f (x ∷ xs) [] k w h = absurd (none-some w h)
at_paired f (x ∷ xs) (e ∷ es) zero w h = (x, e, refl, refl, same_Some (f x e) w h)
at_paired f (x ∷ xs) (e ∷ es) (suc k) w h = at_paired f xs es k w h

-- the one of the first list at the place of one of the second
pub zip_left : {A B : Type 0} (R : A → B → Type 0) (xs : List A) (ys : List B) → AllZip R xs ys → (k : ℕ) (y : B) → slice_get ys k ≡ Some y → (x : A) × (slice_get xs k ≡ Some x) × R x y
zip_left R [] [] h k y e = absurd (none-some y e)
zip_left R [] (z ∷ ys) h k y e = absurd h
zip_left R (x ∷ xs) [] h k y e = absurd h
zip_left R (x ∷ xs) (z ∷ ys) h zero y e = (x, refl, subst (λ v. R x v) (same_Some z y e) h.0)
zip_left R (x ∷ xs) (z ∷ ys) h (suc k) y e = zip_left R xs ys h.1 k y e

-- where f is the same of both, place by place, the lists of f are the same
pub zip_map : {A B C : Type 0} (R : A → B → Type 0) (f : A → C) (g : B → C) (xs : List A) (ys : List B) → ((x : A) (y : B) → R x y → g y ≡ f x) → AllZip R xs ys → map g ys ≡ map f xs
zip_map R f g [] [] h all = refl
zip_map R f g [] (y ∷ ys) h all = absurd all
zip_map R f g (x ∷ xs) [] h all = absurd all
zip_map R f g (x ∷ xs) (y ∷ ys) h all = ap (λ z. z ∷ map g ys) (h x y all.0) ∙ ap (λ zs. f x ∷ zs) (zip_map R f g xs ys h all.1)

-- those that were paired, and their ends
pub paired_left : {X W : Type 0} (f : X → WorkerEnds → W) (p : W → X) → ((x : X) (e : WorkerEnds) → p (f x e) ≡ x) → (xs : List X) (es : List WorkerEnds) → length es ≡ length xs → map p (paired f xs es) ≡ xs
paired_left f p h [] es n = refl
paired_left f p h (x ∷ xs) [] n = absurd (omega (arith, n))
paired_left f p h (x ∷ xs) (e ∷ es) n = ap (λ z. z ∷ map p (paired f xs es)) (h x e) ∙ ap (λ zs. x ∷ zs) (paired_left f p h xs es (omega (arith, n)))

pub paired_right : {X W : Type 0} (f : X → WorkerEnds → W) (p : W → WorkerEnds) → ((x : X) (e : WorkerEnds) → p (f x e) ≡ e) → (xs : List X) (es : List WorkerEnds) → length es ≡ length xs → map p (paired f xs es) ≡ es
paired_right f p h [] [] n = refl
paired_right f p h [] (e ∷ es) n = absurd (omega (arith, n))
paired_right f p h (x ∷ xs) [] n = absurd (omega (arith, n))
paired_right f p h (x ∷ xs) (e ∷ es) n = ap (λ z. z ∷ map p (paired f xs es)) (h x e) ∙ ap (λ zs. e ∷ zs) (paired_right f p h xs es (omega (arith, n)))

pub paired_length : {X W : Type 0} (f : X → WorkerEnds → W) (xs : List X) (es : List WorkerEnds) → length es ≡ length xs → length (paired f xs es) ≡ length xs
paired_length f [] es n = refl
paired_length f (x ∷ xs) [] n = absurd (omega (arith, n))
paired_length f (x ∷ xs) (e ∷ es) n = (let a = paired_length f xs es (omega (arith, n)) in omega (arith, a))
