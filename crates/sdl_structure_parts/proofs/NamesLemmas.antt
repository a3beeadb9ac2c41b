-- The names of the system's gates, one gate after the other.
use Rattle.std.proofs.Common.{◌≡◌, ℕ, zero, suc, ◌+◌, ◌<◌, ◌≤◌, List, [], ◌∷◌, ◌++◌, length, take, get_or, map, filter_map, Option, Some, None, refl, sym, ap, ◌∙◌, arith}
use Rattle.std.proofs.lemmas.List.{take_more, append_assoc}

pub filter_map_append : {A B : Type 0} (f : A → Option B) (xs ys : List A) → filter_map f (xs ++ ys) ≡ filter_map f xs ++ filter_map f ys
filter_map_append f [] ys = refl
filter_map_append {A = A} {B = B} f (x ∷ xs) ys = at (f x) refl (filter_map_append f xs ys)
  where
    at : (o : Option B) → f x ≡ o → filter_map f (xs ++ ys) ≡ filter_map f xs ++ filter_map f ys → filter_map f ((x ∷ xs) ++ ys) ≡ filter_map f (x ∷ xs) ++ filter_map f ys
    at None is rest = rw is rest
    at (Some b) is rest = rw is (ap (λ z. b ∷ z) rest)

pub filter_map_more : {A B : Type 0} (f : A → Option B) (xs : List A) (i : ℕ) (x : A) (start : List B) → i < length xs → x ≡ get_or xs i x → start ++ filter_map f (take (i + 1) xs) ≡ (start ++ filter_map f (take i xs)) ++ filter_map f (x ∷ [])
filter_map_more f xs i x start h is =
    let one : take (i + 1) xs ≡ take i xs ++ x ∷ [] = take_more xs i x h ∙ ap (λ z. take i xs ++ z ∷ []) (sym is) in
    ap (λ ys. start ++ filter_map f ys) one ∙ ap (λ z. start ++ z) (filter_map_append f (take i xs) (x ∷ [])) ∙ sym (append_assoc start (filter_map f (take i xs)) (filter_map f (x ∷ [])))

pub filter_map_length : {A B : Type 0} (f : A → Option B) (xs : List A) (i : ℕ) → length (filter_map f (take i xs)) ≤ i
filter_map_length f [] zero = omega arith
filter_map_length f [] (suc i) = omega arith
filter_map_length f (x ∷ xs) zero = omega arith
filter_map_length {A = A} {B = B} f (x ∷ xs) (suc i) = at (f x) refl (filter_map_length f xs i)
  where
    at : (o : Option B) → f x ≡ o → length (filter_map f (take i xs)) ≤ i → length (filter_map f (take (suc i) (x ∷ xs))) ≤ suc i
    at None is rest = rw is (omega (arith, rest))
    at (Some b) is rest = rw is (omega (arith, rest))
