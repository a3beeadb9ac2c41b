-- Texts that are written one behind the other.
use Rattle.std.proofs.Common.{◌≡◌, ℕ, ◌+◌, ◌<◌, ◌≤◌, List, [], ◌∷◌, ◌++◌, Option, Result, Ok, Err, OnOk, length, take, get_or, flat_map, sym, ap, ◌∙◌, subst, append_assoc, append-nil, arith}
use Rattle.std.specs.Io.KnownBytes.{Appends}
use Rattle.std.specs.List.{enumerate_from}
use Rattle.std.proofs.KnownBytes.{Appends-trans}
use Rattle.std.proofs.lemmas.List.{take_more, take_all}
use Rattle.std.proofs.lemmas.List.Concat.{flat_map-append}
use Rattle.std.proofs.lemmas.List.FromFn.{length-enumerate_from, get_or-enumerate_from}

pub on_ok : {E : Type 0} (r : Result (Unit {0}) E) (P Q : Type 0) → (P → Q) → OnOk r P → OnOk r Q
on_ok (Ok x) P Q f p = f p
on_ok (Err e) P Q f p = tt

flat_map-one : {A B : Type 0} (f : A → List B) (xs : List A) (x : A) → flat_map f (xs ++ x ∷ []) ≡ flat_map f xs ++ f x
flat_map-one {A} {B} f xs x = flat_map-append f xs (x ∷ []) ∙ ap (λ (l : List B). flat_map f xs ++ l) (append-nil (f x))

-- the texts of the first elements of a list with their numbers, and of one more
pub texts_next : {X : Type 0} (f : ℕ × X → List ℕ) (xs : List X) (i : ℕ) (x : X) (a b c : Option (List ℕ)) → i < length xs → x ≡ get_or xs i x
    → Appends a b (flat_map f (take i (enumerate_from 0 xs))) → Appends b c (f (i, x)) → Appends a c (flat_map f (take (i + 1) (enumerate_from 0 xs)))
texts_next {X} f xs i x a b c h is so_far this =
    let all : List (ℕ × X) = enumerate_from 0 xs in
    let one : ℕ × X = (i, x) in
    let inside : i < length all = rw length-enumerate_from h in
    let number : 0 + i ≡ i = omega arith in
    let at : get_or all i one ≡ one = get_or-enumerate_from 0 xs i one h ∙ (ap (λ (n : ℕ). (n, get_or xs i x)) number ∙ ap (λ (y : X). (i, y)) (sym is)) in
    let whole : flat_map f (take (i + 1) all) ≡ flat_map f (take i all) ++ f one =
    ap (λ (l : List (ℕ × X)). flat_map f l) (take_more all i one inside ∙ ap (λ (z : ℕ × X). take i all ++ z ∷ []) at) ∙ flat_map-one f (take i all) one in
    subst (Appends a c) (sym whole) (Appends-trans a b c (flat_map f (take i all)) (f one) so_far this)

-- all of them are written
pub texts_all : {X : Type 0} (f : ℕ × X → List ℕ) (xs ys : List X) (i : ℕ) (a b : Option (List ℕ)) → xs ≡ ys → length xs ≤ i
    → Appends a b (flat_map f (take i (enumerate_from 0 xs))) → Appends a b (flat_map f (enumerate_from 0 ys))
texts_all {X} f xs ys i a b same past so_far =
    let long : length (enumerate_from 0 xs) ≤ i = rw length-enumerate_from past in
    subst (Appends a b) (ap (λ (l : List (ℕ × X)). flat_map f l) (take_all i (enumerate_from 0 xs) long) ∙ ap (λ (l : List X). flat_map f (enumerate_from 0 l)) same) so_far

-- the texts of the first elements of a list, and of one more
pub loop_next : {X : Type 0} (f : X → List ℕ) (xs : List X) (i : ℕ) (x : X) (a b c : Option (List ℕ)) → i < length xs
    → Appends a b (flat_map f (take i xs)) → Appends b c (f (get_or xs i x)) → Appends a c (flat_map f (take (i + 1) xs))
loop_next {X} f xs i x a b c h so_far this =
    let one : X = get_or xs i x in
    let whole : flat_map f (take (i + 1) xs) ≡ flat_map f (take i xs) ++ f one =
    ap (λ (l : List X). flat_map f l) (take_more xs i x h) ∙ flat_map-one f (take i xs) one in
    subst (Appends a c) (sym whole) (Appends-trans a b c (flat_map f (take i xs)) (f one) so_far this)
