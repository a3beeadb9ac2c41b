-- The parts that a set's texts may name, as they are listed.
use Rattle.std.proofs.Common.{◌≡◌, ℕ, ◌+◌, ◌<◌, ◌≤◌, List, [], ◌∷◌, ◌++◌, length, take, get_or, sym, ap, ◌∙◌, append_assoc, arith}
use Rattle.std.proofs.lemmas.List.{take_more, take_all}
use Rattle.std.proofs.lemmas.List.FromFn.{length-enumerate_from, get_or-enumerate_from}
use Rattle.std.specs.Prelude.{flat_map}
use Rattle.std.specs.List.{enumerate_from}
use Rattle.sdl_transition_behaviour.specs.declared.behaviour.Named.{Named}
use Rattle.sdl_listing_file.proofs.ListLemmas.{flat_map-one}

-- one more part
pub use_more : {X : Type 0} (f : ℕ × X → List Named) (xs : List X) (i : ℕ) (x : X) (old now new : List Named) → i < length xs → x ≡ get_or xs i x
    → now ≡ old ++ flat_map f (take i (enumerate_from 0 xs)) → new ≡ now ++ f (i, x) → new ≡ old ++ flat_map f (take (i + 1) (enumerate_from 0 xs))
use_more {X} f xs i x old now new h is so_far added =
    let all : List (ℕ × X) = enumerate_from 0 xs in
    let one : ℕ × X = (i, x) in
    let inside : i < length all = rw length-enumerate_from h in
    let number : 0 + i ≡ i = omega arith in
    let at : get_or all i one ≡ one = get_or-enumerate_from 0 xs i one h ∙ (ap (λ (a : ℕ). (a, get_or xs i x)) number ∙ ap (λ (y : X). (i, y)) (sym is)) in
    let whole : flat_map f (take (i + 1) all) ≡ flat_map f (take i all) ++ f one = ap (λ l. flat_map f l) (take_more all i one inside ∙ ap (λ z. take i all ++ z ∷ []) at) ∙ flat_map-one f (take i all) one in
    added ∙ (ap (λ l. l ++ f one) so_far ∙ (append_assoc old (flat_map f (take i all)) (f one) ∙ ap (λ l. old ++ l) (sym whole)))

pub use_all : {X : Type 0} (f : ℕ × X → List Named) (xs : List X) (i : ℕ) (old now : List Named) → length xs ≤ i → now ≡ old ++ flat_map f (take i (enumerate_from 0 xs)) → now ≡ old ++ flat_map f (enumerate_from 0 xs)
use_all f xs i old now past so_far =
    let long : length (enumerate_from 0 xs) ≤ i = rw length-enumerate_from past in
    so_far ∙ ap (λ l. old ++ flat_map f l) (take_all i (enumerate_from 0 xs) long)
