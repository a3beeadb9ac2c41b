-- The texts of numbers one after the other.
use Rattle.std.proofs.Common.{◌≡◌, ℕ, ◌+◌, ◌-◌, ◌≤◌, List, [], ◌∷◌, ◌++◌, Option, flat_map, map, refl, ap, sym, ◌∙◌, subst, append-nil, arith}
use Rattle.std.specs.Io.KnownBytes.{Appends}
use Rattle.std.specs.List.{range_with_len}
use Rattle.std.proofs.KnownBytes.{Appends-trans}
use Rattle.std.proofs.lemmas.List.Concat.{flat_map-append}
use Rattle.std.proofs.lemmas.List.FromFn.{map-range_with_len_more}

map_same : (xs : List ℕ) → map (λ (n : ℕ). n) xs ≡ xs
map_same [] = refl
map_same (x ∷ xs) = ap (λ (l : List ℕ). x ∷ l) (map_same xs)

-- one more number
range_more : (a n : ℕ) → range_with_len a (n + 1) ≡ range_with_len a n ++ (a + n) ∷ []
range_more a n =
    sym (map_same (range_with_len a (n + 1)))
    ∙ (map-range_with_len_more (λ (m : ℕ). m) a n (a + n) refl ∙ ap (λ (l : List ℕ). l ++ (a + n) ∷ []) (map_same (range_with_len a n)))

-- the text of one more number up to an end
texts_up_to : (f : ℕ → List ℕ) (from place : ℕ) → from ≤ place
    → flat_map f (range_with_len from ((place + 1) - from)) ≡ flat_map f (range_with_len from (place - from)) ++ f place
texts_up_to f from place h =
    let count = place - from in
    let next : (place + 1) - from ≡ (place - from) + 1 = omega arith in
    let here : from + (place - from) ≡ place = omega arith in
    ap (λ (n : ℕ). flat_map f (range_with_len from n)) next
    ∙ (ap (λ (l : List ℕ). flat_map f l) (range_more from count)
    ∙ (flat_map-append f (range_with_len from count) ((from + count) ∷ [])
    ∙ (ap (λ (l : List ℕ). flat_map f (range_with_len from count) ++ l) (append-nil (f (from + count)))
    ∙ ap (λ (m : ℕ). flat_map f (range_with_len from count) ++ f m) here)))

pub items_next : (f : ℕ → List ℕ) (from place : ℕ) (a b c : Option (List ℕ)) → from ≤ place
    → Appends a b (flat_map f (range_with_len from (place - from))) → Appends b c (f place) → Appends a c (flat_map f (range_with_len from ((place + 1) - from)))
items_next f from place a b c h so_far this =
    subst (Appends a c) (sym (texts_up_to f from place h)) (Appends-trans a b c (flat_map f (range_with_len from (place - from))) (f place) so_far this)

-- the texts up to an end that was reached, or lies before the beginning
pub items_all : (f : ℕ → List ℕ) (from place end : ℕ) (a b : Option (List ℕ)) → end ≤ place → place - from ≤ end - from
    → Appends a b (flat_map f (range_with_len from (place - from))) → Appends a b (flat_map f (range_with_len from (end - from)))
items_all f from place end a b past within so_far =
    let same : place - from ≡ end - from = omega arith in
    subst (λ (n : ℕ). Appends a b (flat_map f (range_with_len from n))) same so_far
