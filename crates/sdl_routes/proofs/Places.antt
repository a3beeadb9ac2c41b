-- Places before a bound.
use Rattle.std.proofs.Common.{◌≡◌, ℕ, suc, ◌<◌, List, [], ◌∷◌, ◌++◌, ◌⊎◌, inl, inr, refl, ap, arith}
use Rattle.sdl_structure_parts.specs.Order.{IsBefore}
use Rattle.sdl_routes.specs.Found.{place_behind, Begins}

pub le_cases : (y x : ℕ) → y < suc x → (y < x) ⊎ (y ≡ x)
le_cases y x h = grind arith

pub before_after_cases : (p q : List ℕ) → IsBefore q (place_behind p) → IsBefore q p ⊎ Begins p q
before_after_cases [] q h = absurd h
before_after_cases (x ∷ []) [] h = inl tt
before_after_cases (x ∷ []) (y ∷ ys) h =
    elim h [
      | inl lt ↦ elim (le_cases y x lt) [ inl less ↦ inl (inl less) | inr same ↦ inr (same, tt) ]
      | inr same ↦ absurd same.1
    ]
before_after_cases (x ∷ z ∷ zs) [] h = inl tt
before_after_cases (x ∷ z ∷ zs) (y ∷ ys) h =
    elim h [
      | inl lt ↦ inl (inl lt)
      | inr same ↦ elim (before_after_cases (z ∷ zs) ys same.1) [ inl less ↦ inl (inr (same.0, less)) | inr begins ↦ inr (same.0, begins) ]
    ]

pub before_to_after : (p q : List ℕ) → IsBefore q p → IsBefore q (place_behind p)
before_to_after [] q h = absurd h
before_to_after (x ∷ []) [] h = tt
before_to_after (x ∷ []) (y ∷ ys) h = elim h [ inl lt ↦ inl (omega arith) | inr same ↦ absurd same.1 ]
before_to_after (x ∷ z ∷ zs) [] h = tt
before_to_after (x ∷ z ∷ zs) (y ∷ ys) h =
    elim h [ inl lt ↦ inl lt | inr same ↦ inr (same.0, before_to_after (z ∷ zs) ys same.1) ]

pub begins_to_after : (x : ℕ) (xs q : List ℕ) → Begins (x ∷ xs) q → IsBefore q (place_behind (x ∷ xs))
begins_to_after x xs [] h = absurd h
begins_to_after x [] (y ∷ ys) h = let e : y ≡ x = h.0 in inl (omega arith)
begins_to_after x (z ∷ zs) (y ∷ ys) h = inr (h.0, begins_to_after z zs ys h.1)

pub before_longer : (p ys q : List ℕ) → IsBefore q p → IsBefore q (p ++ ys)
before_longer [] ys q h = absurd h
before_longer (x ∷ xs) ys [] h = tt
before_longer (x ∷ xs) ys (z ∷ zs) h = elim h [ inl lt ↦ inl lt | inr same ↦ inr (same.0, before_longer xs ys zs same.1) ]

pub before_first : (p q : List ℕ) → IsBefore q (p ++ 0 ∷ []) → IsBefore q p ⊎ (q ≡ p)
before_first [] [] h = inr refl
before_first [] (y ∷ ys) h = elim h [ inl lt ↦ absurd (omega arith) | inr same ↦ absurd same.1 ]
before_first (x ∷ xs) [] h = inl tt
before_first (x ∷ xs) (y ∷ ys) h =
    elim h [
      | inl lt ↦ inl (inl lt)
      | inr same ↦ elim (before_first xs ys same.1) [ inl less ↦ inl (inr (same.0, less)) | inr e ↦ let f : y ≡ x = same.0 in inr (cc (e, f)) ]
    ]

pub itself_first : (p : List ℕ) → IsBefore p (p ++ 0 ∷ [])
itself_first [] = tt
itself_first (x ∷ xs) = inr (refl, itself_first xs)

pub after_one : (p : List ℕ) (n : ℕ) → place_behind (p ++ n ∷ []) ≡ p ++ suc n ∷ []
after_one [] n = refl
after_one (x ∷ []) n = refl
after_one (x ∷ y ∷ ys) n = ap (λ zs. x ∷ zs) (after_one (y ∷ ys) n)

pub before_longer_cases : (p ys q : List ℕ) → IsBefore q (p ++ ys) → IsBefore q p ⊎ Begins p q
before_longer_cases [] ys q h = inr tt
before_longer_cases (x ∷ xs) ys [] h = inl tt
before_longer_cases (x ∷ xs) ys (z ∷ zs) h =
    elim h [
      | inl lt ↦ inl (inl lt)
      | inr same ↦ elim (before_longer_cases xs ys zs same.1) [ inl less ↦ inl (inr (same.0, less)) | inr begins ↦ inr (same.0, begins) ]
    ]

-- a list that begins with p is p, or goes on with a number
pub begins_cases : (p q : List ℕ) → Begins p q → (q ≡ p) ⊎ ((n : ℕ) × (rest : List ℕ) × (q ≡ p ++ n ∷ rest))
begins_cases [] [] h = inl refl
begins_cases [] (y ∷ ys) h = inr (y, ys, refl)
begins_cases (x ∷ xs) [] h = absurd h
begins_cases (x ∷ xs) (y ∷ ys) h =
    let f : y ≡ x = h.0 in
    elim (begins_cases xs ys h.1) [ inl e ↦ inl (cc (e, f)) | inr (n, rest, e) ↦ inr (n, rest, cc (e, f)) ]

pub below_number : (p : List ℕ) (n end : ℕ) (rest : List ℕ) → n < end → IsBefore (p ++ n ∷ rest) (p ++ end ∷ [])
below_number [] n end rest lt = inl lt
below_number (x ∷ xs) n end rest lt = inr (refl, below_number xs n end rest lt)

pub begins_itself : (p rest : List ℕ) → Begins p (p ++ rest)
begins_itself [] rest = tt
begins_itself (x ∷ xs) rest = (refl, begins_itself xs rest)
