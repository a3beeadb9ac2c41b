-- A line cut at its spaces, and its parts.
use Rattle.std.proofs.Common.{◌≡◌, ◌≢◌, ℕ, zero, suc, ◌<◌, true, ◌==◌, List, [], ◌∷◌, length, get_or, refl, sym, subst, arith}
use Rattle.std.specs.List.{AllByRecursion, Contains}
use Rattle.std.proofs.lemmas.Bool.Decides.{nat_tests}

-- no field is empty
pub none_is_empty : (fs : List (List ℕ)) → AllByRecursion (λ f. f ≢ []) fs → ¬ Contains fs []
none_is_empty [] h (k, lt, e) = omega (arith, lt)
none_is_empty (f ∷ fs) h (zero, lt, e) = h.0 e
none_is_empty (f ∷ fs) h (suc k, lt, e) = none_is_empty fs h.1 (k, omega (arith, lt), e)

pub empty_if_no_length : {A : Type 0} (xs : List A) → (length xs == 0) ≡ true → xs ≡ []
empty_if_no_length [] e = refl
empty_if_no_length (x ∷ xs) e = grind (arith, nat_tests)

pub contains_empty : (fs : List (List ℕ)) (i : ℕ) (f : List ℕ) → i < length fs → f ≡ get_or fs i f → f ≡ [] → Contains fs []
contains_empty fs i f lt e z = (i, lt, subst (λ g. get_or fs i g ≡ g) z (sym e))
