-- A test that decides a fact also decides that there is a proof of it, and `Any` in the words of an offer.
use Rattle.std.proofs.Common.{Bool, IsTrue, arith, ◌↔◌, ℕ, ◌<◌, List, [], ◌∷◌, length}
use Rattle.std.specs.List.{Any, HoldsAt}
use Rattle.std.proofs.Math.Logic.{∥∥₁_elim}
use Rattle.std.proofs.Math.ListN.{get_or}
use Rattle.std.proofs.Props.{props}
use Rattle.std.proofs.lemmas.Grind.{merely}
use Rattle.std.proofs.lemmas.List.{get_or_default}

pub mere : (b : Bool) (A : Type 0) → (IsTrue b ↔ A) → (IsTrue b ↔ ∥ A ∥₁)
mere b A both = (λ t. merely (both.0 t), λ h. ∥∥₁_elim h (hlevel props) (λ a. both.1 a))

at_of_any : {X : Type 0} (P : X → Type 0) (xs : List X) → Any P xs → (k : ℕ) × (k < length xs) × HoldsAt P xs k
at_of_any P xs (k, x, below, is, p) = (k, below, λ d. rw (get_or_default xs k d x below, is) p)

any_of_at : {X : Type 0} (P : X → Type 0) (xs : List X) → (k : ℕ) × (k < length xs) × HoldsAt P xs k → Any P xs
any_of_at P [] (k, below, h) = absurd (let bad : ⊥ = omega (arith, below) in bad)
any_of_at P (y ∷ ys) (k, below, h) = (k, get_or (y ∷ ys) k y, below, get_or_default (y ∷ ys) k (get_or (y ∷ ys) k y) y below, h y)

pub mere_at : {X : Type 0} (b : Bool) (P : X → Type 0) (xs : List X) → (IsTrue b ↔ Any P xs) → (IsTrue b ↔ ∥ ((k : ℕ) × (k < length xs) × HoldsAt P xs k) ∥₁)
mere_at b P xs both = mere b ((k : ℕ) × (k < length xs) × HoldsAt P xs k) (λ t. at_of_any P xs (both.0 t), λ h. both.1 (any_of_at P xs h))
