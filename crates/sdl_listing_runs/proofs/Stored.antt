-- The transitions of a listing, while they are stored: with what is left to store, they are all of them.
use Rattle.std.proofs.Common.{◌≡◌, ◌∙◌, ℕ, ◌+◌, List, [], ◌∷◌, ◌++◌, ap, sym, append_assoc}
use Rattle.std.proofs.lemmas.List.{append-nil}
use Rattle.sdl_transition_behaviour.specs.declared.transition.Transition.{Transition}
use Rattle.sdl_listing_body.specs.declared.syntax.Row.{Row}
use Rattle.sdl_listing_body.specs.Offering.{offer_of}
use Rattle.sdl_listing_binding.specs.Parts.{TransitionParts, transition_parts, listed_transition, listed_transitions}

-- one is stored, of the first row that is left
pub stored_on : {S I : Type 0} {F : I → Type 0} {g : _} (t : Transition S I F g) (old new all : List TransitionParts) (number : ℕ) (row : Row) (left rest : List Row)
    → new ≡ old ++ transition_parts t ∷ [] → t.number ≡ number → t.offer ≡ offer_of row → left ≡ row ∷ rest
    → old ++ listed_transitions number left ≡ all → new ++ listed_transitions (number + 1) rest ≡ all
stored_on t old new all number row left rest kept is_number is_offer first are =
    let own : transition_parts t ≡ listed_transition number row = λ i. record { number = is_number i; offer = is_offer i } in
    let behind = listed_transitions (number + 1) rest in
    ap (λ (l : List TransitionParts). l ++ behind) kept ∙ (append_assoc old (transition_parts t ∷ []) behind
    ∙ (ap (λ (p : TransitionParts). old ++ p ∷ behind) own ∙ (sym (ap (λ (l : List Row). old ++ listed_transitions number l) first) ∙ are)))

-- none is left
pub stored_all : (stored all : List TransitionParts) (number : ℕ) (left : List Row) → left ≡ [] → stored ++ listed_transitions number left ≡ all → stored ≡ all
stored_all stored all number left none are = sym (append-nil stored) ∙ (ap (λ (l : List Row). stored ++ listed_transitions number l) (sym none) ∙ are)
