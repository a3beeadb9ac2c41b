-- What a put from a slot leaves, tried on small lists.
use Rattle.std.proofs.Common.{◌≡◌, ◌≢◌, [], ◌∷◌, Some, None, length, refl, ap, inl, inr, arith}
use Rattle.sdl_signal.specs.declared.values.Item.{Item}
use Rattle.sdl_queue_ring.specs.RingEnds.{IsPutFrom, IsBacklogFrom}

put_behind : (a b : Item) → IsPutFrom (Some b) None (a ∷ []) (a ∷ b ∷ [])
put_behind a b = refl

refused : (a b : Item) → IsPutFrom (Some b) (Some b) (a ∷ []) (a ∷ [])
refused a b = (refl, refl)

nothing_to_put : (a : Item) → IsPutFrom None None (a ∷ []) (a ∷ [])
nothing_to_put a = (refl, refl)

none_lost : (a b : Item) → IsPutFrom (Some b) None (a ∷ []) (a ∷ []) → ⊥
none_lost a b put = let n : length (a ∷ []) ≡ length (a ∷ b ∷ []) = ap length put in omega (arith, n)

none_kept_and_put : (a b : Item) → IsPutFrom (Some b) (Some b) (a ∷ []) (a ∷ b ∷ []) → ⊥
none_kept_and_put a b put = let n : length (a ∷ b ∷ []) ≡ length (a ∷ []) = ap length put.1 in omega (arith, n)

none_changed : (a b : Item) → a ≢ b → IsPutFrom (Some b) (Some a) [] [] → ⊥
none_changed a b apart put = apart put.0

none_made : (a : Item) → IsPutFrom None None [] (a ∷ []) → ⊥
none_made a put = let n : length (a ∷ []) ≡ 0 = ap length put.1 in omega (arith, n)

-- into the ring, where no backlog stands
past_none : (b : Item) → IsBacklogFrom (Some b) None [] []
past_none b = inl (refl, refl)

behind_one : (a b : Item) → IsBacklogFrom (Some b) None (a ∷ []) (a ∷ b ∷ [])
behind_one a b = inr refl

-- and never past one
no_overtaking : (a b : Item) → IsBacklogFrom (Some b) None (a ∷ []) (a ∷ []) → ⊥
no_overtaking a b (inl none) = let n : length (a ∷ []) ≡ 0 = ap length none.0 in omega (arith, n)
no_overtaking a b (inr put) = let n : length (a ∷ []) ≡ length (a ∷ b ∷ []) = ap length put in omega (arith, n)
