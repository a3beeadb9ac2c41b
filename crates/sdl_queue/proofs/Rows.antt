-- The delay line tried on small lines.
use Rattle.std.proofs.Common.{◌≡◌, ◌≢◌, ℕ, zero, suc, ◌<◌, List, [], ◌∷◌, length, refl, ap, inl, inr, arith}
use Rattle.sdl_signal.specs.declared.values.Item.{Item}
use Rattle.sdl_queue.specs.declared.rule.Tagged.{Tagged}
use Rattle.sdl_queue.specs.DelayLine.{IsDelayLine, Covers}
use Rattle.sdl_queue.specs.Ends.{put_list}

abbrev thing : ℕ → Item → Tagged
thing f x = record { feeder = f; item = x; pad = 0; more_pad = 0 }

one_feeder : (xs : List Item) → Covers 1 (put_list 0 xs ∷ [])
one_feeder xs zero lt = inl refl
one_feeder xs (suc f) lt = absurd (omega arith)

two_feeders : (xs ys : List Item) → Covers 2 (put_list 0 xs ∷ put_list 1 ys ∷ [])
two_feeders xs ys zero lt = inl refl
two_feeders xs ys (suc zero) lt = inr (inl refl)
two_feeders xs ys (suc (suc f)) lt = absurd (omega arith)

-- the first feeder put a, the second b, the first c; a was taken
row : (a b c : Item) → IsDelayLine 2 (put_list 0 (a ∷ c ∷ []) ∷ put_list 1 (b ∷ []) ∷ []) (thing 0 a ∷ []) (thing 1 b ∷ thing 0 c ∷ [])
row a b c = ((omega arith, (omega arith, (omega arith, tt))), two_feeders (a ∷ c ∷ []) (b ∷ []), (refl, (refl, tt)))

-- the order between two feeders is open
other_order : (a b c : Item) → IsDelayLine 2 (put_list 0 (a ∷ c ∷ []) ∷ put_list 1 (b ∷ []) ∷ []) (thing 0 a ∷ []) (thing 0 c ∷ thing 1 b ∷ [])
other_order a b c = ((omega arith, (omega arith, (omega arith, tt))), two_feeders (a ∷ c ∷ []) (b ∷ []), (refl, (refl, tt)))

no_feeder : IsDelayLine 0 [] [] []
no_feeder = (tt, (λ f lt. absurd (omega arith)), tt)

abbrev first_or : Item → List Item → Item
first_or d [] = d
first_or d (x ∷ xs) = x

-- none overtakes another of its feeder
no_overtaking : (a c : Item) → a ≢ c → IsDelayLine 1 (put_list 0 (a ∷ c ∷ []) ∷ []) (thing 0 c ∷ []) (thing 0 a ∷ []) → ⊥
no_overtaking a c apart line = apart (ap (first_or a) line.2.0)

none_lost : (a : Item) → IsDelayLine 1 (put_list 0 (a ∷ []) ∷ []) [] [] → ⊥
none_lost a line = let n : length (a ∷ []) ≡ 0 = ap length line.2.0 in omega (arith, n)

none_twice : (a : Item) → IsDelayLine 1 (put_list 0 (a ∷ []) ∷ []) (thing 0 a ∷ []) (thing 0 a ∷ []) → ⊥
none_twice a line = let n : length (a ∷ []) ≡ length (a ∷ a ∷ []) = ap length line.2.0 in omega (arith, n)

none_of_another : (a : Item) → IsDelayLine 1 (put_list 0 [] ∷ []) [] (thing 1 a ∷ []) → ⊥
none_of_another a line = let lt : 1 < 1 = line.0.0 in omega arith
