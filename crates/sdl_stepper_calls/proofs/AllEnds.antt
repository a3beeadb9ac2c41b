-- All ends of one queue, after one of them was used.
use Rattle.std.proofs.Common.{◌≡◌, ℕ, zero, suc, ◌<◌, List, [], ◌∷◌, map, slice_set, Some, slice_get, sym, ap, ◌∙◌, subst, inl, inr}
use Rattle.std.proofs.lemmas.List.{length-set}
use Rattle.std.proofs.lemmas.Option.{same_Some}
use Rattle.std.specs.List.{AllByRecursion}
use Rattle.sdl_queue.specs.DelayLine.{HasNumber}
use Rattle.sdl_queue.specs.Ends.{Opening, FeedEnd, TapEnd, put_of, AreAllEnds, IsSameFeed, IsSameTap}

openings_stay : (o : Opening) (feeds : List FeedEnd) (i : ℕ) (f g : FeedEnd) → slice_get feeds i ≡ Some f → IsSameFeed f g → AllByRecursion (λ (k : FeedEnd). k.opening ≡ o) feeds → AllByRecursion (λ (k : FeedEnd). k.opening ≡ o) (slice_set feeds i g)
openings_stay o [] i f g e same h = tt
openings_stay o (x ∷ xs) zero f g e same h = (same.0 ∙ ap (λ k. k.opening) (sym (same_Some x f e)) ∙ h.0, h.1)
openings_stay o (x ∷ xs) (suc i) f g e same h = (h.0, openings_stay o xs i f g e same h.1)

numbers_stay : (n : ℕ) (feeds : List FeedEnd) (i : ℕ) (f g : FeedEnd) → slice_get feeds i ≡ Some f → IsSameFeed f g → HasNumber n (map put_of feeds) → HasNumber n (map put_of (slice_set feeds i g))
numbers_stay n [] i f g e same h = h
numbers_stay n (x ∷ xs) zero f g e same (inl is) = inl (same.1 ∙ ap (λ k. k.number) (sym (same_Some x f e)) ∙ is)
numbers_stay n (x ∷ xs) zero f g e same (inr rest) = inr rest
numbers_stay n (x ∷ xs) (suc i) f g e same (inl is) = inl is
numbers_stay n (x ∷ xs) (suc i) f g e same (inr rest) = inr (numbers_stay n xs i f g e same rest)

-- a feed has put something
pub all_with_feed : (feeds : List FeedEnd) (tap : TapEnd) (i : ℕ) (f g : FeedEnd) → slice_get feeds i ≡ Some f → IsSameFeed f g → AreAllEnds feeds tap → AreAllEnds (slice_set feeds i g) tap
all_with_feed feeds tap i f g e same (openings, count, covers) =
    (openings_stay tap.opening feeds i f g e same openings, length-set feeds i g ∙ count, λ n lt. numbers_stay n feeds i f g e same (covers n lt))

-- the tap has taken something
pub all_with_tap : (feeds : List FeedEnd) (t u : TapEnd) → IsSameTap t u → AreAllEnds feeds t → AreAllEnds feeds u
all_with_tap feeds t u same (openings, count, covers) =
    (subst (λ o. AllByRecursion (λ (k : FeedEnd). k.opening ≡ o) feeds) (sym same.0) openings, count ∙ sym same.1, λ n lt. covers n (subst (λ m. n < m) same.1 lt))
