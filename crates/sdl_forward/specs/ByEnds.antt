-- The ends of a worker as its queues. (This project's own.)
use Rattle.std.proofs.Common.{◌≡◌, ℕ, Bool, true, false, cond, List, [], ◌∷◌, ◌++◌, Option, Some, map, refl, ap, sym, ◌∙◌, append_assoc, append-nil, true≢false}
use Rattle.std.proofs.lemmas.Bool.{false≢true}
use Rattle.std.proofs.lemmas.Option.{none-some}
use Rattle.sdl_signal.specs.declared.values.Item.{Item}
use Rattle.sdl_routes.specs.declared.route.Station.{Station}
use Rattle.sdl_queue.specs.Ends.{FeedEnd, TapEnd, Opening}
use Rattle.sdl_forward_ends.specs.Stations.{same_station}
use Rattle.sdl_forward_ends.specs.Ends.{WorkerEnds, IsSameEnds, HasFeed, feed_at, feed_identity, put_at, taken_by}
use Rattle.sdl_forward.specs.Queues.{Relations, nothing, with_more}

-- each item put is added to those put at its station
pub record PutsByEnds (put : Station → List Item) (old new : WorkerEnds) : Type 0 where
  pub each : (s : Station) → put_at new s ≡ put_at old s ++ put s
  pub tap : new.tap ≡ old.tap
  pub same : IsSameEnds old new

-- and those taken are added to those taken
pub record MovesByEnds (put : Station → List Item) (taken : List Item) (old new : WorkerEnds) : Type 0 where
  pub each : (s : Station) → put_at new s ≡ put_at old s ++ put s
  pub takes : taken_by new ≡ taken_by old ++ taken
  pub same : IsSameEnds old new

-- the same ends have the same feeds

abbrev EndIdentity : Type 0
EndIdentity = Station × (Opening × ℕ)

abbrev first_of : EndIdentity → List EndIdentity → EndIdentity
first_of m [] = m
first_of m (x ∷ xs) = x

abbrev rest_of : List EndIdentity → List EndIdentity
rest_of [] = []
rest_of (x ∷ xs) = xs

abbrev is_cons : {X : Type 0} → List X → Bool
is_cons [] = false
is_cons (x ∷ xs) = true

by_test : (b c : Bool) → c ≡ b → (f g : FeedEnd) (x y : Option FeedEnd) → ((k : FeedEnd) × (x ≡ Some k) → (k : FeedEnd) × (y ≡ Some k))
    → (k : FeedEnd) × (cond b (Some f) x ≡ Some k) → (k : FeedEnd) × (cond c (Some g) y ≡ Some k)
by_test true true same f g x y next h = (g, refl)
by_test false false same f g x y next h = next h
by_test true false same f g x y next h = absurd (false≢true same)
by_test false true same f g x y next h = absurd (true≢false same)

feed_kept : (s : Station) (fs gs : List (Station × FeedEnd)) → map feed_identity gs ≡ map feed_identity fs → (k : FeedEnd) × (feed_at fs s ≡ Some k) → (k : FeedEnd) × (feed_at gs s ≡ Some k)
feed_kept s [] gs same (k, at) = absurd (none-some k at)
feed_kept s (f ∷ fs) [] same h = absurd (false≢true (ap is_cons same))
feed_kept s (f ∷ fs) (g ∷ gs) same h =
    by_test (same_station f.0 s) (same_station g.0 s) (ap (λ (ms : List EndIdentity). same_station (first_of (feed_identity f) ms).0 s) same) f.1 g.1 (feed_at fs s) (feed_at gs s)
    (feed_kept s fs gs (ap rest_of same)) h

pub has_feed_still : (old new : WorkerEnds) (s : Station) → IsSameEnds old new → HasFeed old s → HasFeed new s
has_feed_still old new s same h = feed_kept s old.feeds new.feeds same.feeds h

pub same_ends : (a : WorkerEnds) → IsSameEnds a a
same_ends a = record { feeds = refl; tap = refl }

pub same_then : (a b c : WorkerEnds) → IsSameEnds a b → IsSameEnds b c → IsSameEnds a c
same_then a b c h k = record { feeds = k.feeds ∙ h.feeds; tap = k.tap ∙ h.tap }

-- what was taken is told by the tap alone
pub taken_same : (a b : WorkerEnds) → b.tap ≡ a.tap → taken_by b ≡ taken_by a
taken_same a b same = ap (λ (t : Option (Station × TapEnd)). taken_by (record { tap = t; feeds = [] })) same

pub more_put : (put more : Station → List Item) (a b c : WorkerEnds) (s : Station) → put_at b s ≡ put_at a s ++ put s → put_at c s ≡ put_at b s ++ more s → put_at c s ≡ put_at a s ++ with_more put more s
more_put put more a b c s h k = k ∙ ap (λ l. l ++ more s) h ∙ append_assoc (put_at a s) (put s) (more s)

pub moves_then : (put : Station → List Item) (taken : List Item) (more : Station → List Item) (further : List Item) (a b c : WorkerEnds)
    → MovesByEnds put taken a b → MovesByEnds more further b c → MovesByEnds (with_more put more) (taken ++ further) a c
moves_then put taken more further a b c h k =
    record {
      each = λ s. more_put put more a b c s (h.each s) (k.each s);
      takes = k.takes ∙ ap (λ l. l ++ further) h.takes ∙ append_assoc (taken_by a) taken further;
      same = same_then a b c h.same k.same;
    }

-- an item can be put at each station with a feed; others may put at any time, so that nothing is there to be taken is not known
abbrev pub by_ends : Relations WorkerEnds
by_ends =
    record {
      CanPut = HasFeed;
      Empty = λ e s. Unit {0};
      Puts = PutsByEnds;
      Moves = λ own. MovesByEnds;
      Still = MovesByEnds nothing [];
      puts_none = λ a. record { each = λ s. sym (append-nil (put_at a s)); tap = refl; same = same_ends a };
      puts_then = λ put more a b c h k. record { each = λ s. more_put put more a b c s (h.each s) (k.each s); tap = k.tap ∙ h.tap; same = same_then a b c h.same k.same };
      puts_move = λ own put a b h. record { each = h.each; takes = taken_same a b h.tap ∙ sym (append-nil (taken_by a)); same = h.same };
      moves_then = λ own. moves_then;
      still_same = λ a. record { each = λ s. sym (append-nil (put_at a s)); takes = sym (append-nil (taken_by a)); same = same_ends a };
      still_then = moves_then nothing [] nothing [];
      still_moves = λ own a b h. h;
      empty_before = λ a b s h none. tt;
      can_still = λ own put taken a b s h can. has_feed_still a b s h.same can;
    }
