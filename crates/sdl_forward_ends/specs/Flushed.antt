-- Feeds whose backlogs were flushed.
use Rattle.std.specs.Prelude.{◌≡◌, List, [], ◌∷◌, Option, Some, None, ⊤}
use Rattle.sdl_queue.specs.Ends.{FeedEnd, IsSameFeed}
use Rattle.sdl_forward_ends.specs.FeedsLeft.{Place}

-- the feed is the same, and what it has put
abbrev pub IsFlushed : Option FeedEnd → Option FeedEnd → Type 0
IsFlushed None None = ⊤
IsFlushed (Some f) (Some g) = IsSameFeed f g × (g.put ≡ f.put)
IsFlushed _ _ = ⊥

-- so it is at each place
abbrev pub AreFlushed : List Place → List Place → Type 0
AreFlushed [] [] = ⊤
AreFlushed (p ∷ ps) (q ∷ qs) = (q.0 ≡ p.0) × IsFlushed p.1 q.1 × AreFlushed ps qs
AreFlushed _ _ = ⊥

-- no backlog is left
abbrev pub IsClear : Option FeedEnd → Type 0
IsClear None = ⊤
IsClear (Some f) = f.backlog ≡ []

abbrev pub IsClearAt : Place → Type 0
IsClearAt p = IsClear p.1
