-- The rule of a queue with separate ends: what holds, at each moment, of what the queue holds and what each pass knows.
-- The history is all that was put so far, in the order of the puts: what was taken, and then what the queue holds.
use Rattle.std.specs.Prelude.{◌≡◌, ℕ, ◌+◌, ◌<◌, ◌≤◌, ◌⊎◌, List, [], ◌∷◌, ◌++◌, cond, nat_lt, length, drop}
use mathlib.Core.Option.{some}
use lib.ListN.{get_elem?}
use Rattle.std.specs.List.{AllByRecursion}
use Rattle.sdl_queue.specs.declared.rule.Tagged.{Tagged}
use Rattle.sdl_queue.specs.declared.rule.PutList.{PutList}
use Rattle.sdl_queue.specs.declared.rule.Taking.{Taking}
use Rattle.sdl_queue.specs.declared.rule.View.{View}
use Rattle.sdl_queue.specs.declared.rule.View.TheVariants.{Spent, Feeds, Takes}
use Rattle.sdl_queue.specs.DelayLine.{items_by, AreOfFeeders, Covers, IsDelayLine}
use Rattle.sdl_queue.specs.Ends.{put_list}

abbrev pub taking : ℕ → List Tagged → List PutList → List Tagged → Taking
taking n ts ps hs = record { feeders = n; taken = ts; joined = ps; latest = hs }

-- what a view says: of a feeder, of the tap

abbrev pub seen_by : View → List Tagged
seen_by (Feeds f seen) = seen
seen_by (Takes t) = []
seen_by Spent = []

abbrev pub tap_of : View → Taking
tap_of (Takes t) = t
tap_of (Feeds f seen) = taking 0 [] [] []
tap_of Spent = taking 0 [] [] []

abbrev pub IsFeeder : ℕ → View → Type 0
IsFeeder f v = v ≡ Feeds f (seen_by v)

abbrev pub IsTap : View → Type 0
IsTap v = v ≡ Takes (tap_of v)

-- the tap's, while no feeder has come back
abbrev pub IsOpen : View → Type 0
IsOpen v = IsTap v × ((tap_of v).joined ≡ []) × ((tap_of v).latest ≡ [])

-- the tap's, once every feeder has come back
abbrev pub IsWhole : View → Type 0
IsWhole v = IsTap v × Covers (tap_of v).feeders (tap_of v).joined

-- what the steps make of it

abbrev pub unfed : View
unfed = Takes (taking 0 [] [] [])

abbrev pub with_feeder : View → View
with_feeder v = let t = tap_of v in Takes (taking (t.feeders + 1) t.taken t.joined t.latest)

abbrev pub new_feeder : View → View
new_feeder v = Feeds (tap_of v).feeders []

abbrev pub longer : List Tagged → List Tagged → List Tagged
longer xs ys = cond (nat_lt (length xs) (length ys)) ys xs

abbrev pub with_put : Taking → ℕ → List Tagged → Taking
with_put t f seen = taking t.feeders t.taken (t.joined ++ put_list f (items_by f seen) ∷ []) (longer t.latest seen)

abbrev pub gathered : View → View → View
gathered v (Feeds f seen) = Takes (with_put (tap_of v) f seen)
gathered v (Takes t) = v
gathered v Spent = v

abbrev pub HasPut : View → Tagged → View → Type 0
HasPut v t w = IsFeeder t.feeder w × (items_by t.feeder (seen_by w) ≡ items_by t.feeder (seen_by v) ++ t.item ∷ [])

abbrev pub with_taken : Taking → Tagged → Taking
with_taken t x = taking t.feeders (t.taken ++ x ∷ []) t.joined t.latest

abbrev pub HasTaken : View → Tagged → View → Type 0
HasTaken v x w = w ≡ Takes (with_taken (tap_of v) x)

-- what the queue holds, once every feeder has come back
abbrev pub left_of : Taking → List Tagged
left_of t = drop (length t.taken) t.latest

abbrev pub IsRejoined : View → List Tagged → Type 0
IsRejoined v items = let t = tap_of v in (items ≡ left_of t) × IsDelayLine t.feeders t.joined t.taken items

abbrev pub HasTakenRejoined : View → Tagged → View → Type 0
HasTakenRejoined v x w = HasTaken v x w × (left_of (tap_of v) ≡ x ∷ left_of (with_taken (tap_of v) x))

-- `seen f` is the history up to the last item of the feeder f
pub record Chronicle (feeders : ℕ) (seen : ℕ → List Tagged) (history : List Tagged) : Type 0 where
  pub numbered : AreOfFeeders feeders history
  pub unseen : (f : ℕ) → feeders ≤ f → seen f ≡ []
  pub ahead : (f : ℕ) → (later : List Tagged) × (history ≡ seen f ++ later) × (items_by f later ≡ [])
  pub last : (history ≡ []) ⊎ ((f : ℕ) × (f < feeders) × (seen f ≡ history))

-- a feeder sits at the pass `seat f`, which once it has come back is the tap's
module _ (feeders tap : ℕ) (seat : ℕ → ℕ) (seen : ℕ → List Tagged) (taken history : List Tagged) where
  abbrev pub HasJoined : List Tagged → PutList → Type 0
  HasJoined latest p = (p.number < feeders) × (seat p.number ≡ tap) × (items_by p.number (seen p.number) ≡ p.items) × (length (seen p.number) ≤ length latest)

  abbrev pub TapAgreesWith : ℕ → Taking → Type 0
  TapAgreesWith pass t = (t.feeders ≡ feeders) × (pass ≡ tap) × (t.taken ≡ taken) × AllByRecursion (HasJoined t.latest) t.joined × ((later : List Tagged) × (history ≡ t.latest ++ later))

  abbrev pub AgreesWith : ℕ → View → Type 0
  AgreesWith pass (Feeds f s) = (f < feeders) × (seat f ≡ pass) × (seen f ≡ s)
  AgreesWith pass (Takes t) = TapAgreesWith pass t
  AgreesWith pass Spent = Unit {0}

pub record InLine (items : List Tagged) (views : List View) : Type 0 where
  pub feeders : ℕ
  pub tap : ℕ
  pub seat : ℕ → ℕ
  pub seen : ℕ → List Tagged
  pub taken : List Tagged
  pub chronicle : Chronicle feeders seen (taken ++ items)
  pub fits : (pass : ℕ) (v : View) → get_elem? views pass ≡ some v → AgreesWith feeders tap seat seen taken (taken ++ items) pass v
