-- The index of a table of routes: for each wish that some route fits, the numbers of the routes that fit it.
use Rattle.std.specs.Prelude.{◌≡◌, ℕ, ◌+◌, ◌*◌, ◌<◌, List, [], map, length, take, get_or, Some, slice_get, Contains, All, Vec}
use Rattle.sdl_signal.specs.declared.ids.SignalId.{SignalId}
use Rattle.sdl_routes.specs.declared.route.TableRow.{TableRow}
use Rattle.sdl_routes.specs.declared.route.Wish.{Wish}
use Rattle.sdl_routes.specs.declared.route.Source.{Source}
use Rattle.sdl_routes.specs.declared.route.Source.TheVariants as source
use Rattle.sdl_routes.specs.declared.route.Goal.{Goal}
use Rattle.sdl_routes.specs.declared.route.Goal.TheVariants as goal
use Rattle.sdl_routes.specs.declared.route.EndPoint.{EndPoint}
use Rattle.sdl_routes.specs.declared.route.EndPoint.TheVariants as ends
use Rattle.sdl_routes.specs.declared.entries.Entry.{Entry}
use Rattle.sdl_routes.specs.declared.index.Index.{Index}
use Rattle.sdl_routes.specs.Routes.{Fits, AreFitting}

-- Where the entries of a wish stand: in the group of its source and its signal, in the list of its goal. (Only that different
-- goals stand at different places is needed; that different groups do is for speed.)
abbrev pub group_place : Source → SignalId → ℕ
group_place (source.Set t) signal = 128 * t.0 + signal.0
group_place (source.Gate e) signal = 128 * e.0 + 64 + signal.0

abbrev pub goal_place : Goal → ℕ
goal_place goal.Anywhere = 0
goal_place goal.Environment = 1
goal_place goal.Null = 2
goal_place (goal.Set t) = t.0 + 3

-- the goal that only routes with this end have
abbrev pub end_goal : EndPoint → Goal
end_goal (ends.Environment e) = goal.Environment
end_goal (ends.Set t) = goal.Set t

-- the wish belongs to this group and this list
pub record StandsAt (p g : ℕ) (w : Wish) : Type 0 where
  pub group : group_place w.source w.signal ≡ p
  pub goal : goal_place w.goal ≡ g

-- one of the entries has the wish
abbrev pub HasEntry : List Entry → Wish → Type 0
HasEntry entries w = Contains (map (λ e. e.wish) entries) w

-- the entry has the first n rows that fit its wish, by their numbers
pub record IsEntry (rows : List TableRow) (n p g : ℕ) (e : Entry) : Type 0 where
  pub place : StandsAt p g e.wish
  pub numbers : AreFitting e.wish 0 (take n rows) e.numbers.items

-- the entries of one list, for the first n rows: each has its routes, and each wish that a row fits has an entry
pub record AreEntries (rows : List TableRow) (n p g : ℕ) (entries : List Entry) : Type 0 where
  pub each : All (IsEntry rows n p g) entries
  pub all : (k : ℕ) (row : TableRow) (w : Wish) → k < n → slice_get rows k ≡ Some row → Fits row w → StandsAt p g w → HasEntry entries w

-- the list at a place, and an empty one beyond the last
abbrev pub list_at : {X A : Type 0} → List (Vec X A) → ℕ → List X
list_at lists n = get_or (map (λ v. v.items) lists) n []

-- the entries of a group, and of all groups, for the first n rows
abbrev pub IsGroup : {A : Type 0} → List TableRow → ℕ → ℕ → List (Vec Entry A) → Type 0
IsGroup rows n p group = (g : ℕ) → AreEntries rows n p g (list_at group g)

abbrev pub AreGroups : {A B : Type 0} → List TableRow → ℕ → List (Vec (Vec Entry A) B) → Type 0
AreGroups rows n groups = (p : ℕ) → IsGroup rows n p (list_at groups p)

abbrev pub IsIndexOf : List TableRow → Index → Type 0
IsIndexOf rows index = AreGroups rows (length rows) index.groups.items
