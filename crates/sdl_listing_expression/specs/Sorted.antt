-- The sort of an expression, and which expressions have their sorts and their places.
use Rattle.std.specs.Prelude.{◌≡◌, ℕ, ◌<◌, List, All, Some, slice_get}
use Rattle.sdl_signal.specs.declared.values.Sort.{Sort}
use Rattle.sdl_signal.specs.declared.values.Sort.TheVariants as sort
use Rattle.sdl_transition_behaviour.specs.Offers.{IsLegalPid, IsLegalValue}
use Rattle.sdl_listing_expression.specs.declared.syntax.Operator.{Operator}
use Rattle.sdl_listing_expression.specs.declared.syntax.Operator.TheVariants.{Add, Subtract, Multiply, Divide, Modulo, Remainder, Equal, Differs, Less, AtMost, And, Or, Xor}
use Rattle.sdl_listing_expression.specs.declared.syntax.Expr.{Expr, Integer, Boolean, Null, Env, Own, Parameter, Variable, Negated', Not', Serial', Instance', Two', Choice'}
use Rattle.sdl_listing_expression.specs.Scene.{Scene, parameters}

-- what an expression may name: so many sets, parameters of these sorts, and variables of these
pub record Scope : Type 0 where
  pub sets : ℕ
  pub params : List Sort
  pub vars : List Sort

-- the sort of what the operator makes
abbrev pub sort_made : Operator → Sort
sort_made Add = sort.Integer
sort_made Subtract = sort.Integer
sort_made Multiply = sort.Integer
sort_made Divide = sort.Integer
sort_made Modulo = sort.Integer
sort_made Remainder = sort.Integer
sort_made Equal = sort.Boolean
sort_made Differs = sort.Boolean
sort_made Less = sort.Boolean
sort_made AtMost = sort.Boolean
sort_made And = sort.Boolean
sort_made Or = sort.Boolean
sort_made Xor = sort.Boolean

-- the operator takes values of these two sorts
abbrev pub Takes : Operator → Sort → Sort → Type 0
Takes Add a b = (a ≡ sort.Integer) × (b ≡ sort.Integer)
Takes Subtract a b = (a ≡ sort.Integer) × (b ≡ sort.Integer)
Takes Multiply a b = (a ≡ sort.Integer) × (b ≡ sort.Integer)
Takes Divide a b = (a ≡ sort.Integer) × (b ≡ sort.Integer)
Takes Modulo a b = (a ≡ sort.Integer) × (b ≡ sort.Integer)
Takes Remainder a b = (a ≡ sort.Integer) × (b ≡ sort.Integer)
Takes Equal a b = a ≡ b
Takes Differs a b = a ≡ b
Takes Less a b = (a ≡ sort.Integer) × (b ≡ sort.Integer)
Takes AtMost a b = (a ≡ sort.Integer) × (b ≡ sort.Integer)
Takes And a b = (a ≡ sort.Boolean) × (b ≡ sort.Boolean)
Takes Or a b = (a ≡ sort.Boolean) × (b ≡ sort.Boolean)
Takes Xor a b = (a ≡ sort.Boolean) × (b ≡ sort.Boolean)

-- the sort of an expression; a choice has that of its second part
abbrev pub sort_in : Expr → Sort
sort_in (Integer n) = sort.Integer
sort_in (Boolean b) = sort.Boolean
sort_in Null = sort.Pid
sort_in Env = sort.Pid
sort_in (Own word) = sort.Pid
sort_in (Parameter k sort) = sort
sort_in (Variable k sort) = sort
sort_in (Negated' _ a) = sort.Integer
sort_in (Not' _ a) = sort.Boolean
sort_in (Serial' _ a) = sort.Integer
sort_in (Instance' set _ a) = sort.Pid
sort_in (Two' op _ a _ b) = sort_made op
sort_in (Choice' _ c _ a _ b) = sort_in a

-- each part has the sort that it is to have, and what it names is there
abbrev pub IsSorted : Scope → Expr → Type 0
IsSorted scope (Integer n) = Unit {0}
IsSorted scope (Boolean b) = Unit {0}
IsSorted scope Null = Unit {0}
IsSorted scope Env = Unit {0}
IsSorted scope (Own word) = Unit {0}
IsSorted scope (Parameter k sort) = slice_get scope.params k ≡ Some sort
IsSorted scope (Variable k sort) = slice_get scope.vars k ≡ Some sort
IsSorted scope (Negated' _ a) = IsSorted scope a × (sort_in a ≡ sort.Integer)
IsSorted scope (Not' _ a) = IsSorted scope a × (sort_in a ≡ sort.Boolean)
IsSorted scope (Serial' _ a) = IsSorted scope a × (sort_in a ≡ sort.Pid)
IsSorted scope (Instance' set _ a) = (set.0 < scope.sets) × IsSorted scope a × (sort_in a ≡ sort.Integer)
IsSorted scope (Two' op _ a _ b) = IsSorted scope a × IsSorted scope b × Takes op (sort_in a) (sort_in b)
IsSorted scope (Choice' _ c _ a _ b) =
    IsSorted scope c × IsSorted scope a × IsSorted scope b × (sort_in c ≡ sort.Boolean) × (sort_in a ≡ sort_in b)

-- each Pid that the scene shows can be one of a system with so many sets
pub record IsLegalScene (sets : ℕ) (s : Scene) : Type 0 where
  pub params : All (IsLegalValue sets) (parameters s.frame)
  pub vars : All (IsLegalValue sets) s.vars
  pub self_pid : IsLegalPid sets s.frame.self_pid
  pub parent : IsLegalPid sets s.frame.parent
  pub offspring : IsLegalPid sets s.frame.offspring
  pub sender : IsLegalPid sets s.frame.sender
