-- The value of an expression, and whether a value on the way to it was bent.
use Rattle.std.specs.Prelude.{◌+ℤ◌, ◌-ℤ◌, ◌*ℤ◌, neg_ℤ, int_lt, int_le, int_div, Bool, true, false, not, ◌&&◌, ◌||◌, ◌==◌, if◌then◌else◌, slice_get}
use Rattle.std.specs.Ordering.{int_eq}
use Rattle.sdl_signal.specs.declared.values.Pid.{Pid}
use Rattle.sdl_signal.specs.declared.values.Pid.TheVariants.{Inst}
use Rattle.sdl_signal.specs.declared.values.Pid.TheVariants as pid
use Rattle.sdl_signal.specs.declared.values.Value.{Value}
use Rattle.sdl_signal.specs.declared.values.Value.TheVariants as value
use Rattle.sdl_listing_expression.specs.declared.syntax.Operator.{Operator}
use Rattle.sdl_listing_expression.specs.declared.syntax.Operator.TheVariants.{Add, Subtract, Multiply, Divide, Modulo, Remainder, Equal, Differs, Less, AtMost, And, Or, Xor}
use Rattle.sdl_listing_expression.specs.declared.syntax.Expr.{Expr, Integer, Boolean, Null, Env, Own, Parameter, Variable, Negated', Not', Serial', Instance', Two', Choice'}
use Rattle.sdl_listing_expression.specs.Arithmetic.{is_outside, bounded, is_zero, quotient_of, remainder_of, modulo_of}
use Rattle.sdl_listing_expression.specs.Scene.{Scene, parameters, own_of, integer_in, boolean_in, pid_in, of_sort, serial_of, instance_at}

abbrev pub same_boolean : Bool → Bool → Bool
same_boolean true b = b
same_boolean false b = not b

abbrev pub same_pid : Pid → Pid → Bool
same_pid pid.Null pid.Null = true
same_pid pid.Env pid.Env = true
same_pid (pid.Inst set serial) (pid.Inst other number) = set.0 == other.0 && serial == number
same_pid _ _ = false

-- the values are equal
abbrev pub same : Value → Value → Bool
same (value.Integer a) (value.Integer b) = int_eq a b
same (value.Boolean a) (value.Boolean b) = same_boolean a b
same (value.Pid p) (value.Pid q) = same_pid p q
same _ _ = false

-- what the operator makes of two values
abbrev pub apply : Operator → Value → Value → Value
apply Add a b = value.Integer (bounded (integer_in a +ℤ integer_in b))
apply Subtract a b = value.Integer (bounded (integer_in a -ℤ integer_in b))
apply Multiply a b = value.Integer (bounded (integer_in a *ℤ integer_in b))
apply Divide a b = value.Integer (quotient_of (integer_in a) (integer_in b))
apply Modulo a b = value.Integer (modulo_of (integer_in a) (integer_in b))
apply Remainder a b = value.Integer (remainder_of (integer_in a) (integer_in b))
apply Equal a b = value.Boolean (same a b)
apply Differs a b = value.Boolean (not (same a b))
apply Less a b = value.Boolean (int_lt (integer_in a) (integer_in b))
apply AtMost a b = value.Boolean (int_le (integer_in a) (integer_in b))
apply And a b = value.Boolean (boolean_in a && boolean_in b)
apply Or a b = value.Boolean (boolean_in a || boolean_in b)
apply Xor a b = value.Boolean (not (same_boolean (boolean_in a) (boolean_in b)))

-- the operator's own value is bent
abbrev pub is_bent : Operator → Value → Value → Bool
is_bent Add a b = is_outside (integer_in a +ℤ integer_in b)
is_bent Subtract a b = is_outside (integer_in a -ℤ integer_in b)
is_bent Multiply a b = is_outside (integer_in a *ℤ integer_in b)
is_bent Divide a b = is_zero (integer_in b) || is_outside (int_div (integer_in a) (integer_in b))
is_bent Modulo a b = is_zero (integer_in b)
is_bent Remainder a b = is_zero (integer_in b)
is_bent Equal a b = false
is_bent Differs a b = false
is_bent Less a b = false
is_bent AtMost a b = false
is_bent And a b = false
is_bent Or a b = false
is_bent Xor a b = false

-- behind this first value the second one counts
abbrev pub counts : Operator → Value → Bool
counts Add a = true
counts Subtract a = true
counts Multiply a = true
counts Divide a = true
counts Modulo a = true
counts Remainder a = true
counts Equal a = true
counts Differs a = true
counts Less a = true
counts AtMost a = true
counts And a = boolean_in a
counts Or a = not (boolean_in a)
counts Xor a = true

-- the value of the expression in the scene
abbrev pub evaluate : Scene → Expr → Value
evaluate s (Integer n) = value.Integer n
evaluate s (Boolean b) = value.Boolean b
evaluate s Null = value.Pid pid.Null
evaluate s Env = value.Pid pid.Env
evaluate s (Own word) = value.Pid (own_of s.frame word)
evaluate s (Parameter k sort) = of_sort sort (slice_get (parameters s.frame) k)
evaluate s (Variable k sort) = of_sort sort (slice_get s.vars k)
evaluate s (Negated' _ a) = value.Integer (bounded (neg_ℤ (integer_in (evaluate s a))))
evaluate s (Not' _ a) = value.Boolean (not (boolean_in (evaluate s a)))
evaluate s (Serial' _ a) = value.Integer (serial_of (pid_in (evaluate s a)))
evaluate s (Instance' set _ a) = value.Pid (instance_at set (integer_in (evaluate s a)))
evaluate s (Two' op _ a _ b) = apply op (evaluate s a) (evaluate s b)
evaluate s (Choice' _ c _ a _ b) = if boolean_in (evaluate s c) then evaluate s a else evaluate s b

-- a value was bent, among those that count: the parts of `and`, `or` and the choice that are looked at
abbrev pub bends : Scene → Expr → Bool
bends s (Integer n) = false
bends s (Boolean b) = false
bends s Null = false
bends s Env = false
bends s (Own word) = false
bends s (Parameter k sort) = false
bends s (Variable k sort) = false
bends s (Negated' _ a) = bends s a || is_outside (neg_ℤ (integer_in (evaluate s a)))
bends s (Not' _ a) = bends s a
bends s (Serial' _ a) = bends s a
bends s (Instance' set _ a) = bends s a
bends s (Two' op _ a _ b) = bends s a || (counts op (evaluate s a) && (bends s b || is_bent op (evaluate s a) (evaluate s b)))
bends s (Choice' _ c _ a _ b) = bends s c || (if boolean_in (evaluate s c) then bends s a else bends s b)
