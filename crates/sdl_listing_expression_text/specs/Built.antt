-- An expression by its parts.
use Rattle.std.specs.Prelude.{◌≡◌, if◌then◌else◌}
use Rattle.sdl_signal.specs.declared.ids.SetId.{SetId}
use Rattle.sdl_signal.specs.declared.values.Sort.{Sort}
use Rattle.sdl_signal.specs.declared.values.Sort.TheVariants as sort
use Rattle.sdl_listing_expression.specs.declared.syntax.Operator.{Operator}
use Rattle.sdl_listing_expression.specs.declared.syntax.Operator.TheVariants.{Add, Subtract, Multiply, Divide, Modulo, Remainder, Equal, Differs, Less, AtMost, And, Or, Xor}
use Rattle.sdl_listing_expression.specs.declared.syntax.Expr.{Expr, Negated', Not', Serial', Instance', Two', Choice'}
use Rattle.sdl_listing_expression_text.specs.declared.operators.Infix.{Infix}

abbrev pub IsNegated : Expr → Expr → Type 0
IsNegated inner (Negated' _ a) = a ≡ inner
IsNegated inner _ = ⊥

abbrev pub IsInverse : Expr → Expr → Type 0
IsInverse inner (Not' _ a) = a ≡ inner
IsInverse inner _ = ⊥

abbrev pub IsSerial : Expr → Expr → Type 0
IsSerial inner (Serial' _ a) = a ≡ inner
IsSerial inner _ = ⊥

abbrev pub IsInstance : SetId → Expr → Expr → Type 0
IsInstance set inner (Instance' s _ a) = (s ≡ set) × (a ≡ inner)
IsInstance set inner _ = ⊥

-- the operator with the operands that stand before it and behind it; a turned one has its first operand behind it
abbrev pub IsJoined : Infix → Expr → Expr → Expr → Type 0
IsJoined i left right (Two' op _ a _ b) = (op ≡ i.operator) × (a ≡ (if i.is_turned then right else left)) × (b ≡ (if i.is_turned then left else right))
IsJoined i left right _ = ⊥

abbrev pub IsChoice : Expr → Expr → Expr → Expr → Type 0
IsChoice condition on_true on_false (Choice' _ c _ a _ b) = (c ≡ condition) × (a ≡ on_true) × (b ≡ on_false)
IsChoice condition on_true on_false _ = ⊥

-- the sort that the operator wants of both its operands, where this is the first one's
abbrev pub sort_wanted : Operator → Sort → Sort
sort_wanted Add first = sort.Integer
sort_wanted Subtract first = sort.Integer
sort_wanted Multiply first = sort.Integer
sort_wanted Divide first = sort.Integer
sort_wanted Modulo first = sort.Integer
sort_wanted Remainder first = sort.Integer
sort_wanted Equal first = first
sort_wanted Differs first = first
sort_wanted Less first = sort.Integer
sort_wanted AtMost first = sort.Integer
sort_wanted And first = sort.Boolean
sort_wanted Or first = sort.Boolean
sort_wanted Xor first = sort.Boolean
