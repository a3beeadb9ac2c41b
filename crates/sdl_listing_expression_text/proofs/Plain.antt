-- What a name stands for is an Integer, a Boolean, a parameter or a variable.
use Rattle.std.proofs.Common.{◌≡◌, sym, ◌∙◌, ap, subst, ℕ, List, Option, Some, None}
use Rattle.std.specs.Prelude.{option_map, option_and_then, slice_get, position, bytes_eq}
use Rattle.sdl_signal.specs.declared.values.Sort.{Sort}
use Rattle.sdl_signal.specs.declared.values.Value.{Value}
use Rattle.sdl_signal.specs.declared.values.Value.TheVariants as value
use Rattle.sdl_listing_expression.specs.declared.syntax.Expr.{Expr, Integer, Boolean, Parameter, Variable}
use Rattle.sdl_listing_expression_text.specs.declared.setting.Meanings.{Meanings}
use Rattle.sdl_listing_expression_text.specs.declared.setting.Variable.{Variable as Declared}
use Rattle.sdl_listing_expression_text.specs.Meanings.{constant_named, literal, variable_at, parameter_at, value_unless, value_apart, value_named}

abbrev pub IsPlain : Expr → Type 0
IsPlain (Integer z) = Unit {0}
IsPlain (Boolean b) = Unit {0}
IsPlain (Parameter k sort) = Unit {0}
IsPlain (Variable k sort) = Unit {0}
IsPlain _ = ⊥

-- what a place may give
AllPlain : Option Expr → Type 0
AllPlain None = Unit {0}
AllPlain (Some e) = IsPlain e

map_plain : {X : Type 0} (f : X → Expr) → ((x : X) → IsPlain (f x)) → (o : Option X) → AllPlain (option_map f o)
unfolding AllPlain
map_plain f h None = tt
map_plain f h (Some x) = h x

literal_plain : (v : Value) → AllPlain (literal v)
unfolding AllPlain
literal_plain (value.Integer n) = tt
literal_plain (value.Boolean b) = tt
literal_plain (value.Pid p) = tt

constant_plain : (o : Option Value) → AllPlain (option_and_then literal o)
unfolding AllPlain
constant_plain None = tt
constant_plain (Some v) = literal_plain v

unless_plain : (o : Option ℕ) (here : ℕ → Option Expr) (other : Option Expr) → ((k : ℕ) → AllPlain (here k)) → AllPlain other → AllPlain (value_unless o here other)
unless_plain (Some k) here other h p = h k
unless_plain None here other h p = p

variable_plain : (xs : List Declared) (k : ℕ) → AllPlain (variable_at xs k)
variable_plain xs k = map_plain (λ (x : Declared). Variable k x.sort) (λ x. tt) (slice_get xs k)

parameter_plain : (sorts : List Sort) (k : ℕ) → AllPlain (parameter_at sorts k)
parameter_plain sorts k = map_plain (λ (sort : Sort). Parameter k sort) (λ x. tt) (slice_get sorts k)

all_plain : (m : Meanings) (text : List ℕ) → AllPlain (value_named m text)
all_plain m text =
    unless_plain (position (λ x. bytes_eq x.name.bytes text) m.setting.variables.now.items) (variable_at m.setting.variables.now.items) (value_apart m text)
    (variable_plain m.setting.variables.now.items)
    (unless_plain (position (λ x. bytes_eq x.now text) m.names.now) (parameter_at m.sorts.now) (option_and_then literal (constant_named m.setting.constants.now text))
    (parameter_plain m.sorts.now) (constant_plain (constant_named m.setting.constants.now text)))

pub value_plain : (m : Meanings) (text : List ℕ) (e : Expr) → value_named m text ≡ Some e → IsPlain e
unfolding AllPlain
value_plain m text e found = subst AllPlain found (all_plain m text)

-- a variable's name stands for the variable, whatever else has it
pub variable_named : (m : Meanings) (text : List ℕ) (vs : List Declared) (k : ℕ) (r : Option Expr) → vs ≡ m.setting.variables.now.items
    → position (λ x. bytes_eq x.name.bytes text) vs ≡ Some k → r ≡ variable_at vs k → r ≡ value_named m text
variable_named m text vs k r same place found =
    let vars = m.setting.variables.now.items in
    let here : position (λ x. bytes_eq x.name.bytes text) vars ≡ Some k =
    subst (λ (l : List Declared). position (λ x. bytes_eq x.name.bytes text) l ≡ Some k) same place in
    found ∙ (ap (λ (l : List Declared). variable_at l k) same ∙ sym (ap (λ (o : Option ℕ). value_unless o (variable_at vars) (value_apart m text)) here))
