-- What the names of a text mean: of equal names the first counts.
use Rattle.std.specs.Prelude.{ℕ, Bool, true, false, ◌&&◌, ◌==◌, List, [], Option, Some, None, option_map, option_and_then, slice_get, position, bytes_eq}
use Rattle.std.specs.List.{list_any}
use Rattle.sdl_signal.specs.declared.ids.SignalId.{SignalId}
use Rattle.sdl_signal.specs.declared.ids.SetId.{SetId}
use Rattle.sdl_signal.specs.declared.ids.GateId.{GateId}
use Rattle.sdl_signal.specs.declared.ids.ChannelId.{ChannelId}
use Rattle.sdl_signal.specs.declared.ids.StateId.{StateId}
use Rattle.sdl_signal.specs.declared.values.Sort.{Sort}
use Rattle.sdl_signal.specs.declared.values.Value.{Value}
use Rattle.sdl_signal.specs.declared.values.Value.TheVariants as value
use Rattle.sdl_structure_parts.specs.declared.parts.SignalDecl.{SignalDecl}
use Rattle.sdl_structure_parts.specs.declared.parts.Gate.{Gate}
use Rattle.sdl_structure_parts.specs.declared.parts.Set.{Set}
use Rattle.sdl_structure_parts.specs.declared.parts.Channel.{Channel}
use Rattle.sdl_structure_parts.specs.declared.parts.Owner.{Owner}
use Rattle.sdl_structure_parts.specs.declared.parts.Owner.TheVariants as owner
use Rattle.sdl_structure_parts.specs.Structure.{Structure}
use Rattle.sdl_listing_expression.specs.declared.syntax.Expr.{Expr, Integer, Boolean, Parameter, Variable}
use Rattle.sdl_listing_expression_text.specs.declared.setting.Setting.{Setting}
use Rattle.sdl_listing_expression_text.specs.declared.setting.Meanings.{Meanings}
use Rattle.sdl_listing_expression_text.specs.declared.setting.Constant.{Constant}
use Rattle.sdl_listing_expression_text.specs.declared.setting.Variable.{Variable as Declared}

abbrev pub set_named : Structure → List ℕ → Option SetId
set_named s text = option_map (λ n. record { 0 = n }) (position (λ x. bytes_eq x.name.bytes text) s.sets)

abbrev pub signal_named : Setting → List ℕ → Option SignalId
signal_named s text = option_map (λ n. record { 0 = n }) (position (λ x. bytes_eq x.name.bytes text) s.structure.now.signals)

-- the gate is the set's
abbrev pub is_gate_of : SetId → Gate → Bool
is_gate_of set gate = elim gate.owner [ owner.System ↦ false | owner.Block b ↦ false | owner.Set t ↦ t.0 == set.0 ]

abbrev pub is_gate_named : SetId → List ℕ → Gate → Bool
is_gate_named set text gate = is_gate_of set gate && bytes_eq gate.name.bytes text

-- of the gates of the text's set
abbrev pub gate_named : Setting → List ℕ → Option GateId
gate_named s text = option_map (λ n. record { 0 = n }) (position (λ x. is_gate_named s.set text x) s.structure.now.gates)

abbrev pub channel_named : Setting → List ℕ → Option ChannelId
channel_named s text = option_map (λ n. record { 0 = n }) (position (λ x. bytes_eq x.name.bytes text) s.structure.now.channels)

abbrev pub state_named : Setting → List ℕ → Option StateId
state_named s text = option_map (λ n. record { 0 = n }) (position (λ x. bytes_eq x.bytes text) s.states.now.items)

-- the sorts of a signal's parameters
abbrev pub sorts_of_found : Option SignalDecl → List Sort
sorts_of_found (Some x) = x.sorts.items
sorts_of_found None = []

abbrev pub sorts_of_signal : Setting → SignalId → List Sort
sorts_of_signal s signal = sorts_of_found (slice_get s.structure.now.signals signal.0)

abbrev pub has_signal : SignalId → List SignalId → Bool
has_signal signal signals = list_any (λ x. x.0 == signal.0) signals

-- the gate is the set's, and lets the signal out
abbrev pub is_way_out : SetId → SignalId → Gate → Bool
is_way_out set signal gate = is_gate_of set gate && has_signal signal gate.outward.items

-- some gate of the set lets the signal out
abbrev pub is_outward : Setting → SignalId → Bool
is_outward s signal = list_any (λ x. is_way_out s.set signal x) s.structure.now.gates

abbrev pub is_let_out : SignalId → Option Gate → Bool
is_let_out signal (Some x) = has_signal signal x.outward.items
is_let_out signal None = false

-- the gate lets the signal out
abbrev pub lets_out : Setting → GateId → SignalId → Bool
lets_out s gate signal = is_let_out signal (slice_get s.structure.now.gates gate.0)

abbrev pub are_beside : Option Set → Option Set → Bool
are_beside (Some a) (Some b) = a.block.0 == b.block.0
are_beside _ _ = false

-- the set lies in the block of the text's set
abbrev pub is_beside : Setting → SetId → Bool
is_beside s set = are_beside (slice_get s.structure.now.sets s.set.0) (slice_get s.structure.now.sets set.0)

abbrev pub constant_named : List Constant → List ℕ → Option Value
constant_named cs text = option_and_then (λ n. option_map (λ c. c.value) (slice_get cs n)) (position (λ x. bytes_eq x.name.bytes text) cs)

-- the expression that a constant's value is
abbrev pub literal : Value → Option Expr
literal (value.Integer n) = Some (Integer n)
literal (value.Boolean b) = Some (Boolean b)
literal (value.Pid p) = None

abbrev pub variable_at : List Declared → ℕ → Option Expr
variable_at xs k = option_map (λ x. Variable k x.sort) (slice_get xs k)

abbrev pub parameter_at : List Sort → ℕ → Option Expr
parameter_at sorts k = option_map (λ sort. Parameter k sort) (slice_get sorts k)

abbrev pub value_unless : Option ℕ → (ℕ → Option Expr) → Option Expr → Option Expr
value_unless (Some k) here other = here k
value_unless None here other = other

-- what a name stands for that no variable has: a parameter, and else a constant
abbrev pub value_apart : Meanings → List ℕ → Option Expr
value_apart m text = value_unless (position (λ x. bytes_eq x.now text) m.names.now) (parameter_at m.sorts.now)
    (option_and_then literal (constant_named m.setting.constants.now text))

-- what the name of a variable, a parameter or a constant stands for; a parameter with a variable's name is assigned to it first
abbrev pub value_named : Meanings → List ℕ → Option Expr
value_named m text = value_unless (position (λ x. bytes_eq x.name.bytes text) m.setting.variables.now.items) (variable_at m.setting.variables.now.items) (value_apart m text)
