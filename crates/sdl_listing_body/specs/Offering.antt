-- What a row offers: all that a step of it may be, found in its body from the left.
use Rattle.std.specs.Prelude.{ℕ, Bool, true, false, ◌&&◌, ◌==◌, if◌then◌else◌, List, [], ◌∷◌, ◌++◌, map}
use Rattle.std.specs.List.{list_any}
use Rattle.sdl_signal.specs.declared.ids.SignalId.{SignalId}
use Rattle.sdl_signal.specs.declared.ids.SetId.{SetId}
use Rattle.sdl_signal.specs.declared.ids.StateId.{StateId}
use Rattle.sdl_signal.specs.declared.values.Sort.{Sort}
use Rattle.sdl_signal.specs.declared.values.Sort.TheVariants.{Integer, Boolean, Pid}
use Rattle.sdl_routes.specs.declared.route.Via.{Via}
use Rattle.sdl_routes.specs.declared.route.Via.TheVariants.{Any, Gate, Channel}
use Rattle.sdl_transition_behaviour.specs.declared.step.Next.{Next}
use Rattle.sdl_transition_behaviour.specs.declared.step.Next.TheVariants.{State, Stop}
use Rattle.sdl_transition_behaviour.specs.declared.offer.OfferedOutput.{OfferedOutput}
use Rattle.sdl_transition_behaviour.specs.declared.offer.Offer.{Offer}
use Rattle.sdl_listing_expression.specs.Sorted.{sort_in}
use Rattle.sdl_listing_body.specs.declared.syntax.Params.{Params, Nothing as NoMore, First'}
use Rattle.sdl_listing_body.specs.declared.syntax.Body.{Body, Nothing, Output', Create', Assign', If', End}
use Rattle.sdl_listing_body.specs.declared.syntax.Row.{Row}

-- the sorts of actual parameters
abbrev pub sorts_of : Params → List Sort
sorts_of NoMore = []
sorts_of (First' e _ rest) = sort_in e ∷ sorts_of rest

abbrev pub output_of : SignalId → Params → Via → OfferedOutput
output_of id params via = record { signal = record { id = id; sorts = record { items = sorts_of params } }; via = via }

abbrev pub same_sort : Sort → Sort → Bool
same_sort Integer Integer = true
same_sort Boolean Boolean = true
same_sort Pid Pid = true
same_sort _ _ = false

abbrev pub same_sorts : List Sort → List Sort → Bool
same_sorts [] [] = true
same_sorts (s ∷ ss) (t ∷ ts) = same_sort s t && same_sorts ss ts
same_sorts _ _ = false

abbrev pub same_via : Via → Via → Bool
same_via Any Any = true
same_via (Gate a) (Gate b) = a.0 == b.0
same_via (Channel a) (Channel b) = a.0 == b.0
same_via _ _ = false

-- the signal, the sorts of its parameters and the VIA are the same
abbrev pub same_output : OfferedOutput → OfferedOutput → Bool
same_output a b = a.signal.id.0 == b.signal.id.0 && same_via a.via b.via && same_sorts a.signal.sorts.items b.signal.sorts.items

abbrev pub same_set : SetId → SetId → Bool
same_set a b = a.0 == b.0

abbrev pub same_state : StateId → StateId → Bool
same_state a b = a.0 == b.0

-- the list with one more at its end, unless that is there
abbrev pub with_new : {X : Type 0} → (X → X → Bool) → List X → X → List X
with_new same xs x = if list_any (λ y. same y x) xs then xs else xs ++ x ∷ []

abbrev pub with_output : Offer → OfferedOutput → Offer
with_output o output = record o { outputs = record { items = with_new same_output o.outputs.items output } }

abbrev pub with_create : Offer → SetId → Offer
with_create o set = record o { creates = record { items = with_new same_set o.creates.items set } }

abbrev pub with_next : Offer → Next → Offer
with_next o (State state) = record o { nexts = record { items = with_new same_state o.nexts.items state } }
with_next o Stop = record o { may_stop = true }

-- the offer with what the body may do
abbrev pub with_body : Body → Offer → Offer
with_body Nothing o = o
with_body (Output' id params to via _ rest) o = with_body rest (with_output o (output_of id params via))
with_body (Create' set _ rest) o = with_body rest (with_create o set)
with_body (Assign' k e _ rest) o = with_body rest o
with_body (If' c _ on_true _ on_false _ rest) o = with_body rest (with_body on_false (with_body on_true o))
with_body (End next) o = with_next o next

-- for the row's state and signal, and nothing yet that it may do
abbrev pub offer_before : Row → Offer
offer_before row = record {
  state = row.state;
  signal = row.signal;
  vars = row.vars;
  outputs = record { items = [] };
  creates = record { items = [] };
  nexts = record { items = [] };
  may_stop = false;
  sets = row.sets;
}

abbrev pub offer_of : Row → Offer
offer_of row = with_body row.body (offer_before row)
