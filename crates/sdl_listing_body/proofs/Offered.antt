-- What a body may do is in its offer.
use Rattle.std.proofs.Common.{◌≡◌, refl, sym, ◌∙◌, ap, ℕ, ◌<◌, Bool, true, false, ◌&&◌, ◌||◌, ◌==◌, if◌then◌else◌, List, [], ◌∷◌, ◌++◌, length, inl, inr, arith}
use Rattle.std.specs.List.{Contains, list_any}
use Rattle.std.proofs.lemmas.Bool.{eqb-true, and_parts, or_cases}
use Rattle.std.proofs.lemmas.List.Elements.{Contains-push, Contains-append_left, Contains-append_right}
use Rattle.sdl_signal.specs.declared.ids.SetId.{SetId}
use Rattle.sdl_signal.specs.declared.ids.StateId.{StateId}
use Rattle.sdl_signal.specs.declared.ids.SignalId.{SignalId}
use Rattle.sdl_signal.specs.declared.ids.GateId.{GateId}
use Rattle.sdl_signal.specs.declared.ids.ChannelId.{ChannelId}
use Rattle.sdl_signal.specs.declared.values.Sort.{Sort}
use Rattle.sdl_signal.specs.declared.values.Sort.TheVariants.{Integer, Boolean, Pid}
use Rattle.sdl_routes.specs.declared.route.Via.{Via}
use Rattle.sdl_routes.specs.declared.route.Via.TheVariants.{Any, Gate, Channel}
use Rattle.sdl_transition_behaviour.specs.declared.step.Next.{Next}
use Rattle.sdl_transition_behaviour.specs.declared.step.Next.TheVariants.{State, Stop}
use Rattle.sdl_transition_behaviour.specs.declared.offer.OfferedOutput.{OfferedOutput}
use Rattle.sdl_transition_behaviour.specs.declared.offer.Offer.{Offer}
use Rattle.sdl_listing_body.specs.declared.syntax.Body.{Body, Nothing, Output', Create', Assign', If', End}
use Rattle.sdl_listing_body.specs.Offering.{output_of, same_sort, same_sorts, same_via, same_output, same_set, same_state, with_new, with_output, with_create, with_next, with_body}

-- what the tests of equality mean
pub same_set_is : (a b : SetId) → same_set a b ≡ true → a ≡ b
same_set_is a b e =
    let n : a.0 ≡ b.0 = eqb-true a.0 b.0 e in
    ap (λ (k : ℕ). let s : SetId = record { 0 = k } in s) n

pub same_state_is : (a b : StateId) → same_state a b ≡ true → a ≡ b
same_state_is a b e =
    let n : a.0 ≡ b.0 = eqb-true a.0 b.0 e in
    ap (λ (k : ℕ). let s : StateId = record { 0 = k } in s) n

same_sort_is : (a b : Sort) → same_sort a b ≡ true → a ≡ b
same_sort_is Integer Integer e = refl
same_sort_is Integer Boolean e = cc
same_sort_is Integer Pid e = cc
same_sort_is Boolean Integer e = cc
same_sort_is Boolean Boolean e = refl
same_sort_is Boolean Pid e = cc
same_sort_is Pid Integer e = cc
same_sort_is Pid Boolean e = cc
same_sort_is Pid Pid e = refl

same_sorts_is : (a b : List Sort) → same_sorts a b ≡ true → a ≡ b
same_sorts_is [] [] e = refl
same_sorts_is [] (t ∷ ts) e = cc
same_sorts_is (s ∷ ss) [] e = cc
same_sorts_is (s ∷ ss) (t ∷ ts) e =
    let parts = and_parts (same_sort s t) (same_sorts ss ts) e in
    let first : s ≡ t = same_sort_is s t parts.0 in
    let others : ss ≡ ts = same_sorts_is ss ts parts.1 in
    cc

same_via_is : (a b : Via) → same_via a b ≡ true → a ≡ b
same_via_is Any Any e = refl
same_via_is Any (Gate b) e = cc
same_via_is Any (Channel b) e = cc
same_via_is (Gate a) Any e = cc
same_via_is (Gate a) (Gate b) e = ap (λ (k : ℕ). Gate (record { 0 = k })) (eqb-true a.0 b.0 e)
same_via_is (Gate a) (Channel b) e = cc
same_via_is (Channel a) Any e = cc
same_via_is (Channel a) (Gate b) e = cc
same_via_is (Channel a) (Channel b) e = ap (λ (k : ℕ). Channel (record { 0 = k })) (eqb-true a.0 b.0 e)

output_from : ℕ → List Sort → Via → OfferedOutput
output_from n sorts via = record { signal = record { id = record { 0 = n }; sorts = record { items = sorts } }; via = via }

output_same : (n m : ℕ) (s t : List Sort) (v w : Via) → n ≡ m → s ≡ t → v ≡ w → output_from n s v ≡ output_from m t w
output_same n m s t v w e f g = cc

pub same_output_is : (a b : OfferedOutput) → same_output a b ≡ true → a ≡ b
unfolding output_from
same_output_is a b e =
    let first = and_parts (a.signal.id.0 == b.signal.id.0 && same_via a.via b.via) (same_sorts a.signal.sorts.items b.signal.sorts.items) e in
    let second = and_parts (a.signal.id.0 == b.signal.id.0) (same_via a.via b.via) first.0 in
    let n : a.signal.id.0 ≡ b.signal.id.0 = eqb-true a.signal.id.0 b.signal.id.0 second.0 in
    let v : a.via ≡ b.via = same_via_is a.via b.via second.1 in
    let t : a.signal.sorts.items ≡ b.signal.sorts.items = same_sorts_is a.signal.sorts.items b.signal.sorts.items first.1 in
    output_same a.signal.id.0 b.signal.id.0 a.signal.sorts.items b.signal.sorts.items a.via b.via n t v

-- the list keeps its elements, and has the new one
module _ {X : Type 0} (same : X → X → Bool) where
  kept_by : (b : Bool) (xs : List X) (x y : X) → Contains xs y → Contains (if b then xs else xs ++ x ∷ []) y
  kept_by true xs x y h = h
  kept_by false xs x y h = Contains-append_left xs (x ∷ []) y h

  pub kept : (xs : List X) (x y : X) → Contains xs y → Contains (with_new same xs x) y
  kept xs x y h = kept_by (list_any (λ z. same z x) xs) xs x y h

  any_is : ((a b : X) → same a b ≡ true → a ≡ b) → (xs : List X) (x : X) → list_any (λ z. same z x) xs ≡ true → Contains xs x
  any_is is [] x e = absurd (let bad : ⊥ = cc in bad)
  any_is is (y ∷ ys) x e = elim (or_cases (same y x) (list_any (λ z. same z x) ys) e) [
    | inl here ↦ (0, omega arith, is y x here)
    | inr there ↦ Contains-append_right (y ∷ []) ys x (any_is is ys x there)
  ]

  found_by : ((a b : X) → same a b ≡ true → a ≡ b) → (xs : List X) (x : X) (b : Bool) → list_any (λ z. same z x) xs ≡ b → Contains (if b then xs else xs ++ x ∷ []) x
  found_by is xs x true e = any_is is xs x e
  found_by is xs x false e = Contains-push xs x

  pub found : ((a b : X) → same a b ≡ true → a ≡ b) → (xs : List X) (x : X) → Contains (with_new same xs x) x
  found is xs x = found_by is xs x (list_any (λ z. same z x) xs) refl

-- the second offer has all that the first has
pub record Covers (o p : Offer) : Type 0 where
  pub outputs : (x : OfferedOutput) → Contains o.outputs.items x → Contains p.outputs.items x
  pub creates : (x : SetId) → Contains o.creates.items x → Contains p.creates.items x
  pub nexts : (x : StateId) → Contains o.nexts.items x → Contains p.nexts.items x
  pub may_stop : o.may_stop ≡ true → p.may_stop ≡ true

pub covers_itself : (o : Offer) → Covers o o
covers_itself o = record { outputs = λ x h. h; creates = λ x h. h; nexts = λ x h. h; may_stop = λ h. h }

pub covers_along : (o p q : Offer) → Covers o p → Covers p q → Covers o q
covers_along o p q a b = record {
  outputs = λ x h. b.outputs x (a.outputs x h);
  creates = λ x h. b.creates x (a.creates x h);
  nexts = λ x h. b.nexts x (a.nexts x h);
  may_stop = λ h. b.may_stop (a.may_stop h);
}

pub with_output_covers : (o : Offer) (output : OfferedOutput) → Covers o (with_output o output)
with_output_covers o output = record {
  outputs = λ x h. kept same_output o.outputs.items output x h;
  creates = λ x h. h;
  nexts = λ x h. h;
  may_stop = λ h. h;
}

pub with_create_covers : (o : Offer) (set : SetId) → Covers o (with_create o set)
with_create_covers o set = record {
  outputs = λ x h. h;
  creates = λ x h. kept same_set o.creates.items set x h;
  nexts = λ x h. h;
  may_stop = λ h. h;
}

pub with_next_covers : (o : Offer) (next : Next) → Covers o (with_next o next)
with_next_covers o (State state) = record {
  outputs = λ x h. h;
  creates = λ x h. h;
  nexts = λ x h. kept same_state o.nexts.items state x h;
  may_stop = λ h. h;
}
with_next_covers o Stop = record { outputs = λ x h. h; creates = λ x h. h; nexts = λ x h. h; may_stop = λ h. refl }

pub covers_body : (b : Body) (o : Offer) → Covers o (with_body b o)
covers_body Nothing o = covers_itself o
covers_body (Output' id params to via _ rest) o =
    let own = with_output o (output_of id params via) in
    covers_along o own (with_body rest own) (with_output_covers o (output_of id params via)) (covers_body rest own)
covers_body (Create' set _ rest) o =
    let own = with_create o set in
    covers_along o own (with_body rest own) (with_create_covers o set) (covers_body rest own)
covers_body (Assign' k e _ rest) o = covers_body rest o
covers_body (If' c _ on_true _ on_false _ rest) o =
    let first = with_body on_true o in
    let second = with_body on_false first in
    covers_along o first (with_body rest second) (covers_body on_true o) (covers_along first second (with_body rest second) (covers_body on_false first) (covers_body rest second))
covers_body (End next) o = with_next_covers o next

-- a body changes nothing of whom the offer is for
next_sets : (o : Offer) (next : Next) → (with_next o next).sets ≡ o.sets
next_sets o (State state) = refl
next_sets o Stop = refl

pub body_sets : (b : Body) (o : Offer) → (with_body b o).sets ≡ o.sets
body_sets Nothing o = refl
body_sets (Output' id params to via _ rest) o = body_sets rest (with_output o (output_of id params via))
body_sets (Create' set _ rest) o = body_sets rest (with_create o set)
body_sets (Assign' k e _ rest) o = body_sets rest o
body_sets (If' c _ on_true _ on_false _ rest) o =
    body_sets rest (with_body on_false (with_body on_true o)) ∙ (body_sets on_false (with_body on_true o) ∙ body_sets on_true o)
body_sets (End next) o = next_sets o next

next_vars : (o : Offer) (next : Next) → (with_next o next).vars.items ≡ o.vars.items
next_vars o (State state) = refl
next_vars o Stop = refl

pub body_vars : (b : Body) (o : Offer) → (with_body b o).vars.items ≡ o.vars.items
body_vars Nothing o = refl
body_vars (Output' id params to via _ rest) o = body_vars rest (with_output o (output_of id params via))
body_vars (Create' set _ rest) o = body_vars rest (with_create o set)
body_vars (Assign' k e _ rest) o = body_vars rest o
body_vars (If' c _ on_true _ on_false _ rest) o =
    body_vars rest (with_body on_false (with_body on_true o)) ∙ (body_vars on_false (with_body on_true o) ∙ body_vars on_true o)
body_vars (End next) o = next_vars o next
