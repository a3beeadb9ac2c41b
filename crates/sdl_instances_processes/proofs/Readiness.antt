-- Which instances are ready, and their places in order.
use Rattle.std.proofs.Common.{◌≡◌, ℕ, zero, suc, ◌+◌, ◌<◌, Bool, true, false, ◌||◌, is_none, List, [], ◌∷◌, Option, None, Some, ◌⊎◌, inl, inr, refl, ap, sym, ◌∙◌, true≢false, is_some, IsSome, IfSome, unwrap_or, take, drop, cond, ◌++◌, take-append-drop, slice_get, count_by, arith}
use Rattle.std.proofs.lemmas.List.Sums.{count_by_more_yes, sum_by-append}
use Rattle.std.proofs.lemmas.Option.{slice_get_within, get_or_from_slice_get}
use Rattle.std.specs.Map.{values_of}
use Rattle.sdl_signal.specs.declared.values.Item.{Item}
use Rattle.sdl_signal.specs.declared.ids.StateId.{StateId}
use Rattle.sdl_transition_saves.specs.declared.save.Save.{Save}
use Rattle.sdl_transition_saves.specs.Saves.{saved_by}
use Rattle.sdl_instances_processes.specs.Ports.{AllSaved, next_in}
use Rattle.sdl_instances_processes.specs.Record.{Record, saved_in, saved_now, front_in, front_of, is_ready}
use Rattle.sdl_instances_processes.proofs.Ports.{all_passed, none_next, next_stays}

-- the two ways to say that an instance is ready
some_of : {X : Type 0} (o : Option X) → (o ≡ None → ⊥) → is_some o ≡ true
some_of None h = absurd (h refl)
some_of (Some x) h = refl

pub waits_for_none : (b : Bool) → (b || true) ≡ true
waits_for_none true = refl
waits_for_none false = refl

ready_by : (o : Option StateId) (saves : List Save) (port : List Item) → (o ≡ None) ⊎ (AllSaved (saved_in saves o) port → ⊥) → (is_none o || is_some (front_in saves o port)) ≡ true
ready_by None saves port h = refl
ready_by (Some q) saves port (inl e) = absurd (true≢false (ap is_some e))
ready_by (Some q) saves port (inr h) = some_of (next_in (saved_by saves q) port) (λ none. h (none_next (saved_by saves q) port none))

pub ready_is : (r : Record) → ((r.state ≡ None) ⊎ (AllSaved (saved_now r) r.port → ⊥)) → is_ready r ≡ true
ready_is r h = ready_by r.state r.saves r.port h

so_by : (o : Option StateId) (saves : List Save) (port : List Item) → (is_none o || is_some (front_in saves o port)) ≡ true → (o ≡ None) ⊎ (AllSaved (saved_in saves o) port → ⊥)
so_by None saves port h = inl refl
so_by (Some q) saves port h = inr (λ all. true≢false (sym h ∙ ap is_some (all_passed (saved_by saves q) port all)))

pub is_so : (r : Record) → is_ready r ≡ true → (r.state ≡ None) ⊎ (AllSaved (saved_now r) r.port → ⊥)
is_so r h = so_by r.state r.saves r.port h

-- an instance with a signal that is next is ready
pub front_ready : (r : Record) → IsSome (front_of r) → is_ready r ≡ true
front_ready r some = ap (λ b. is_none r.state || b) some ∙ waits_for_none (is_none r.state)

-- and stays so when another signal comes
stays_by : (o : Option StateId) (saves : List Save) (port more : List Item) → (is_none o || is_some (front_in saves o port)) ≡ true → (is_none o || is_some (front_in saves o (port ++ more))) ≡ true
stays_by None saves port more h = refl
stays_by (Some q) saves port more h = ap is_some (next_stays (saved_by saves q) port more h) ∙ h

received_ready : (r t : Record) (i : Item) → t ≡ record r { port = r.port ++ i ∷ [] } → is_ready r ≡ true → is_ready t ≡ true
received_ready r t i is h = ap is_ready is ∙ stays_by r.state r.saves r.port (i ∷ []) h

pub received_from_ready : (r t : Record) (slot : Option Item) → IsSome slot → IfSome slot (λ i. t ≡ record r { port = r.port ++ i ∷ [] }) → is_ready r ≡ true → is_ready t ≡ true
received_from_ready r t None some is h = absurd (true≢false (sym some))
received_from_ready r t (Some i) some is h = received_ready r t i is h

-- what is no longer so, or not yet
pub both_so : (b was : Bool) → was ≡ true → b ≡ true → b ≡ was
both_so b was w h = h ∙ sym w

-- the entry of a record
module _ {K X : Type 0} where
  pub record_of : (es : List (K × X)) (i : ℕ) (k : K) (x : X) → slice_get es i ≡ Some (k, x) → slice_get (values_of es) i ≡ Some x
  record_of [] i k x h = absurd (true≢false (sym (ap is_some h)))
  record_of (e ∷ es) zero k x h = ap (λ (o : Option (K × X)). Some (unwrap_or o (k, x)).1) h
  record_of (e ∷ es) (suc i) k x h = record_of es i k x h

-- where one is ready their number is not 0
pub some_ready : (rs : List Record) (i : ℕ) (r : Record) → slice_get rs i ≡ Some r → is_ready r ≡ true → 0 < count_by is_ready rs
some_ready rs i r at ready =
    let within = slice_get_within rs i r at in
    let more = count_by_more_yes is_ready rs i r within (ap is_ready (get_or_from_slice_get rs i r r at) ∙ ready) in
    let parts = ap (count_by is_ready) (take-append-drop (i + 1) rs) in
    let sum : count_by is_ready (take (i + 1) rs ++ drop (i + 1) rs) ≡ count_by is_ready (take (i + 1) rs) + count_by is_ready (drop (i + 1) rs) = sum_by-append (λ (x : Record). cond (is_ready x) 1 0) (take (i + 1) rs) (drop (i + 1) rs) in
    omega (arith, more, parts, sum)
