-- The first signal of a port that is not saved.
use Rattle.std.proofs.Common.{◌≡◌, ℕ, suc, ◌+◌, Bool, true, false, cond, List, [], ◌∷◌, ◌++◌, Option, None, Some, All, Bor, rules, nat_lt, option_copied, ◌⊎◌, inl, inr, refl, ap, sym, ◌∙◌, subst, true≢false, is_some, is_none, length, length-append, slice_get, unwrap_or, arith}
use Rattle.std.specs.List.{AllByRecursion}
use Rattle.std.specs.Slice.{IsItemAt}
use Rattle.std.proofs.lemmas.Bool.{cond-true, cond-false, lt-ltb}
use Rattle.std.proofs.lemmas.List.Elements.{All-nil, All-cons, recursion_from_All}
use Rattle.sdl_signal.specs.declared.ids.SignalId.{SignalId}
use Rattle.sdl_signal.specs.declared.values.Item.{Item}
use Rattle.sdl_instances_processes.specs.Ports.{next_in, AllSaved, TakesOut}

-- a signal is saved, or it is not
pub either : (b : Bool) → (b ≡ true) ⊎ (b ≡ false)
either true = inl refl
either false = inr refl

pub some_same : {X : Type 0} (x y : X) → Some x ≡ Some y → x ≡ y
some_same x y e = ap (λ o. unwrap_or o x) e

pub none_some : {X : Type 0} (x : X) → None ≡ Some x → ⊥
none_some x e = true≢false (sym (ap is_some e))

-- whether a list has a first
pub has_some : (items : List Item) (n : ℕ) → length items ≡ n → nat_lt 0 n ≡ is_some (slice_get items 0)
has_some [] n h = ap (λ k. nat_lt 0 k) (sym h)
has_some (i ∷ items) n h = ap (λ k. nat_lt 0 k) (sym h) ∙ lt-ltb 0 (suc (length items)) (omega arith)

pub front_item : (items : List Item) (o : Option (Bor Item)) → IsItemAt items 0 o → option_copied o ≡ slice_get items 0
front_item [] None h = refl
front_item [] (Some x) h = absurd (search rules)
front_item (i ∷ items) None h = absurd (search rules)
front_item (i ∷ items) (Some x) h = search rules

module _ (saved : SignalId → Bool) where
  -- those that are saved are passed over
  pub passes : (before rest : List Item) → AllSaved saved before → next_in saved (before ++ rest) ≡ next_in saved rest
  passes [] rest h = refl
  passes (i ∷ before) rest h =
      cond-true (saved i.signal.id) (next_in saved (before ++ rest)) (Some i) h.0 ∙ passes before rest h.1

  -- where nothing is saved, the first of all is the next
  pub first_next : ((signal : SignalId) → saved signal ≡ false) → (items : List Item) → next_in saved items ≡ slice_get items 0
  first_next none [] = refl
  first_next none (i ∷ items) = cond-false (saved i.signal.id) (next_in saved items) (Some i) (none i.signal.id)

  pub first_taken : ((signal : SignalId) → saved signal ≡ false) → (items : List Item) (i : Item) (rest : List Item) → items ≡ i ∷ rest → TakesOut saved items i rest
  first_taken none items i rest are =
      record { before = []; behind = rest; items_are = are; rest_is = refl; all_saved = tt; not_saved = none i.signal.id }

  pub all_passed : (items : List Item) → AllSaved saved items → next_in saved items ≡ None
  all_passed [] h = refl
  all_passed (i ∷ items) h = cond-true (saved i.signal.id) (next_in saved items) (Some i) h.0 ∙ all_passed items h.1

  none_by : (i : Item) (items : List Item) → (next_in saved items ≡ None → AllSaved saved items) → (saved i.signal.id ≡ true) ⊎ (saved i.signal.id ≡ false) → next_in saved (i ∷ items) ≡ None → AllSaved saved (i ∷ items)
  none_by i items more (inl is) none = (is, more (sym (cond-true (saved i.signal.id) (next_in saved items) (Some i) is) ∙ none))
  none_by i items more (inr not) none = absurd (none_some i (sym none ∙ cond-false (saved i.signal.id) (next_in saved items) (Some i) not))

  pub none_next : (items : List Item) → next_in saved items ≡ None → AllSaved saved items
  none_next [] h = tt
  none_next (i ∷ items) h = none_by i items (none_next items) (either (saved i.signal.id)) h

  -- the first that is not saved can be taken out
  pub cons_taken : (j : Item) (items : List Item) (i : Item) (rest : List Item) → saved j.signal.id ≡ true → TakesOut saved items i rest → TakesOut saved (j ∷ items) i (j ∷ rest)
  cons_taken j items i rest is t =
      record { before = j ∷ t.before; behind = t.behind; items_are = ap (λ l. j ∷ l) t.items_are; rest_is = ap (λ l. j ∷ l) t.rest_is; all_saved = (is, t.all_saved); not_saved = t.not_saved }

  one_before : (j : Item) (items : List Item) (i : Item) → saved j.signal.id ≡ true → (rest : List Item) × TakesOut saved items i rest → (rest : List Item) × TakesOut saved (j ∷ items) i rest
  one_before j items i is (rest, t) = (j ∷ rest, cons_taken j items i rest is t)

  takes_by : (j : Item) (items : List Item) (i : Item) → (next_in saved items ≡ Some i → (rest : List Item) × TakesOut saved items i rest) → (saved j.signal.id ≡ true) ⊎ (saved j.signal.id ≡ false)
      → next_in saved (j ∷ items) ≡ Some i → (rest : List Item) × TakesOut saved (j ∷ items) i rest
  takes_by j items i more (inl is) h = one_before j items i is (more (sym (cond-true (saved j.signal.id) (next_in saved items) (Some j) is) ∙ h))
  takes_by j items i more (inr not) h =
      let same : j ≡ i = some_same j i (sym (cond-false (saved j.signal.id) (next_in saved items) (Some j) not) ∙ h) in
      (items, record { before = []; behind = items; items_are = ap (λ x. x ∷ items) same; rest_is = refl; all_saved = tt; not_saved = subst (λ (x : Item). saved x.signal.id ≡ false) same not })

  pub takes_next : (items : List Item) (i : Item) → next_in saved items ≡ Some i → (rest : List Item) × TakesOut saved items i rest
  takes_next [] i h = absurd (none_some i h)
  takes_next (j ∷ items) i h = takes_by j items i (takes_next items i) (either (saved j.signal.id)) h

  -- and what is taken out was the first
  pub next_taken : (items : List Item) (i : Item) (rest : List Item) → TakesOut saved items i rest → next_in saved items ≡ Some i
  next_taken items i rest t =
      ap (next_in saved) t.items_are ∙ passes t.before (i ∷ t.behind) t.all_saved ∙ cond-false (saved i.signal.id) (next_in saved t.behind) (Some i) t.not_saved

  -- one less is left
  pub length_taken : (items : List Item) (i : Item) (rest : List Item) → TakesOut saved items i rest → length items ≡ length rest + 1
  length_taken items i rest t =
      let a : length items ≡ length t.before + length (i ∷ t.behind) = ap length t.items_are ∙ length-append t.before (i ∷ t.behind) in
      let b : length rest ≡ length t.before + length t.behind = ap length t.rest_is ∙ length-append t.before t.behind in
      omega (arith, a, b)

  -- what comes behind does not change which is the first
  more_by : (j : Item) (items more : List Item) → (is_some (next_in saved items) ≡ true → next_in saved (items ++ more) ≡ next_in saved items) → (saved j.signal.id ≡ true) ⊎ (saved j.signal.id ≡ false)
      → is_some (next_in saved (j ∷ items)) ≡ true → next_in saved (j ∷ items ++ more) ≡ next_in saved (j ∷ items)
  more_by j items more h (inl is) some =
      let here = cond-true (saved j.signal.id) (next_in saved items) (Some j) is in
      cond-true (saved j.signal.id) (next_in saved (items ++ more)) (Some j) is ∙ h (sym (ap is_some here) ∙ some) ∙ sym here
  more_by j items more h (inr not) some =
      cond-false (saved j.signal.id) (next_in saved (items ++ more)) (Some j) not ∙ sym (cond-false (saved j.signal.id) (next_in saved items) (Some j) not)

  pub next_stays : (items more : List Item) → is_some (next_in saved items) ≡ true → next_in saved (items ++ more) ≡ next_in saved items
  next_stays [] more some = absurd (true≢false (sym some))
  next_stays (j ∷ items) more some = more_by j items more (next_stays items more) (either (saved j.signal.id)) some

  -- what holds of each signal holds of the one that is taken out, and of those that stay
  pub all_taken : (P : Item → Type 0) (items : List Item) (i : Item) (rest : List Item) → TakesOut saved items i rest → AllByRecursion P items → P i × AllByRecursion P rest
  all_taken P items i rest t h =
      let of = in_turn t.before (subst (AllByRecursion P) t.items_are h) in (of.0, subst (AllByRecursion P) (sym t.rest_is) of.1)
    where
      in_turn : (before : List Item) → AllByRecursion P (before ++ i ∷ t.behind) → P i × AllByRecursion P (before ++ t.behind)
      in_turn [] all = (all.0, all.1)
      in_turn (j ∷ before) all = let more = in_turn before all.1 in (more.0, (all.0, more.1))

  all_from : (P : Item → Type 0) (items : List Item) → AllByRecursion P items → All P items
  all_from P [] h = All-nil P
  all_from P (i ∷ items) h = All-cons P i items h.0 (all_from P items h.1)

  pub all_of_taken : (P : Item → Type 0) (items : List Item) (i : Item) (rest : List Item) → TakesOut saved items i rest → All P items → P i × All P rest
  all_of_taken P items i rest t h =
      let of = all_taken P items i rest t (recursion_from_All P items h) in (of.0, all_from P rest of.1)
