-- The lists of a run by their numbers, and what is seen in them.
use Rattle.std.proofs.Common.{◌≡◌, Bool, true, All, ℕ, zero, suc, ◌+◌, ◌<◌, ◌≤◌, List, [], ◌∷◌, map, length, get_or, slice_get, None, Some, option_and_then, option_map, refl, ap, sym, ◌∙◌, subst, arith}
use Rattle.std.proofs.lemmas.List.{length-map, get_or-map}
use Rattle.std.proofs.lemmas.List.Elements.{All-get_or}
use Rattle.std.proofs.lemmas.Option.{slice_get-map, slice_get_past, same_Some, none-some}
use Rattle.sdl_signal.specs.declared.values.Item.{Item}
use Rattle.sdl_instances_log.specs.declared.event.Event.{Event}
use Rattle.sdl_run_outcome.specs.declared.environment_output.EnvOut.{EnvOut}
use Rattle.sdl_chart_page.specs.Entries.{Entry, entry_of_event, entry_of_receipt, entry_of_output, entries, entry_at, IsPast}

-- an element of a list, through a function
pub seen_through : {X : Type 0} (f : X → Entry) (xs : List X) (n : ℕ) (x : X) (e : Entry) → slice_get xs n ≡ Some x → e ≡ f x → slice_get (map f xs) n ≡ Some e
seen_through f xs n x e at is = slice_get-map f xs n ∙ (ap (option_map f) at ∙ ap Some (sym is))

pub stored_at : {K : Type 0} (stores : K → Bool) (logs : List K) (l : ℕ) (log : K) → l < length logs → log ≡ get_or logs l log → All (λ (k : K). stores k ≡ true) logs → stores log ≡ true
stored_at {K} stores logs l log less at all = subst (λ (k : K). stores k ≡ true) (sym at) (All-get_or (λ (k : K). stores k ≡ true) logs l log less all)

few_of : {X : Type 0} (f : X → Entry) (xs : List X) (n : ℕ) (es : List Entry) → length xs ≤ n → Some (map f xs) ≡ Some es → length es ≤ n
few_of f xs n es few is = subst (λ (ys : List Entry). length ys ≤ n) (same_Some (map f xs) es is) (subst (λ (m : ℕ). m ≤ n) (sym (length-map xs f)) few)

module _ (received : List Item) (put : List EnvOut) where
  list_of_log : (logs : List (List Event)) (l : ℕ) (d : List Event) → l < length logs → slice_get (entries logs received put) l ≡ Some (map entry_of_event (get_or logs l d))
  list_of_log [] l d h = absurd (omega arith)
  list_of_log (log ∷ logs) zero d h = refl
  list_of_log (log ∷ logs) (suc l) d h = list_of_log logs l d (omega arith)

  list_of_receipts : (logs : List (List Event)) → slice_get (entries logs received put) (length logs) ≡ Some (map entry_of_receipt received)
  list_of_receipts [] = refl
  list_of_receipts (log ∷ logs) = list_of_receipts logs

  list_of_outputs : (logs : List (List Event)) → slice_get (entries logs received put) (suc (length logs)) ≡ Some (map entry_of_output put)
  list_of_outputs [] = refl
  list_of_outputs (log ∷ logs) = list_of_outputs logs

  -- there are two lists more than logs
  pub lists_count : (logs : List (List Event)) → length (entries logs received put) ≡ length logs + 2
  lists_count [] = refl
  lists_count (log ∷ logs) = let rest = lists_count logs in omega arith

  module _ {K : Type 0} (events : K → List Event) (logs : List K) (l n : ℕ) where
    pub logs_count : length (entries (map events logs) received put) ≡ length logs + 2
    logs_count = lists_count (map events logs) ∙ ap (λ (m : ℕ). m + 2) (length-map logs events)

    log_here : (log : K) → l < length logs → log ≡ get_or logs l log → slice_get (entries (map events logs) received put) l ≡ Some (map entry_of_event (events log))
    log_here log less at =
        let within : l < length (map events logs) = subst (λ (m : ℕ). l < m) (sym (length-map logs events)) less in
        list_of_log (map events logs) l [] within ∙ ap (λ (es : List Event). Some (map entry_of_event es)) (get_or-map events logs l log [] less ∙ ap events (sym at))

    receipts_here : l ≡ length logs → slice_get (entries (map events logs) received put) l ≡ Some (map entry_of_receipt received)
    receipts_here is = ap (slice_get (entries (map events logs) received put)) (is ∙ sym (length-map logs events)) ∙ list_of_receipts (map events logs)

    outputs_here : l ≡ suc (length logs) → slice_get (entries (map events logs) received put) l ≡ Some (map entry_of_output put)
    outputs_here is = ap (slice_get (entries (map events logs) received put)) (is ∙ sym (ap suc (length-map logs events))) ∙ list_of_outputs (map events logs)

    pub seen_in_log : (log : K) (e : Entry) → l < length logs → log ≡ get_or logs l log → slice_get (map entry_of_event (events log)) n ≡ Some e → entry_at (entries (map events logs) received put) l n ≡ Some e
    seen_in_log log e less at found = ap (option_and_then (λ (es : List Entry). slice_get es n)) (log_here log less at) ∙ found

    pub seen_in_receipts : (e : Entry) → l ≡ length logs → slice_get (map entry_of_receipt received) n ≡ Some e → entry_at (entries (map events logs) received put) l n ≡ Some e
    seen_in_receipts e is found = ap (option_and_then (λ (es : List Entry). slice_get es n)) (receipts_here is) ∙ found

    pub seen_in_outputs : (e : Entry) → l ≡ suc (length logs) → slice_get (map entry_of_output put) n ≡ Some e → entry_at (entries (map events logs) received put) l n ≡ Some e
    seen_in_outputs e is found = ap (option_and_then (λ (es : List Entry). slice_get es n)) (outputs_here is) ∙ found

    pub past_in_log : (log : K) → l < length logs → log ≡ get_or logs l log → length (events log) ≤ n → IsPast (entries (map events logs) received put) l n
    past_in_log log less at past es here = few_of entry_of_event (events log) n es past (sym (log_here log less at) ∙ here)

    pub past_in_receipts : l ≡ length logs → length received ≤ n → IsPast (entries (map events logs) received put) l n
    past_in_receipts is past es here = few_of entry_of_receipt received n es past (sym (receipts_here is) ∙ here)

    pub past_in_outputs : l ≡ suc (length logs) → length put ≤ n → IsPast (entries (map events logs) received put) l n
    past_in_outputs is past es here = few_of entry_of_output put n es past (sym (outputs_here is) ∙ here)

    pub past_all : length logs + 2 ≤ l → IsPast (entries (map events logs) received put) l n
    past_all past es here =
        let none : slice_get (entries (map events logs) received put) l ≡ None =
        slice_get_past (entries (map events logs) received put) l (subst (λ (m : ℕ). m ≤ l) (sym logs_count) past) in
        absurd (none-some es (sym none ∙ here))
