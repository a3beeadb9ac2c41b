-- What a step has done where no part of it was refused.
use Rattle.std.proofs.Common.{◌≡◌, ◌≢◌, ◌+◌, inl, inr, Bool, true, false, Result, Ok, Err, List, [], ◌∷◌, IfOk, length, length-append, refl, ap, sym, ◌∙◌, ◌⊎◌, subst}
use Rattle.sdl_signal.specs.declared.values.Item.{Item}
use Rattle.sdl_signal.specs.Names.{Lexicon}
use Rattle.sdl_routes.specs.declared.route.TableRow.{TableRow}
use Rattle.sdl_routes.specs.declared.route.Station.{Station}
use Rattle.sdl_routes.specs.declared.route.Station.TheVariants.{Outlet}
use Rattle.sdl_forward.specs.Boards.{waiting}
use Rattle.sdl_block_hand.specs.declared.hand.Refused.{Refused}
use Rattle.sdl_block_hand.specs.declared.hand.Stepped.TheVariants.{Memory}
use Rattle.sdl_block_hand.specs.Puts.{answer_of}
use Rattle.sdl_run_outcome.specs.EnvironmentWork.{EnvWorking}
use Rattle.sdl_run_environment.specs.EnvPhases.{Reads, Receives}
use Rattle.sdl_run_environment.specs.EnvSteps.{ReadsNext, TakesNext, StepsOn}
use Rattle.sdl_run_environment.specs.EnvSends.{SentOn}

module _ (names : Lexicon) (rows : List TableRow) where
  pub line_next : (did : Bool) (old new : EnvWorking) → Reads names rows old (Ok did) new → ReadsNext old new
  line_next true old new (unended, inl r) = λ none. inl (ap (λ (w : EnvWorking). length w.put) r.same ∙ length-append old.put (r.out ∷ []))
  line_next true old new (unended, inr r) = λ none. inr (λ e. let ended = ap (λ (w : EnvWorking). w.ended) r.same in cc)
  line_next false old new (same, ended) = λ none. absurd (ended none)

item_next : (did : Bool) (old : EnvWorking) (before : List (Station × List Item)) (new : EnvWorking) (after : List (Station × List Item)) → Receives old before (Ok did) new after → TakesNext old new after
item_next true old before new after (i, front, changes, same) = inl (ap (λ (w : EnvWorking). length w.received) same ∙ length-append old.received (i ∷ []))
item_next false old before new after (same, board, none) = inr (ap (λ (b : List (Station × List Item)). waiting b Outlet) board ∙ none)

item_keeps : (did : Bool) (old : EnvWorking) (before : List (Station × List Item)) (new : EnvWorking) (after : List (Station × List Item)) → Receives old before (Ok did) new after
    → (new.outgoing ≡ old.outgoing) × (new.ended ≡ old.ended) × (new.put ≡ old.put)
item_keeps true old before new after (i, front, changes, same) = (ap (λ (w : EnvWorking). w.outgoing) same, ap (λ (w : EnvWorking). w.ended) same, ap (λ (w : EnvWorking). w.put) same)
item_keeps false old before new after (same, board, none) = (ap (λ (w : EnvWorking). w.outgoing) same, ap (λ (w : EnvWorking). w.ended) same, ap (λ (w : EnvWorking). w.put) same)

pub read_around : (old w1 w2 new : EnvWorking) → w1.ended ≡ old.ended → w1.put ≡ old.put → new.ended ≡ w2.ended → new.put ≡ w2.put → ReadsNext w1 w2 → ReadsNext old new
read_around old w1 w2 new ended put last_ended last_put h = λ none. elim (h (ended ∙ none)) [
  | inl e ↦ inl (ap length last_put ∙ e ∙ ap (λ (l : List _). length l + 1) put)
  | inr e ↦ inr (λ n. e (sym last_ended ∙ n))
]

take_around : (old w3 new : EnvWorking) (after : List (Station × List Item)) → w3.received ≡ old.received → TakesNext w3 new after → TakesNext old new after
take_around old w3 new after same h = subst (λ (l : List Item). (length new.received ≡ length l + 1) ⊎ (waiting after Outlet ≡ [])) same h

-- a sending and a receiving, neither of them refused
pub steps_on : (old mid : EnvWorking) (between : List (Station × List Item)) (new : EnvWorking) (after : List (Station × List Item)) (t : Bool)
    → SentOn old mid → mid.received ≡ old.received → Receives mid between (Ok t) new after → StepsOn old new after
steps_on old mid between new after t on same received =
    let keeps = item_keeps t mid between new after received in
    record { hand = keeps.0 ∙ on.hand; read = read_around old old mid new refl refl keeps.1 keeps.2 on.read; taken = take_around old mid new after same (item_next t mid between new after received) }

-- what is said of an answer that is no refusal
pub unrefused : {P : Type 0} (result : Result Bool Refused) → IfOk result (λ did. P) → answer_of result ≢ Memory → P
unrefused (Ok did) h not = h
unrefused (Err r) h not = absurd (not refl)
