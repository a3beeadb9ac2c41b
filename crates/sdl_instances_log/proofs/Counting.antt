-- What is counted of a log, after one more event.
use Rattle.std.proofs.Common.{◌≡◌, ℕ, ◌+◌, List, [], ◌∷◌, ◌++◌, length, length-append, slice_set, slice_index_or, ap, refl, sym, subst, arith}
use Rattle.std.proofs.lemmas.List.Sums.{sum_by_push}
use Rattle.sdl_instances_log.specs.declared.event.Event.{Event}
use Rattle.sdl_instances_log.specs.declared.counts.Counts.{Counts}
use Rattle.sdl_instances_log.specs.Counts.{AreCountsOf, AddsEvent, AreWithin, outputs_in, no_routes_in, entered_in, no_instance_in, gone_in, fired_in, implicit_in, stopped_in}

pub counts-more : (log : List Event) (old new : Counts) (e : Event) → AreCountsOf log old → AddsEvent old e new → AreCountsOf (log ++ e ∷ []) new
counts-more log old new e are adds =
    record {
      output = omega (arith, are.output, adds.output, sum_by_push outputs_in log e);
      no_route = omega (arith, are.no_route, adds.no_route, sum_by_push no_routes_in log e);
      entered = omega (arith, are.entered, adds.entered, sum_by_push entered_in log e);
      no_instance = omega (arith, are.no_instance, adds.no_instance, sum_by_push no_instance_in log e);
      gone = omega (arith, are.gone, adds.gone, sum_by_push gone_in log e);
      fired = omega (arith, are.fired, adds.fired, sum_by_push fired_in log e);
      implicit = omega (arith, are.implicit, adds.implicit, sum_by_push implicit_in log e);
      stopped = omega (arith, are.stopped, adds.stopped, sum_by_push stopped_in log e);
    }

-- a counted log after one event more
pub counted-more : (before after : List Event) (old new : Counts) (e : Event) → AreCountsOf before old → AreWithin (length before) old → after ≡ before ++ e ∷ [] → AddsEvent old e new
    → ((n : ℕ) → AreWithin n old → AreWithin (n + 1) new) → AreCountsOf after new × AreWithin (length after) new
counted-more before after old new e are was is adds within =
    subst (λ (l : List Event). AreCountsOf l new × AreWithin (length l) new) (sym is)
    (counts-more before old new e are adds, subst (λ (n : ℕ). AreWithin n new) (sym (length-append before (e ∷ []))) (within (length before) was))

-- the number of events of an unstored log after one more
pub noted : (events : ℕ) (before after : List Event) (e : Event) → events ≡ length before → after ≡ before ++ e ∷ [] → events + 1 ≡ length after
noted events before after e many is = omega (arith, many, length-append before (e ∷ []), ap length is)

-- the last event is another
pub set_last : {X : Type 0} (xs : List X) (a b : X) → slice_set (xs ++ a ∷ []) (length xs) b ≡ xs ++ b ∷ []
set_last [] a b = refl
set_last (x ∷ xs) a b = ap (λ (l : List _). x ∷ l) (set_last xs a b)

-- the last event is there
pub get_last : {X : Type 0} (xs : List X) (a other : X) → slice_index_or (xs ++ a ∷ []) (length xs) other ≡ a
get_last [] a other = refl
get_last (x ∷ xs) a other = get_last xs a other
