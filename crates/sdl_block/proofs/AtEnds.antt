-- A step where each queue has ends of its own.
use Rattle.std.proofs.Common.{◌≡◌, ℕ, inl, inr, Bool, true, false, Result, Ok, Err, List, [], ◌∙◌, append-nil}
use Rattle.sdl_signal.specs.declared.values.Item.{Item}
use Rattle.sdl_routes.specs.declared.route.Station.{Station}
use Rattle.sdl_transition_behaviour.specs.declared.step.Frame.{Frame}
use Rattle.sdl_transition_behaviour.specs.declared.step.Step.{Step}
use Rattle.sdl_instances.specs.Machine.{System}
use Rattle.sdl_instances.specs.Core.{IsSound}
use Rattle.sdl_forward_ends.specs.Ends.{WorkerEnds, IsSameEnds, put_at, taken_by}
use Rattle.sdl_forward.specs.ByEnds.{MovesByEnds, by_ends}
use Rattle.sdl_block_hand.specs.declared.hand.Stepped.{Stepped}
use Rattle.sdl_block_hand.specs.declared.hand.Refused.{Refused}
use Rattle.sdl_block_hand.specs.Work.{Working}
use Rattle.sdl_block_hand.specs.Apart.{WorksApart}
use Rattle.sdl_block_hand.specs.Puts.{answer_of}
use Rattle.sdl_block.specs.Phases.{IsSpent, PutsFirst}
use Rattle.sdl_block.specs.PhasesApart.{StepsToApart, IsOneRoundApart}
use Rattle.sdl_block.specs.Around.{Queues, GoesThrough, around}
use Rattle.sdl_block.proofs.Going.{Going}
use Rattle.sdl_block.proofs.Stepping.{StepsBy}
use Rattle.sdl_block.proofs.Rounds.{RoundBy}
use Rattle.sdl_block.proofs.Ran.{ends_of, round_of}

none_taken : (put : Station → List Item) (before after : WorkerEnds) → MovesByEnds put [] before after → taken_by after ≡ taken_by before
none_taken put before after h = h.takes ∙ append-nil (taken_by before)

module _ (may : ℕ → Frame → Step → Type 0) (sys : System) (old : Working) (before : WorkerEnds) where
  abbrev here : Queues WorkerEnds
  here = around by_ends sys.routes old.core

  works_so : (new : Working) (after : WorkerEnds) → Going may sys here 1 old before new after → WorksApart may sys old before new after
  works_so new after g =
      record {
        put = g.put;
        taken = g.taken;
        events = g.events;
        one = g.few;
        takes = g.part.moves.takes;
        puts = g.part.moves.each;
        came = g.part.came;
        went = g.part.went;
        log = g.part.log;
        sound = g.part.sound;
        rest = g.part.rest;
        legal = g.part.legal;
        few = g.part.few;
      }

  steps_so : (result : Result Bool Refused) (new : Working) (after : WorkerEnds) → StepsBy may sys here old before result new after → StepsToApart may sys old before result new after × IsSameEnds before after
  unfolding works_so
  steps_so (Ok true) new after (g, some) = ((works_so new after g, some), g.part.moves.same)
  steps_so (Ok false) new after (same, still, rests) = (
    (
      same,
      record {
        kept = rests.kept;
        outgoing = rests.outgoing;
        taken = none_taken _ before after still;
        puts = λ s. still.each s ∙ append-nil (put_at before s);
        work = elim rests.work [ inl used ↦ inl used | inr none ↦ inr none.1 ];
      },
    ),
    still.same,
  )
  steps_so (Err r) new after g = (works_so new after g, g.part.moves.same)

  round_so : (answer : Stepped) (new : Working) (after : WorkerEnds) → RoundBy here old before answer new after → IsOneRoundApart old before answer new after
  round_so answer new after r =
      record {
        one_arrival = r.one_arrival;
        one_turn = r.one_turn;
        in_place = λ i is. none_taken _ before after (r.in_place i is).1;
        arrival = λ said.
            elim (r.arrival said) [
              | inl one ↦ inl one
              | inr (inl used) ↦ inr (inl used)
              | inr (inr none) ↦ inr (inr (none.kept, none_taken _ before after none.none.1))
            ];
        turn = r.turn;
      }

  -- what a step did, and that it is one round
  pub record Did (result : Result Bool Refused) (new : Working) (after : WorkerEnds) : Type 0 where
    pub steps : StepsToApart may sys old before result new after
    pub first : PutsFirst old new
    pub spent : IsSpent old.core → new.core ≡ old.core
    pub round : IsOneRoundApart old before (answer_of result) new after
    pub same : IsSameEnds before after

  pub did : (pick : ℕ) (result : Result Bool Refused) (new : Working) (after : WorkerEnds) → GoesThrough may sys here pick old before result new after → IsSound may sys old.core → Did result new after
  did pick result new after runs sound =
      let (steps, first, spent) = ends_of may sys here pick old before runs sound in
      let (does, same) = steps_so result new after steps in
      record { steps = does; first = first; spent = spent; round = round_so (answer_of result) new after (round_of may sys here pick old before runs); same = same }
