-- A step over a board.
use Rattle.std.proofs.Common.{◌≡◌, ℕ, inl, inr, Bool, true, false, Result, Ok, Err, refl, sym, ◌∙◌}
use Rattle.sdl_signal.specs.declared.ids.BlockId.{BlockId}
use Rattle.sdl_routes.specs.declared.route.Station.TheVariants as station
use Rattle.sdl_transition_behaviour.specs.declared.step.Frame.{Frame}
use Rattle.sdl_transition_behaviour.specs.declared.step.Step.{Step}
use Rattle.sdl_instances.specs.Machine.{System}
use Rattle.sdl_instances.specs.Core.{IsSound}
use Rattle.sdl_forward.specs.Boards.{IsBoardOf}
use Rattle.sdl_forward.specs.OnBoard.{Entries, on_board}
use Rattle.sdl_forward.proofs.Onward.{first_passed}
use Rattle.sdl_block_hand.specs.declared.hand.Stepped.{Stepped}
use Rattle.sdl_block_hand.specs.declared.hand.Refused.{Refused}
use Rattle.sdl_block_hand.specs.Work.{Working, Works, beginning_at}
use Rattle.sdl_block_hand.specs.Puts.{answer_of}
use Rattle.sdl_block.specs.Phases.{IsSpent, StepsTo, PutsFirst}
use Rattle.sdl_block.specs.Rounds.{IsOneRound}
use Rattle.sdl_block.specs.Around.{Queues, HasWays, GoesThrough, around}
use Rattle.sdl_block.proofs.Going.{Going}
use Rattle.sdl_block.proofs.Stepping.{StepsBy, going_same}
use Rattle.sdl_block.proofs.Rounds.{RoundBy}
use Rattle.sdl_block.proofs.Ran.{ends_of, round_of}

-- a board has each station where a route begins
pub board_ways : (sys : System) (block : BlockId) (board : Entries) → IsBoardOf sys.routes board → HasWays on_board sys block board
board_ways sys block board h = λ r row s there own first. h.every s (first_passed sys.routes r row s there first)

module _ (may : ℕ → Frame → Step → Type 0) (sys : System) (old : Working) (before : Entries) where
  abbrev here : Queues Entries
  here = around on_board sys.routes old.core

  works_so : (new : Working) (after : Entries) → Going may sys here 1 old before new after → Works may sys old before new after
  works_so new after g =
      record {
        put = g.put;
        taken = g.taken;
        events = g.events;
        one = g.few;
        inlet = g.part.moves.here;
        others = g.part.moves.others;
        stations = g.part.moves.stations;
        came = g.part.came;
        went = g.part.went;
        log = g.part.log;
        sound = g.part.sound;
        rest = g.part.rest;
        legal = g.part.legal;
        few = g.part.few;
      }

  -- a step that does nothing
  pub works_none : IsSound may sys old.core → Works may sys old before old before
  works_none sound = works_so old before (going_same may sys here 1 old before old before refl refl sound)

  steps_so : (result : Result Bool Refused) (new : Working) (after : Entries) → StepsBy may sys here old before result new after → StepsTo may sys old before result new after
  unfolding works_so
  steps_so (Ok true) new after (g, some) = (works_so new after g, some)
  steps_so (Ok false) new after (same, still, rests) = (same, still, record { kept = rests.kept; outgoing = rests.outgoing; work = rests.work })
  steps_so (Err r) new after g = works_so new after g

  round_so : (answer : Stepped) (new : Working) (after : Entries) → RoundBy here old before answer new after → IsOneRound sys.routes old before answer new after
  round_so answer new after r =
      record {
        one_arrival = r.one_arrival;
        one_turn = r.one_turn;
        in_place = λ i is. let (put, moves) = r.in_place i is in (beginning_at sys.routes (station.Inlet old.core.block) put, sym moves.here);
        arrival = λ said.
            elim (r.arrival said) [
              | inl one ↦ inl one
              | inr (inl used) ↦ inr (inl used)
              | inr (inr none) ↦ inr (inr (record { kept = none.kept; inlet = none.put.here ∙ none.empty }))
            ];
        turn = r.turn;
      }

  -- what a step did, and that it is one round
  pub record Did (result : Result Bool Refused) (new : Working) (after : Entries) : Type 0 where
    pub steps : StepsTo may sys old before result new after
    pub first : PutsFirst old new
    pub spent : IsSpent old.core → new.core ≡ old.core
    pub round : IsOneRound sys.routes old before (answer_of result) new after

  pub did : (pick : ℕ) (result : Result Bool Refused) (new : Working) (after : Entries) → GoesThrough may sys here pick old before result new after → IsSound may sys old.core → Did result new after
  did pick result new after runs sound =
      let (steps, first, spent) = ends_of may sys here pick old before runs sound in
      record { steps = steps_so result new after steps; first = first; spent = spent; round = round_so (answer_of result) new after (round_of may sys here pick old before runs) }
