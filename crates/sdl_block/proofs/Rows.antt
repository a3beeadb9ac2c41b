-- Rounds tried on small steps of the block of Spawn.
use Rattle.std.proofs.Common.{◌≡◌, List, [], ◌∷◌, inl, inr, Some, suc, refl, ap, length, arith}
use Rattle.sdl_signal.specs.declared.values.Item.{Item}
use Rattle.sdl_routes.specs.declared.route.Station.{Station}
use Rattle.sdl_routes.specs.declared.route.Station.TheVariants as station
use Rattle.sdl_instances_log.specs.declared.event.Event.{Event}
use Rattle.sdl_instances_log.specs.declared.event.Event.TheVariants as event
use Rattle.sdl_instances.specs.Core.{Core}
use Rattle.sdl_instances.specs.Spawn.{spawn, block, boss, kid, item, starts, at_first}
use Rattle.sdl_block_hand.specs.declared.hand.Stepped.{Stepped}
use Rattle.sdl_block_hand.specs.declared.hand.Stepped.TheVariants as stepped
use Rattle.sdl_block_hand.specs.Work.{Working, with_core}
use Rattle.sdl_block.specs.Rounds.{new_events, IsOneRound}

-- the block where nobody has started, with this log
abbrev core : List Event → Core
core log = record { block = block; signals = spawn.signals; sets = spawn.sets; state = at_first; log = log; budget = 3 }

abbrev after : List Event → Working
after log = with_core (core log)

abbrev enters : Event
enters = event.Entered (item 4 (kid 1)) (kid 1)

abbrev inlet : List Item → List (Station × List Item)
inlet items = (station.Inlet block, items) ∷ []

-- the events of a step are those behind the log before it
one_more : new_events (core (starts boss ∷ [])) (core (starts boss ∷ enters ∷ [])) ≡ enters ∷ []
one_more = refl

-- no round has two turns, or two arrivals
two_turns : (before now : List (Station × List Item)) (answer : Stepped) → IsOneRound spawn.routes (after []) before answer (after (starts boss ∷ starts (kid 1) ∷ [])) now → ⊥
two_turns before now answer h = let n = h.one_turn in omega (arith, n)

two_arrivals : (before now : List (Station × List Item)) (answer : Stepped) → IsOneRound spawn.routes (after []) before answer (after (enters ∷ enters ∷ [])) now → ⊥
two_arrivals before now answer h = let n = h.one_arrival in omega (arith, n)

-- none leaves an item at the inlet that can arrive, or an instance without its turn that is ready
left_waiting : (i : Item) (now : List (Station × List Item)) → IsOneRound spawn.routes (after []) (inlet (i ∷ [])) stepped.Did (after (starts boss ∷ [])) now → ⊥
left_waiting i now h =
    elim (h.arrival refl) [
      | inl one ↦ let n : 0 ≡ 1 = one in omega (arith, n)
      | inr (inl used) ↦ let n : 0 ≡ 3 = used in omega (arith, n)
      | inr (inr none) ↦ let n : 1 ≡ 0 = ap length none.inlet in omega (arith, n)
    ]

left_ready : (before now : List (Station × List Item)) → IsOneRound spawn.routes (after []) before stepped.Did (after (enters ∷ [])) now → ⊥
left_ready before now h =
    elim (h.turn refl) [
      | inl one ↦ let n : 0 ≡ 1 = one in omega (arith, n)
      | inr (inl used) ↦ let n : 0 ≡ 3 = used in omega (arith, n)
      | inr (inr none) ↦ none boss (_, (0, refl), inl refl)
    ]

-- and none takes from the inlet while an item is kept
taken_beside : (i k : Item) → IsOneRound spawn.routes (record (after []) { kept = Some k }) (inlet (i ∷ [])) stepped.Memory (after (enters ∷ [])) (inlet []) → ⊥
taken_beside i k h = let (more, same) = h.in_place k refl in let n : 0 ≡ suc (length more) = ap length same in omega (arith, n)
