-- What the lists of a program show of an outcome.
use Rattle.std.specs.Prelude.{List, Vec}
use Rattle.sdl_block_hand.specs.declared.hand.Hand.{Hand}
use Rattle.sdl_run_outcome.specs.Outcome.{WorkerHand}

abbrev pub items_in : {X Z : Type 0} → Vec X Z → List X
items_in v = v.items

abbrev pub held_in : Hand → WorkerHand
held_in h = record { kept = h.kept; outgoing = h.outgoing.items }
