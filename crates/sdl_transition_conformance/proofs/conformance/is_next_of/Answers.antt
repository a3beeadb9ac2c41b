use Rattle.sdl_transition_conformance.proofs.conformance.is_next_of.Goals as goal

pub returns-in-State : goal.returns-in-State
returns-in-State c = rw c.in-State.is (rw c.as_slice.ensures.value at c.offers_next.ensures)
