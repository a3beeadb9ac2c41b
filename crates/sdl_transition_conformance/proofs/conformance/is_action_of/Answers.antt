use Rattle.sdl_transition_conformance.proofs.conformance.is_action_of.Goals as goal

pub returns-in-Output : goal.returns-in-Output
returns-in-Output c = rw c.in-Output.is (rw c.as_slice.ensures.value at c.is_output_of.ensures)

pub returns-in-Create : goal.returns-in-Create
returns-in-Create c = rw c.in-Create.is (rw c.as_slice-in-Create.ensures.value at c.offers_create.ensures)
