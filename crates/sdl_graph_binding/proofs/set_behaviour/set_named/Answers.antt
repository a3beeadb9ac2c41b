use Rattle.std.proofs.Common.{sym, ◌∙◌}
use Rattle.sdl_signal.proofs.Named.{named_from_position, nowhere_from_position}
use Rattle.sdl_graph_binding.proofs.set_behaviour.set_named.Goals as goal

pub returns-in_default-clause-absent : goal.returns-in_default-clause-absent
returns-in_default-clause-absent c =
    nowhere_from_position (λ t. t.name.bytes) c.args.sets.now c.args.text.now (sym c.place_of_set.ensures.place ∙ c.in_default.is)

pub returns-clause-found : goal.returns-clause-found
returns-clause-found c =
    named_from_position (λ t. t.name.bytes) c.args.sets.now c.args.text.now c.in-Some.place (sym c.place_of_set.ensures.place ∙ c.in-Some.is)
