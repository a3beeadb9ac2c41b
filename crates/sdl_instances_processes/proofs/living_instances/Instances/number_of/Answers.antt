use Rattle.std.proofs.Common.{length, ap, ◌∙◌}
use Rattle.sdl_instances_processes.specs.Places.{Listed, set_places}
use Rattle.sdl_instances_processes.proofs.SetPlaces.{count_set}
use Rattle.sdl_instances_processes.proofs.living_instances.Instances.number_of.Goals as goal

pub returns : goal.returns
returns c =
    let are = c.of_set.ensures ∙ c.self.invariant.1 c.args.set ∙ ap (λ (l : Listed). set_places c.args.set l.entries) c.self.view_is in
    ap length are ∙ count_set c.args.set c.args.self.now.entries
