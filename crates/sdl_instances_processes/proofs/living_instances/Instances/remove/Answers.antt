use Rattle.std.proofs.Common.{sym, ap, ◌∙◌, subst, remove}
use Rattle.sdl_instances_processes.specs.Places.{Listed, AreBySet}
use Rattle.sdl_instances_processes.specs.Ready.{AreReadyCounts}
use Rattle.sdl_instances_processes.proofs.SetPlaces.{by_set_left}
use Rattle.sdl_instances_processes.proofs.living_instances.Instances.remove.Goals as goal

pub invariant_of-self : goal.invariant_of-self
invariant_of-self c =
    let es = c.self.inside.map.entries in
    let place = c.args.place in
    let lists = c.self.inside.by_set.lists in
    let after = sym c.in-Some.ensures.entries in (
      subst (AreReadyCounts c.recount.new.self) (c.as_slice.ensures ∙ c.values.ensures.rest) c.recount.ensures.counts,
      subst (AreBySet c.leave.new.self.lists) after (subst (λ l. AreBySet l (remove es place)) (sym c.leave.ensures) (by_set_left lists es place c.self.invariant.1)),
    )

pub returns-clause-entries : goal.returns-clause-entries
returns-clause-entries c = c.in-Some.ensures.entries ∙ ap (λ (l : Listed). remove l.entries c.args.place) c.self.view_is
