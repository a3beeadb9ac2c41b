use Rattle.std.proofs.Common.{◌≡◌, Some, slice_get, ap, ◌∙◌}
use Rattle.indexmap.specs.Layout.{length-set_value_at}
use Rattle.sdl_instances_processes.specs.Record.{Record, is_ready}
use Rattle.sdl_instances_processes.specs.Places.{Listed}
use Rattle.sdl_instances_processes.proofs.Entries.{wrote}
use Rattle.sdl_instances_processes.proofs.ReadyCounts.{value_alike}
use Rattle.sdl_instances_processes.proofs.SetPlaces.{by_set_value}
use Rattle.sdl_instances_processes.proofs.living_instances.Instances.set_offspring.Goals as goal

pub invariant_of-self : goal.invariant_of-self
invariant_of-self c =
    let es = c.self.inside.map.entries in
    let k = c.pair_mut-instance.result.0.now in
    let v = c.pair_mut-instance.result.1.now in
    let place = c.args.place in
    let found : slice_get es place ≡ Some (k, v) = c.pair_mut-instance.ensures.value in
    let w = c.set_offspring.new.self in (
      value_alike c.self.inside.ready es place k v w found c.self.invariant.0 (ap is_ready c.set_offspring.ensures),
      by_set_value c.self.inside.by_set.lists es place k v w found c.self.invariant.1,
    )

pub returns-clause-entries : goal.returns-clause-entries
returns-clause-entries c p r at =
    let es = c.self.inside.map.entries in
    let k = c.pair_mut-instance.result.0.now in
    let v = c.pair_mut-instance.result.1.now in
    let place = c.args.place in
    let found : slice_get es place ≡ Some (k, v) = c.pair_mut-instance.ensures.value in
    let w = c.set_offspring.new.self in
    let all = ap (λ (l : Listed). l.entries) c.self.view_is in
    wrote es c.args.self.now.entries place k p v r w (record r { offspring = c.args.offspring }) all found at (λ same. c.set_offspring.ensures ∙ ap (λ (x : Record). record x { offspring = c.args.offspring }) same)

pub returns-clause-creatable : goal.returns-clause-creatable
returns-clause-creatable c =
    let es = c.self.inside.map.entries in
    (rw (length-set_value_at es c.args.place c.set_offspring.new.self) (ap (λ (l : Listed). l.creatable) c.self.view_is), ap (λ (l : Listed). l.sets) c.self.view_is)
