use Rattle.std.proofs.Common.{◌≡◌, List, Some, slice_get, ap, sym, ◌∙◌}
use Rattle.std.specs.Map.{values_of}
use Rattle.indexmap.specs.Layout.{set_value_at}
use Rattle.sdl_signal.specs.declared.values.Pid.{Pid}
use Rattle.sdl_instances_processes.specs.Record.{Record}
use Rattle.sdl_instances_processes.specs.Places.{Listed}
use Rattle.sdl_instances_processes.proofs.Entries.{wrote}
use Rattle.sdl_instances_processes.proofs.Readiness.{record_of}
use Rattle.sdl_instances_processes.proofs.ReadyCounts.{value_counted}
use Rattle.sdl_instances_processes.proofs.SetPlaces.{by_set_value}
use Rattle.sdl_instances_processes.proofs.living_instances.Instances.proceed.Goals as goal

pub follow-requires : goal.follow-requires
follow-requires c =
    let es = c.self.inside.map.entries in
    let k = c.pair_mut-instance.result.0.now in
    let v = c.pair_mut-instance.result.1.now in
    let place = c.args.place in
    let found : slice_get es place ≡ Some (k, v) = c.pair_mut-instance.ensures.value in
    let w = c.proceed.new.self in
    (values_of es, v, w, c.self.invariant.0, record_of es place k v found, sym c.is_ready-was_ready.ensures, sym c.is_ready-is_ready.ensures)

pub invariant_of-self : goal.invariant_of-self
invariant_of-self c =
    let es = c.self.inside.map.entries in
    let k = c.pair_mut-instance.result.0.now in
    let v = c.pair_mut-instance.result.1.now in
    let place = c.args.place in
    let found : slice_get es place ≡ Some (k, v) = c.pair_mut-instance.ensures.value in
    let w = c.proceed.new.self in (
      value_counted c.follow.new.self es place k v w found (c.follow.ensures.counts (values_of es) v w c.self.invariant.0 (record_of es place k v found) (sym c.is_ready-was_ready.ensures) (sym c.is_ready-is_ready.ensures)),
      by_set_value c.self.inside.by_set.lists es place k v w found c.self.invariant.1,
    )

pub returns : goal.returns
returns c p r at =
    let es = c.self.inside.map.entries in
    let k = c.pair_mut-instance.result.0.now in
    let v = c.pair_mut-instance.result.1.now in
    let place = c.args.place in
    let found : slice_get es place ≡ Some (k, v) = c.pair_mut-instance.ensures.value in
    let w = c.proceed.new.self in
    let all = ap (λ (l : Listed). l.entries) c.self.view_is in
    wrote es c.args.self.now.entries place k p v r w (record r { state = Some c.args.state; vars = c.args.vars.now.items }) all found at (λ same. c.proceed.ensures ∙ ap (λ (x : Record). record x { state = Some c.args.state; vars = c.args.vars.now.items }) same)
