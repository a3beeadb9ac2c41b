use Rattle.std.proofs.Common.{◌≡◌, List, Some, slice_get, ap, sym, ◌∙◌, subst}
use Rattle.std.specs.Map.{values_of}
use Rattle.indexmap.specs.Layout.{set_value_at, length-set_value_at}
use Rattle.sdl_signal.specs.declared.values.Pid.{Pid}
use Rattle.sdl_instances_processes.specs.Record.{Record, saved_now, consumed}
use Rattle.sdl_instances_processes.specs.Places.{Listed}
use Rattle.sdl_instances_processes.specs.Ports.{TakesOut}
use Rattle.sdl_instances_processes.proofs.Entries.{value_same, wrote}
use Rattle.sdl_instances_processes.proofs.Readiness.{front_ready, record_of}
use Rattle.sdl_instances_processes.proofs.ReadyCounts.{value_counted}
use Rattle.sdl_instances_processes.proofs.SetPlaces.{by_set_value}
use Rattle.sdl_instances_processes.proofs.living_instances.Instances.consume.Goals as goal

pub consume-item-requires : goal.consume-item-requires
consume-item-requires c =
    let es = c.self.inside.map.entries in
    let k = c.pair_mut-instance.result.0.now in
    let v = c.pair_mut-instance.result.1.now in
    let place = c.args.place in
    let found : slice_get es place ≡ Some (k, v) = c.pair_mut-instance.ensures.value in
    let all = ap (λ (l : Listed). l.entries) c.self.view_is in
    c.requires.front k v (ap (λ (l : List (Pid × Record)). slice_get l place) (sym all) ∙ found)

pub follow-requires : goal.follow-requires
follow-requires c =
    let es = c.self.inside.map.entries in
    let k = c.pair_mut-instance.result.0.now in
    let v = c.pair_mut-instance.result.1.now in
    let place = c.args.place in
    let found : slice_get es place ≡ Some (k, v) = c.pair_mut-instance.ensures.value in
    let w = c.consume-item.new.self in
    (values_of es, v, w, c.self.invariant.0, record_of es place k v found, front_ready v (c.requires.front k v (ap (λ (l : List (Pid × Record)). slice_get l place) (sym (ap (λ (l : Listed). l.entries) c.self.view_is)) ∙ found)), sym c.is_ready-is_ready.ensures)

pub invariant_of-self : goal.invariant_of-self
invariant_of-self c =
    let es = c.self.inside.map.entries in
    let k = c.pair_mut-instance.result.0.now in
    let v = c.pair_mut-instance.result.1.now in
    let place = c.args.place in
    let found : slice_get es place ≡ Some (k, v) = c.pair_mut-instance.ensures.value in
    let w = c.consume-item.new.self in (
      value_counted c.follow.new.self es place k v w found (c.follow.ensures.counts (values_of es) v w c.self.invariant.0 (record_of es place k v found) (front_ready v (c.requires.front k v (ap (λ (l : List (Pid × Record)). slice_get l place) (sym (ap (λ (l : Listed). l.entries) c.self.view_is)) ∙ found))) (sym c.is_ready-is_ready.ensures)),
      by_set_value c.self.inside.by_set.lists es place k v w found c.self.invariant.1,
    )

pub returns-clause-consumed : goal.returns-clause-consumed
returns-clause-consumed c p r at =
    let es = c.self.inside.map.entries in
    let k = c.pair_mut-instance.result.0.now in
    let v = c.pair_mut-instance.result.1.now in
    let place = c.args.place in
    let found : slice_get es place ≡ Some (k, v) = c.pair_mut-instance.ensures.value in
    let all = ap (λ (l : Listed). l.entries) c.self.view_is in
    let w = c.consume-item.new.self in
    let item = c.consume-item.result in
    let rest = c.consume-item.ensures.0 in
    let there : slice_get es place ≡ Some (p, r) = ap (λ (l : List (Pid × Record)). slice_get l place) all ∙ at in
    let same = value_same es place k p v r found there in (
      rest,
      subst (λ (x : Record). TakesOut (saved_now x) x.port item rest) same c.consume-item.ensures.1,
      wrote es c.args.self.now.entries place k p v r w (consumed r item rest) all found at (λ is. c.consume-item.ensures.2 ∙ ap (λ (x : Record). consumed x item rest) is),
    )

pub returns-clause-creatable : goal.returns-clause-creatable
returns-clause-creatable c =
    let es = c.self.inside.map.entries in
    (rw (c.follow.ensures.room, length-set_value_at es c.args.place c.consume-item.new.self) (ap (λ (l : Listed). l.creatable) c.self.view_is), ap (λ (l : Listed). l.sets) c.self.view_is)
