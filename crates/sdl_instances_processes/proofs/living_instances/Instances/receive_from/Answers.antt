use Rattle.std.proofs.Common.{◌≡◌, ◌++◌, ◌∷◌, [], List, Some, slice_get, ap, sym, subst, ◌∙◌, arith}
use Rattle.std.proofs.lemmas.Option.{IfSome_then}
use Rattle.indexmap.specs.Layout.{set_value_at}
use Rattle.sdl_signal.specs.declared.values.Pid.{Pid}
use Rattle.sdl_instances_processes.specs.Record.{Record}
use Rattle.std.specs.Map.{values_of}
use Rattle.sdl_instances_processes.specs.Places.{Listed, AreBySet}
use Rattle.sdl_instances_processes.specs.Ready.{AreReadyCounts}
use Rattle.sdl_instances_processes.proofs.Entries.{set_value_at-same, wrote}
use Rattle.sdl_instances_processes.proofs.Readiness.{record_of}
use Rattle.sdl_instances_processes.proofs.ReadyCounts.{value_counted}
use Rattle.sdl_instances_processes.proofs.SetPlaces.{by_set_value}
use Rattle.sdl_instances_processes.proofs.living_instances.Instances.receive_from.Goals as goal

pub invariant_of-self-in-Err : goal.invariant_of-self-in-Err
invariant_of-self-in-Err c =
    let es = c.self.inside.map.entries in
    let k = c.pair_mut-instance.result.0.now in
    let v = c.pair_mut-instance.result.1.now in
    let place = c.args.place in
    let found : slice_get es place ≡ Some (k, v) = c.pair_mut-instance.ensures.value in
    let same = sym (ap (λ (x : Record). set_value_at es place x) c.in-Err.ensures.err.0 ∙ set_value_at-same es place (k, v) found) in (
      subst (λ (l : List (Pid × Record)). AreReadyCounts c.self.inside.ready (values_of l)) same c.self.invariant.0,
      subst (AreBySet c.self.inside.by_set.lists) same c.self.invariant.1,
    )

pub returns-in-Err-clause-err : goal.returns-in-Err-clause-err
returns-in-Err-clause-err c =
    let es = c.self.inside.map.entries in
    let k = c.pair_mut-instance.result.0.now in
    let v = c.pair_mut-instance.result.1.now in
    let place = c.args.place in
    let found : slice_get es place ≡ Some (k, v) = c.pair_mut-instance.ensures.value in
    (ap (λ (x : Record). set_value_at es place x) c.in-Err.ensures.err.0 ∙ set_value_at-same es place (k, v) found ∙ ap (λ (l : Listed). l.entries) c.self.view_is, c.in-Err.ensures.err.1)

pub follow-requires : goal.follow-requires
follow-requires c =
    let es = c.self.inside.map.entries in
    let k = c.pair_mut-instance.result.0.now in
    let v = c.pair_mut-instance.result.1.now in
    let place = c.args.place in
    let found : slice_get es place ≡ Some (k, v) = c.pair_mut-instance.ensures.value in
    let w = c.receive_from.new.self in
    (values_of es, v, w, c.self.invariant.0, record_of es place k v found, sym c.is_ready-was_ready.ensures, sym c.is_ready-is_ready.ensures)

pub invariant_of-self : goal.invariant_of-self
invariant_of-self c =
    let es = c.self.inside.map.entries in
    let k = c.pair_mut-instance.result.0.now in
    let v = c.pair_mut-instance.result.1.now in
    let place = c.args.place in
    let found : slice_get es place ≡ Some (k, v) = c.pair_mut-instance.ensures.value in
    let w = c.receive_from.new.self in (
      value_counted c.follow.new.self es place k v w found (c.follow.ensures.counts (values_of es) v w c.self.invariant.0 (record_of es place k v found) (sym c.is_ready-was_ready.ensures) (sym c.is_ready-is_ready.ensures)),
      by_set_value c.self.inside.by_set.lists es place k v w found c.self.invariant.1,
    )

pub returns-in-Ok-clause-ok : goal.returns-in-Ok-clause-ok
returns-in-Ok-clause-ok c =
    let es = c.self.inside.map.entries in
    let k = c.pair_mut-instance.result.0.now in
    let v = c.pair_mut-instance.result.1.now in
    let place = c.args.place in
    let found : slice_get es place ≡ Some (k, v) = c.pair_mut-instance.ensures.value in
    let all = ap (λ (l : Listed). l.entries) c.self.view_is in
    let at : slice_get c.args.self.now.entries place ≡ Some (k, v) = ap (λ (l : List (Pid × Record)). slice_get l place) (sym all) ∙ found in
    IfSome_then c.args.slot.now c.in-Ok.ensures.ok.1 (λ item is. (v, at, wrote es c.args.self.now.entries place k k v v c.receive_from.new.self (record v { port = v.port ++ item ∷ [] }) all found at (λ same. is)))
