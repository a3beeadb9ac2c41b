use Rattle.std.proofs.Common.{◌≡◌, Bool, List, ap, subst}
use Rattle.std.proofs.Math.Path.{fun_ext}
use Rattle.sdl_signal.specs.declared.ids.SignalId.{SignalId}
use Rattle.sdl_signal.specs.declared.values.Item.{Item}
use Rattle.sdl_transition_saves.specs.Saves.{holds}
use Rattle.sdl_instances_processes.specs.Ports.{TakesOut}
use Rattle.sdl_instances_processes.specs.Record.{Record, saved_in, saved_now, consumed}
use Rattle.sdl_instances_processes.proofs.instance.Instance.consume.Goals as goal

pub returns : goal.returns
returns c =
    let i = c.self.inside in
    let item = c.take_next-item.result in
    let rest = c.take_next-item.new.self.items in
    let same : holds i.port.current ≡ saved_in i.saves i.state = fun_ext c.self.invariant.0 in
    let taken = subst (λ (f : SignalId → Bool). TakesOut f i.port.items item rest) same c.take_next-item.ensures.taken in (
      rest,
      subst (λ (x : Record). TakesOut (saved_now x) x.port item rest) c.self.view_is taken,
      ap (λ (x : Record). consumed x item rest) c.self.view_is,
    )
