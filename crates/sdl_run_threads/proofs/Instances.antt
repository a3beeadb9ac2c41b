-- The instances of a block, with their ports, cross threads. The prover does so of most types by itself, but of none that has a
-- snapshot. A port has some, of the lists that only clauses see.
use Rattle.std.proofs.Crossing
use denote.RattleType.{RattleType}
use denote.Param.Send.{IsSend, sendable, view_send}
use denote.Param.SendFields.{declared_send, as_row_send}
use Rattle.arrayvec.proofs.array_vec.ArrayVec.TheSendSync as array_vec
use Rattle.arrayvec.proofs.cells.Cells.TheSendSync as cells
use Rattle.std.proofs.alloc.Global.TheSendSync as global
use Rattle.std.proofs.option.Option.TheSendSync as option
use Rattle.std.proofs.vec.Vec.TheSendSync as vec
use Rattle.sdl_signal.proofs.ids.StateId.TheSendSync as state_id
use Rattle.sdl_signal.proofs.values.Pid.TheSendSync as pid
use Rattle.sdl_signal.proofs.values.Item.TheSendSync as item
use Rattle.sdl_signal.proofs.values.Value.TheSendSync as value
use Rattle.sdl_transition_saves.proofs.signal_set.SignalSet.TheSendSync as signal_set
use Rattle.sdl_transition_saves.specs.contracts.save_list.SaveList as SaveList
use Rattle.sdl_transition_saves.specs.contracts.state_saves.StateSaves as StateSaves
use Rattle.sdl_instances_processes.proofs.numbered.Numbered.TheSendSync as numbered
use Rattle.sdl_instances_processes.proofs.by_set.PlacesBySet.TheSendSync as places
use Rattle.sdl_instances_processes.specs.contracts.numbered.ArrivalList as ArrivalList
use Rattle.sdl_instances_processes.specs.contracts.by_signal.ItemsBySignal as ItemsBySignal
use Rattle.sdl_instances_processes.specs.contracts.port.Port as Port
use Rattle.sdl_instances_processes.specs.contracts.instance.Instance as Instance
use Rattle.sdl_instances_processes.specs.contracts.living_instances.Instances as Instances
use Rattle.sdl_signal.proofs.ids.BlockId.TheSendSync as block_id
use Rattle.sdl_signal.proofs.values.Sort.TheSendSync as sort
use Rattle.sdl_instances_log.proofs.counted.Counted.TheSendSync as counted
use Rattle.sdl_instances_log.proofs.event.Done.TheSendSync as done
use Rattle.sdl_instances.proofs.process_set.ProcessSet.TheSendSync as process_set
use Rattle.sdl_instances_log.specs.contracts.counted.Counted as Counted
use Rattle.sdl_instances.specs.contracts.living.Living as Living
use Rattle.sdl_instances.specs.contracts.table.Table as Table
use Rattle.sdl_instances.specs.contracts.table.Table.TheInside as Inside

ruleset facts = (array_vec.the_send, cells.the_send, cells.the_field_send, global.the_send, global.the_field_send, option.the_send, option.the_field_send, vec.the_send, Crossing.crosses, sendable)

ruleset values = (state_id.the_send, state_id.the_field_send, pid.the_send, pid.the_field_send, item.the_send, item.the_field_send, value.the_send, value.the_field_send)

save_list : IsSend SaveList.the_row
save_list = search facts depth 60 fits 20000

state_saves : IsSend StateSaves.the_row
state_saves = search (save_list, signal_set.the_send, facts) depth 60 fits 20000

arrival_list : IsSend ArrivalList.the_row
arrival_list = search facts depth 60 fits 20000

by_signal : IsSend ItemsBySignal.the_row
by_signal = search (arrival_list, numbered.the_send, facts) depth 60 fits 20000

port : IsSend Port.the_row
port = search (by_signal, signal_set.the_field_send, values, facts) depth 60 fits 20000

instance : IsSend Instance.the_row
instance = search (port, state_saves, values, facts) depth 60 fits 20000

instances : IsSend Instances.the_row
instances = search (instance, places.the_send, values, facts) depth 60 fits 20000

living : IsSend Living.the_row
living = declared_send Living.the_type (search facts depth 60 fits 20000, (search (instances, facts) depth 60 fits 20000, (search facts depth 60 fits 20000, tt)))

ruleset parts = (block_id.the_send, block_id.the_field_send, sort.the_send, sort.the_field_send, counted.the_send, done.the_send, process_set.the_send, process_set.the_field_send)

module _ (K : RattleType) (keeps : _) (k : IsSend K) where
  inside : IsSend (Inside.the_row K keeps)
  inside =
      declared_send (Inside.the_type K keeps) (
        search (parts, facts) depth 60 fits 20000,
        (
          search (parts, facts) depth 60 fits 20000,
          (
            search (parts, facts) depth 60 fits 20000,
            (
              search (living, facts) depth 60 fits 20000,
              (
                as_row_send (Counted.the_field K keeps) (search (k, counted.the_send, facts) depth 60 fits 20000),
                (
                  search (parts, facts) depth 60 fits 20000,
                  (search facts, (search facts, (search facts, (search facts, tt)))),
                ),
              ),
            ),
          ),
        ),
      )

  pub table : IsSend (Table.the_row K keeps)
  table = view_send _ _ _ _ _ inside
