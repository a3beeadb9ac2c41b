-- The workers of a system cross threads.
use Rattle.std.proofs.Crossing
use denote.RattleType.{RattleType}
use denote.Param.Object.{Ghosts, table_of}
use denote.Param.Sent.{Sends}
use denote.Param.Send.{IsSend, sendable}
use denote.Param.SendFields.{declared_send, variants_send, as_row_send}
use Rattle.arrayvec.proofs.array_string.ArrayString.TheSendSync as array_string
use Rattle.arrayvec.proofs.array_vec.ArrayVec.TheSendSync as array_vec
use Rattle.arrayvec.proofs.cells.Cells.TheSendSync as cells
use Rattle.sdl_routes.proofs.route.Via.TheSendSync as via
use Rattle.sdl_signal.proofs.ids.ChannelId.TheSendSync as channel_id
use Rattle.sdl_signal.proofs.ids.GateId.TheSendSync as gate_id
use Rattle.sdl_signal.proofs.ids.SetId.TheSendSync as set_id
use Rattle.sdl_signal.proofs.ids.SignalId.TheSendSync as signal_id
use Rattle.sdl_signal.proofs.ids.StateId.TheSendSync as state_id
use Rattle.sdl_signal.proofs.values.Pid.TheSendSync as pid
use Rattle.sdl_signal.proofs.values.Sort.TheSendSync as sort
use Rattle.sdl_signal.proofs.values.Value.TheSendSync as value
use Rattle.sdl_transition_saves.proofs.save.Save.TheSendSync as save
use Rattle.sdl_transition_behaviour.proofs.behaviour.Kind.TheSendSync as kind
use Rattle.sdl_transition_behaviour.proofs.behaviour.Named.TheSendSync as named
use Rattle.sdl_transition_behaviour.proofs.offer.Offer.TheSendSync as offer
use Rattle.sdl_transition_behaviour.proofs.offer.OfferedOutput.TheSendSync as offered
use Rattle.sdl_transition_behaviour.proofs.offer.SignalSorts.TheSendSync as sorts
use Rattle.sdl_transition_behaviour.proofs.step.Step.TheSendSync as step
use Rattle.std.proofs.alloc.Global.TheSendSync as global
use Rattle.std.proofs.marker.PhantomData.TheSendSync as phantom
use Rattle.std.proofs.option.Option.TheSendSync as option
use Rattle.std.proofs.vec.Vec.TheSendSync as vec
use Rattle.sdl_transition_behaviour.specs.contracts.behaviour.Behaviour as Behaviour
use Rattle.sdl_transition_behaviour.specs.contracts.behaviour.Row as Row
use Rattle.sdl_transition_behaviour.specs.contracts.transition.Transition as Transition
use Rattle.sdl_signal.proofs.ids.BlockId.TheSendSync as block_id
use Rattle.sdl_transition.proofs.index.Index.TheSendSync as index
use Rattle.sdl_transition.specs.contracts.block_parts.BlockParts as Parts
use Rattle.sdl_instances.specs.contracts.table.Table as Table
use Rattle.sdl_instances.specs.contracts.block.BlockCore
use Rattle.sdl_block_hand.proofs.hand.Hand.TheSendSync as hand
use Rattle.sdl_block.specs.contracts.worker.BlockWorker
use Rattle.sdl_forward_ends.proofs.ends.Ends.TheSendSync as ends
use Rattle.sdl_run_threads.proofs.Instances.{table}
use Rattle.sdl_run_threads.proofs.workers.ForwarderThread.TheSendSync as forwarder
use Rattle.sdl_run_threads.specs.contracts.workers.BlockThread
use Rattle.sdl_run_threads.specs.contracts.workers.ForwarderThread
use Rattle.sdl_run_threads.specs.contracts.kinds.Kind as Kind
use Rattle.std.specs.contracts.dyn_box.DynBox
use Rattle.std.specs.contracts.alloc.Global
use Rattle.std.specs.contracts.impls.GlobalAllocator.TheImpl.{ghosts}

ruleset facts = (array_string.the_send, array_vec.the_send, cells.the_send, cells.the_field_send, via.the_send, via.the_field_send, channel_id.the_send, channel_id.the_field_send, gate_id.the_send, gate_id.the_field_send, set_id.the_send, set_id.the_field_send, signal_id.the_send, signal_id.the_field_send, state_id.the_send, state_id.the_field_send, pid.the_send, pid.the_field_send, sort.the_send, sort.the_field_send, value.the_send, value.the_field_send, kind.the_send, kind.the_field_send, named.the_send, named.the_field_send, offer.the_send, offer.the_field_send, offered.the_send, offered.the_field_send, sorts.the_send, sorts.the_field_send, global.the_send, global.the_field_send, phantom.the_send, phantom.the_field_send, option.the_send, option.the_field_send, vec.the_send, Crossing.crosses, sendable)

ruleset more = (block_id.the_send, block_id.the_field_send, index.the_send, index.the_field_send)

module _ (S V : RattleType) (g : Ghosts V.Denot) (h : _) (s : IsSend S) (v : IsSend V) (sends : Sends (table_of V.Denot g)) where
  pub transition : IsSend (Transition.the_row S V g h)
  transition =
      declared_send (Transition.the_type S V g h) (
        search facts depth 60 fits 20000,
        (
          search facts depth 60 fits 20000,
          (
            as_row_send (DynBox.the_field V Global.the_row g ghosts) (Crossing.dyn_box_send V g sends v),
            (
              search facts depth 60 fits 20000,
              (
                search facts depth 60 fits 20000,
                tt,
              ),
            ),
          ),
        ),
      )

  pub row : IsSend (Row.the_row S V g h)
  row =
      declared_send (Row.the_type S V g h) (
        search facts depth 60 fits 20000,
        (
          search facts depth 60 fits 20000,
          (
            transition,
            tt,
          ),
        ),
      )

  pub behaviour : IsSend (Behaviour.the_row S V g h)
  behaviour =
      declared_send (Behaviour.the_type S V g h) (
        search facts depth 60 fits 20000,
        (
          search facts depth 60 fits 20000,
          (
            search facts depth 60 fits 20000,
            (
              search facts depth 60 fits 20000,
              (
                transition,
                (
                  search (row, facts) depth 60 fits 20000,
                  (
                    search (save.the_send, save.the_field_send, facts) depth 60 fits 20000,
                    tt,
                  ),
                ),
              ),
            ),
          ),
        ),
      )

  pub parts : IsSend (Parts.the_row S V g h)
  parts =
      declared_send (Parts.the_type S V g h) (
        search (more, facts) depth 60 fits 20000,
        (
          search (behaviour, facts) depth 60 fits 20000,
          (
            search (more, facts) depth 60 fits 20000,
            tt,
          ),
        ),
      )

  module _ (K : RattleType) (keeps : _) (k : IsSend K) where
    pub core : IsSend (BlockCore.the_row S K V keeps g h)
    core = declared_send (BlockCore.the_type S K V keeps g h) (as_row_send (Table.the_field K keeps) (table K keeps k), (parts, (search (step.the_send, facts) depth 60 fits 20000, tt)))

    pub worker : IsSend (BlockWorker.the_row S K V keeps g h)
    worker = declared_send (BlockWorker.the_type S K V keeps g h) (core, (search (hand.the_send, facts) depth 60 fits 20000, tt))

    pub block_thread : IsSend (BlockThread.the_row S K V keeps g h)
    block_thread = declared_send (BlockThread.the_type S K V keeps g h) (worker, (search (ends.the_send, facts) depth 60 fits 20000, (search facts depth 60 fits 20000, tt)))

    pub at_work : IsSend (Kind.the_row (BlockThread.the_row S K V keeps g h) ForwarderThread.the_row)
    at_work = search (block_thread, forwarder.the_send, variants_send, facts) depth 60 fits 20000
