use Rattle.std.proofs.Common.{◌+◌, ◌++◌, ◌∷◌, List, [], length, map, None, ◌≡◌, ap, sym, subst, ◌∙◌, arith}
use Rattle.std.proofs.lemmas.List.{nil_from_length}
use Rattle.sdl_instances_log.specs.declared.counts.Counts.{Counts}
use Rattle.sdl_run_driver.specs.Closings.{AreLogsCounted}
use Rattle.sdl_block.specs.Workers.{worker_of, behaviours_of}
use Rattle.sdl_run_outcome.specs.Outcome.{WorkerHand}
use Rattle.sdl_run_order.specs.Driver.{block_hand, env_hand, forwarder_hand}
use Rattle.sdl_run_outcome.specs.Lists.{held_in}
use Rattle.sdl_run_driver.proofs.Rooms.{hand, hand_is, map_push}
use Rattle.sdl_run_driver.proofs.Closes.{same_outcome, filled, joined, system_kept, less_room}
use Rattle.sdl_run_driver.proofs.parked.Parked.leave.Goals as goal

pub take_hand-requires : goal.take_hand-requires
take_hand-requires g c =
    let n = length c.args.self.forwarders.items in
    record { room = less_room c.take_blocks.new.room 0 (n + 1) 1 (omega arith) (c.take_blocks.ensures.room (n + 1) c.requires.room) }

pub take_forwarders-requires : goal.take_forwarders-requires
take_forwarders-requires g c =
    let n = length c.args.self.forwarders.items in
    record { room = c.take_hand.ensures.room 0 n (c.take_blocks.ensures.room (n + 1) c.requires.room) }

pub of_blocks-requires : goal.of_blocks-requires
of_blocks-requires g c =
    let d = c.args.self in
    system_kept g.S.Agents.may d.system.checked d.system.routes (map behaviours_of d.system.blocks.items) c.take_forwarders.new.room.parts.items
    (ap (λ v. v.items) (c.take_forwarders.ensures.parts ∙ c.take_hand.ensures.parts)
    ∙ filled c.args.room.parts.items c.take_blocks.new.room.parts.items (map behaviours_of d.system.blocks.items) c.requires.empty.0 c.take_blocks.ensures.parts)
    c.requires.system

pub returns-clause-outcome : goal.returns-clause-outcome
unfolding hand
returns-clause-outcome g c =
    let d = c.args.self in
    let room = c.take_forwarders.new.room in
    let logs = map g.K.LogStore.events room.logs.items in
    let hands = map held_in room.hands.items in
    let logs_are : logs ≡ map (λ w. (worker_of w).core.log) d.system.blocks.items =
    ap (λ v. map g.K.LogStore.events v.items) (c.take_forwarders.ensures.logs ∙ c.take_hand.ensures.logs)
    ∙ filled (map g.K.LogStore.events c.args.room.logs.items) (map g.K.LogStore.events c.take_blocks.new.room.logs.items) (map (λ w. (worker_of w).core.log) d.system.blocks.items) (ap (map g.K.LogStore.events) c.requires.empty.1) c.take_blocks.ensures.logs in
    let blocks_are : map held_in c.take_blocks.new.room.hands.items ≡ map (λ w. block_hand (worker_of w)) d.system.blocks.items =
    filled (map held_in c.args.room.hands.items) (map held_in c.take_blocks.new.room.hands.items) (map (λ w. block_hand (worker_of w)) d.system.blocks.items) (ap (map held_in) c.requires.empty.2) c.take_blocks.ensures.hands in
    let parts = c.into_parts-env.result in
    let env : WorkerHand = held_in parts.hand in
    let env_is : env ≡ env_hand d.environment = hand_is parts.hand.kept None parts.hand.outgoing.items d.environment.outgoing c.into_parts-env.ensures.kept c.into_parts-env.ensures.outgoing in
    let with_env : map held_in c.take_hand.new.self.hands.items ≡ map (λ w. block_hand (worker_of w)) d.system.blocks.items ++ env ∷ [] =
    ap (map held_in) c.take_hand.ensures.hands ∙ (map_push held_in c.take_blocks.new.room.hands.items _ ∙ ap (λ (hs : List WorkerHand). hs ++ env ∷ []) blocks_are) in
    let hands_are : hands ≡ (map (λ w. block_hand (worker_of w)) d.system.blocks.items ++ env_hand d.environment ∷ []) ++ map forwarder_hand d.forwarders.items =
    joined (map (λ w. block_hand (worker_of w)) d.system.blocks.items) (map held_in c.take_hand.new.self.hands.items) hands (map forwarder_hand d.forwarders.items) env (env_hand d.environment) with_env env_is c.take_forwarders.ensures.hands in
    same_outcome d.system.blocks.items d.environment d.forwarders.items d.rests.items logs parts.put.items parts.received.items hands logs_are c.into_parts-env.ensures.put c.into_parts-env.ensures.received hands_are

pub returns-clause-counted : goal.returns-clause-counted
returns-clause-counted g c =
    let ev = g.K.LogStore.events in
    let room = c.args.room in
    let no_logs : room.logs.items ≡ [] = c.requires.empty.1 in
    let no_counts : room.counts.items ≡ [] = nil_from_length room.counts.items (c.requires.room.counted ∙ ap length no_logs) in
    let first : AreLogsCounted ev room.logs.items room.counts.items =
    subst (λ ls. AreLogsCounted ev ls room.counts.items) (sym no_logs) (subst (λ (cs : List Counts). AreLogsCounted ev [] cs) (sym no_counts) tt) in
    let blocks = c.take_blocks.ensures.counted first in
    let logs_same = ap (λ v. v.items) (c.take_forwarders.ensures.logs ∙ c.take_hand.ensures.logs) in
    let counts_same = ap (λ v. v.items) (c.take_forwarders.ensures.counts ∙ c.take_hand.ensures.counts) in
    subst (λ ls. AreLogsCounted ev ls c.take_forwarders.new.room.counts.items) (sym logs_same)
    (subst (λ (cs : List Counts). AreLogsCounted ev c.take_blocks.new.room.logs.items cs) (sym counts_same) blocks)
