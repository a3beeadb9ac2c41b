use Rattle.std.proofs.Common.{◌≡◌, [], ◌∷◌, ◌++◌, map, length, refl, ap, ◌∙◌, ◌+◌}
use Rattle.sdl_run_outcome.specs.Lists.{held_in}
use Rattle.sdl_run_order.specs.Driver.{forwarder_hand}
use Rattle.sdl_run_outcome.specs.Outcome.{WorkerHand}
use Rattle.sdl_run_driver.proofs.Rooms.{come_over, fewer_by_one, map_push, room_as, forwarder_left}
use Rattle.sdl_run_driver.proofs.closing.take_forwarders.Goals as goal

pub loop-rest-preserved : goal.loop-rest-preserved
loop-rest-preserved g c =
    let inv = c.loop-rest.invariant in
    let f = c.take_first-forwarder.result in
    let rest = c.loop-rest.rest.items in
    let fewer = c.take_first-forwarder.new.list.items in
    let hand : held_in (record { kept = c.into_held.result; outgoing = c.new.result }) ≡ forwarder_hand f = forwarder_left f c.into_held.result c.new.result.items c.into_held.ensures c.new.ensures in
    record {
      room = c.take_hand.ensures.room 0 (length fewer) (room_as c.loop-rest.room 0 (length rest) 0 (length fewer + 1) refl (fewer_by_one f rest fewer c.take_first-forwarder.ensures) inv.room);
      parts = c.take_hand.ensures.parts ∙ inv.parts;
      logs = c.take_hand.ensures.logs ∙ inv.logs;
      counts = c.take_hand.ensures.counts ∙ inv.counts;
      hands = come_over forwarder_hand (map held_in c.loop-rest.room.hands.items) (map held_in c.take_hand.new.self.hands.items) _ f rest fewer c.take_first-forwarder.ensures
          (ap (map held_in) c.take_hand.ensures.hands ∙ (map_push held_in c.loop-rest.room.hands.items _ ∙ ap (λ (h : WorkerHand). map held_in c.loop-rest.room.hands.items ++ h ∷ []) hand)) inv.hands;
    }
