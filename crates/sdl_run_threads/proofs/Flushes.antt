-- What the steps of a worker keep stays where its ends are flushed.
use Rattle.std.proofs.Common.{◌≡◌, ℕ, List, [], ap, sym, ◌∙◌}
use Rattle.sdl_routes.specs.declared.route.Station.{Station}
use Rattle.sdl_routes.specs.declared.route.TableRow.{TableRow}
use Rattle.sdl_transition_behaviour.specs.declared.step.Frame.{Frame}
use Rattle.sdl_transition_behaviour.specs.declared.step.Step.{Step}
use Rattle.sdl_instances.specs.Machine.{System}
use Rattle.sdl_forward_ends.specs.Ends.{WorkerEnds, IsSameEnds, put_at, taken_by}
use Rattle.sdl_forward.specs.Forwards.{Forwarding}
use Rattle.sdl_forward.specs.HandsOn.{IsHandingOn}
use Rattle.sdl_block_hand.specs.Work.{Working}
use Rattle.sdl_block_hand.specs.Apart.{IsPuttingOut}
use Rattle.sdl_forward.specs.ByEnds.{has_feed_still}

pub taken_same : (old new : WorkerEnds) → new.tap ≡ old.tap → taken_by new ≡ taken_by old
taken_same old new tap = ap (λ o. taken_by (record { tap = o; feeds = [] })) tap

module _ (old new : WorkerEnds) (puts : (s : Station) → put_at new s ≡ put_at old s) (tap : new.tap ≡ old.tap) (same : IsSameEnds old new) where
  pub forwarder_flushed : (rows : List TableRow) (f : Forwarding) → IsHandingOn rows f old → IsHandingOn rows f new
  forwarder_flushed rows f h = record {
    ways = λ i s next. has_feed_still old new s same (h.ways i s next);
    put = h.put;
    whole = h.whole ∙ sym (taken_same old new tap);
    each = λ s. puts s ∙ h.each s;
    on = h.on;
  }

  pub block_flushed : (may : ℕ → Frame → Step → Type 0) (sys : System) (w : Working) → IsPuttingOut may sys w old → IsPuttingOut may sys w new
  block_flushed may sys w h = record {
    sound = h.sound;
    put = h.put;
    whole = h.whole;
    each = λ s. puts s ∙ h.each s;
    came = h.came ∙ sym (taken_same old new tap);
    legal = h.legal;
    ways = λ r row s at starts first. has_feed_still old new s same (h.ways r row s at starts first);
  }
