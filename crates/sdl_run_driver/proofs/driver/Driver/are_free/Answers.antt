use Rattle.std.proofs.Common.{◌≡◌, ◌≤◌, false, Option, None, Some, List, length, slice_get, Bor, is_some, refl, sym, ◌∙◌, subst}
use Rattle.std.specs.Option.{option_copied}
use Rattle.std.proofs.lemmas.Bool.{false≢true}
use Rattle.sdl_forward.specs.Forwards.{Forwarding}
use Rattle.sdl_run_driver.proofs.Scans.{read_at, one_further, all_seen}
use Rattle.sdl_run_driver.proofs.driver.Driver.are_free.Goals as goal

none_copied : {X : Type 0} (o : Option (Bor X)) → is_some o ≡ false → option_copied o ≡ None
none_copied None e = refl
none_copied (Some x) e = absurd (false≢true (sym e))

pub loop-forwarder-preserved : goal.loop-forwarder-preserved
loop-forwarder-preserved g c =
    one_further (λ (f : Forwarding). f.held ≡ None) c.args.self.now.forwarders.items c.loop-forwarder.forwarder-index c.forwarder-item.result
    (subst (λ (fs : List Forwarding). slice_get fs c.loop-forwarder.forwarder-index ≡ Some c.forwarder-item.result) c.deref-forwarder-items.ensures.value
    (read_at c.deref-forwarder-items.result.now c.loop-forwarder.forwarder-index c.forwarder-item.result c.loop-forwarder-test.true c.forwarder-item.is))
    (sym c.held.ensures ∙ none_copied c.held.result (sym c.is_some.ensures ∙ c.if-is_some.false)) c.loop-forwarder.invariant

pub returns : goal.returns
returns g c =
    all_seen (λ (f : Forwarding). f.held ≡ None) c.args.self.now.forwarders.items c.loop-forwarder.forwarder-index
    (subst (λ (fs : List Forwarding). length fs ≤ c.loop-forwarder.forwarder-index) c.deref-forwarder-items.ensures.value c.loop-forwarder-test.false) c.loop-forwarder.invariant
