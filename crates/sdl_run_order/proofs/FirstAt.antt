-- Each delaying path has one forwarder.
use Rattle.std.proofs.Common.{ℕ, zero, suc, List, [], ◌∷◌, map, ◌≡◌, ◌≢◌, Some, slice_get, ap, subst}
use Rattle.std.specs.List.{AllByRecursion}
use Rattle.std.proofs.lemmas.Option.{none-some, same_Some}
use Rattle.sdl_routes.specs.declared.route.Hop.{Hop}
use Rattle.sdl_routes.specs.Routes.{EachOnce}
use Rattle.sdl_forward.specs.Forwards.{Forwarding}
use Rattle.sdl_run_order.proofs.ForwarderStep.{IsFirstAt}

hop_apart : (h : Hop) (fs : List Forwarding) (k : ℕ) (f : Forwarding) → AllByRecursion (λ y. h ≢ y) (map (λ (g : Forwarding). g.hop) fs) → slice_get fs k ≡ Some f → h ≢ f.hop
hop_apart h [] k f o e = absurd (none-some f e)
hop_apart h (g ∷ fs) zero f o e = subst (λ (x : Forwarding). h ≢ x.hop) (same_Some g f e) o.0
hop_apart h (g ∷ fs) (suc k) f o e = hop_apart h fs k f o.1 e

pub first_at : (fs : List Forwarding) (k : ℕ) (f : Forwarding) → EachOnce (map (λ (g : Forwarding). g.hop) fs) → slice_get fs k ≡ Some f → IsFirstAt fs k f.hop
first_at [] k f o e = absurd (none-some f e)
first_at (g ∷ fs) zero f o e = ap (λ (x : Forwarding). x.hop) (same_Some g f e)
first_at (g ∷ fs) (suc k) f o e = (hop_apart g.hop fs k f o.0 e, first_at fs k f o.1 e)
