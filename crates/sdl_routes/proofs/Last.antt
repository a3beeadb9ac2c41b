-- The last of the hops is the one at the last place.
use Rattle.std.proofs.Common.{◌≡◌, suc, ◌-◌, List, [], ◌∷◌, length, slice_get, refl, ap, ◌∙◌, arith}
use Rattle.sdl_routes.specs.declared.route.Hop.{Hop}
use Rattle.sdl_routes.specs.Routes.{last_of}

pub last_at : (hops : List Hop) → slice_get hops (length hops - 1) ≡ last_of hops
last_at [] = refl
last_at (h ∷ []) = refl
last_at (h ∷ k ∷ hops) =
    let e : length (h ∷ k ∷ hops) - 1 ≡ suc (length (k ∷ hops) - 1) = omega arith in
    ap (λ n. slice_get (h ∷ k ∷ hops) n) e ∙ last_at (k ∷ hops)
