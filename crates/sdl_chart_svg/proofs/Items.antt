-- The texts of the elements of a list, one behind the other.
use Rattle.std.proofs.Common.{◌≡◌, ℕ, ◌+◌, ◌<◌, List, Option, length, take, get_or, flat_map, subst}
use Rattle.std.specs.Io.KnownBytes.{Appends}
use Rattle.sdl_svg.proofs.Texts.{loop_next}

-- the texts of the first elements of a list, and of one more
pub item_next : {X : Type 0} (f : X → List ℕ) (xs : List X) (i : ℕ) (x : X) (a b c : Option (List ℕ)) → i < length xs → x ≡ get_or xs i x
    → Appends a b (flat_map f (take i xs)) → Appends b c (f x) → Appends a c (flat_map f (take (i + 1) xs))
item_next {X} f xs i x a b c h is so_far this = loop_next f xs i x a b c h so_far (subst (λ (y : X). Appends b c (f y)) is this)
