-- What holds of a run holds where its chart, its structure and its routes are told otherwise.
use Rattle.std.proofs.Common.{◌≡◌, List, Option, subst}
use Rattle.sdl_structure_parts.specs.Structure.{Structure}
use Rattle.sdl_routes.specs.declared.route.TableRow.{TableRow}
use Rattle.sdl_chart_words.specs.declared.sets.Charting.{Charting}

pub moved : (P : Option Charting → Structure → List TableRow → Type 0) (x y : Option Charting) (s t : Structure) (r q : List TableRow) → x ≡ y → s ≡ t → r ≡ q → P x s r → P y t q
moved P x y s t r q chart structure routes h =
    subst (λ (z : Option Charting). P z t q) chart (subst (λ (z : Structure). P x z q) structure (subst (λ (z : List TableRow). P x s z) routes h))
