-- The system that a block works in stays the same.
use Rattle.std.proofs.Common.{◌≡◌, List, ap, ◌∙◌}
use Rattle.sdl_routes.specs.declared.route.TableRow.{TableRow}
use Rattle.sdl_transition.specs.Rules.{Rules}
use Rattle.sdl_instances.specs.Core.{Core, system_of}
use Rattle.sdl_instances.specs.Calls.{LeavesOthers}

pub same_system : (old new : Core) (rows : List TableRow) (rules others : List Rules) → LeavesOthers old new → others ≡ rules → system_of new rows others ≡ system_of old rows rules
same_system old new rows rules others kept same =
    ap (λ (r : List Rules). system_of new rows r) same
    ∙ ap (λ s. record { signals = s; sets = new.sets; routes = rows; rules = rules }) kept.1
    ∙ ap (λ s. record { signals = old.signals; sets = s; routes = rows; rules = rules }) kept.2
