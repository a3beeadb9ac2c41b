-- What a caller of the audit knows whose closing is of a run: what the audit requires of it.
use Rattle.std.proofs.Common.{ℕ, List, length, ap, sym, ◌∙◌, subst}
use Rattle.sdl_structure_parts.specs.Structure.{Structure}
use Rattle.sdl_routes.specs.declared.route.TableRow.{TableRow}
use Rattle.sdl_routes.specs.Routes.{AreRoutesOf}
use Rattle.sdl_transition.specs.declared.binding.Bound.{Bound}
use Rattle.sdl_transition.specs.Bound.{structure_of, routes_of}
use Rattle.sdl_forward_opening.specs.Workers.{workers_in}
use Rattle.sdl_forward.specs.Boards.{IsBoardOf}
use Rattle.sdl_run_outcome.specs.Outcome.{Outcome, IsComplete}
use Rattle.sdl_run_driver.specs.Closings.{plan_of_bound, IsSameBound}
use Rattle.sdl_run_audit.proofs.Parts.{routes_there}

-- what a run left is complete, whatever its budget was
pub complete_again : {S I : Type 0} {F : I → Type 0} {g : _} (b c : Bound S I F g) (budget : ℕ) (o : Outcome) → IsSameBound b c → IsComplete (plan_of_bound b budget) o → IsComplete (plan_of_bound c 0) o
complete_again b c budget o e h =
    record {
      logs = h.logs ∙ ap (λ (s : Structure). length s.blocks) (sym e.0);
      hands = h.hands ∙ ap (λ (s : Structure). length (workers_in s)) (sym e.0);
      rests = subst (λ (rows : List TableRow). IsBoardOf rows o.rests) (sym e.1) h.rests;
    }

-- and the routes are those of the structure
pub routes_again : {S I : Type 0} {F : I → Type 0} {g : _} (b c : Bound S I F g) → IsSameBound b c → AreRoutesOf (structure_of b) (routes_of b) → AreRoutesOf (structure_of c) (routes_of c)
routes_again b c e h = routes_there (structure_of b) (structure_of c) (routes_of b) (routes_of c) e.0 e.1 h
