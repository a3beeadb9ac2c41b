-- The plan of a system is known by its parts.
use Rattle.std.proofs.Common.{ℕ, List, map, ◌≡◌, ap, sym, ◌∙◌}
use Rattle.sdl_structure_parts.specs.Structure.{Structure}
use Rattle.sdl_routes.specs.declared.route.TableRow.{TableRow}
use Rattle.sdl_transition.specs.declared.block_parts.BlockParts.{BlockParts}
use Rattle.sdl_transition.specs.declared.binding.Bound.{Bound}
use Rattle.sdl_transition.specs.Bound.{structure_of, routes_of, blocks_of}
use Rattle.sdl_transition.specs.Rules.{Rules, block_rules}
use Rattle.sdl_run_outcome.specs.Plan.{Plan}
use Rattle.sdl_run_driver.specs.declared.system.System.{System}
use Rattle.sdl_run_driver.specs.Closings.{plan_of_bound}
use Rattle.sdl_run_driver.specs.Systems.{plan_of_parts, IsBoundOf}

unfoldable plan_by : Structure → List TableRow → List (List Rules) → ℕ → Plan
plan_by s routes rules budget = record { structure = s; routes = routes; rules = rules; budget = budget }

module _ {S I : Type 0} {F : I → Type 0} {g : _} where
  pub bound_plan : (x : System (BlockParts S I F g)) (b : Bound S I F g) (budget : ℕ) → IsBoundOf x b → x.budget ≡ budget → plan_of_parts x ≡ plan_of_bound b budget
  unfolding plan_by
  bound_plan x b budget (e, f, h) turns =
      ap (λ (s : Structure). plan_by s x.routes (map block_rules x.blocks.items) x.budget) (sym e)
      ∙ (ap (λ (rows : List TableRow). plan_by (structure_of b) rows (map block_rules x.blocks.items) x.budget) (sym f)
      ∙ (ap (λ (ps : List (BlockParts S I F g)). plan_by (structure_of b) (routes_of b) (map block_rules ps) x.budget) (sym h)
      ∙ ap (λ (n : ℕ). plan_by (structure_of b) (routes_of b) (map block_rules (blocks_of b)) n) turns))
