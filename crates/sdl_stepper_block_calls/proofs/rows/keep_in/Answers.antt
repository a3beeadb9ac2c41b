use Rattle.std.proofs.lemmas.List.Elements.{All-from_recursion, recursion_from_All}
use Rattle.sdl_transition.specs.Transitions.{IsAllowedRow}
use Rattle.sdl_stepper_block_calls.proofs.Kept.{all_kept}
use Rattle.sdl_stepper_block_calls.proofs.rows.keep_in.Goals as goal

pub returns : goal.returns
returns g c =
    let kept = c.retain.ensures.filtered in
    record {
      start = c.requires.start;
      rows =
          rw kept.4
          (All-from_recursion (λ row. IsAllowedRow g.S.Agents.may row) _
          (all_kept (λ row. IsAllowedRow g.S.Agents.may row) kept.0 _ (recursion_from_All (λ row. IsAllowedRow g.S.Agents.may row) _ c.requires.rows)));
    }
