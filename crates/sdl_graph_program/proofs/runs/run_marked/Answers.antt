use Rattle.std.proofs.Common.{map, inl, inr}
use Rattle.sdl_transition.specs.Bound.{blocks_of}
use Rattle.sdl_transition.specs.Rules.{block_rules}
use Rattle.sdl_graph_program.proofs.runs.run_marked.Goals as goal

pub returns-clause-run : goal.returns-clause-run
returns-clause-run g c =
    elim c.run_as_told-status.ensures.made [
      | inl refused ↦ absurd (c.if-status-eq-REFUSED.false refused)
      | inr made ↦ inr (c.run_as_told-status.result, (map block_rules (blocks_of c.args.bound), made), c.report_broken.ensures.either)
    ]
