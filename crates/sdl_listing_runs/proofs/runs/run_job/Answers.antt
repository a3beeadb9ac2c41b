use Rattle.std.proofs.Common.{inl, inr}
use Rattle.sdl_listing_runs.proofs.runs.run_job.Goals as goal

pub returns-clause-made : goal.returns-clause-made
returns-clause-made g c = λ sets stored heads.
    elim (c.run_prepared-status.ensures.made sets stored heads) [
      | inl refused ↦ absurd (c.if-status-eq-REFUSED.false refused)
      | inr made ↦ inr (c.run_prepared-status.result, made, c.report_bent.ensures.either)
    ]
