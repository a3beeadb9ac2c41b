use Rattle.std.proofs.Common.{List, IfOk, subst}
use Rattle.sdl_listing_body.specs.declared.syntax.Row.{Row}
use Rattle.sdl_listing_binding.specs.Answers.{IsAnswerIn}
use Rattle.sdl_listing_runs.specs.Outcomes.{HasRunMarked}
use Rattle.sdl_listing_runs.proofs.runs.try_listing.Goals as goal

pub returns-clause-made : goal.returns-clause-made
returns-clause-made g c =
    subst (λ (rows : List Row). IfOk c.run_rows.result (λ status. HasRunMarked (IsAnswerIn rows) c.args.listing.items (g.R.Read.remaining c.args.input.now) (g.R.Read.remaining c.run_rows.new.input)
    (g.W.Write.contents c.args.output.now) (g.W.Write.contents c.run_rows.new.output) c.args.prepared status))
    c.in_ok-to_store.ensures.rows (c.run_rows.ensures.made c.args.listing.items c.in_ok-to_store.ensures.rows c.in_ok-to_store.ensures.heads)
