use Rattle.std.proofs.Common.{ap, sym, ◌∙◌, arith}
use Rattle.std.proofs.lemmas.Grind.{common_steps}
use Rattle.sdl_queue.specs.Ends.{fresh_feeds}
use Rattle.sdl_queue.proofs.Lines.{begins}
use Rattle.sdl_queue.proofs.Opens.{fresh_feeds-more, all_fresh}
use Rattle.sdl_queue.proofs.ends.queue_open.Goals as goal

pub with_rule-requires : goal.with_rule-requires
with_rule-requires g c = begins

pub loop-number-preserved : goal.loop-number-preserved
loop-number-preserved g c = let more = fresh_feeds-more c.loop-number.tap.opening c.loop-number.number in grind (arith, common_steps)

pub returns-clause-all : goal.returns-clause-all
returns-clause-all g c = let o = c.loop-number.tap.opening in all_fresh _ c.loop-number.tap (c.loop-number.invariant.0 ∙ ap (fresh_feeds o) (sym c.loop-number.invariant.1))
