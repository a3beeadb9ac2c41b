use Rattle.std.proofs.Common.{List, refl, ap}
use Rattle.sdl_signal.specs.declared.values.Item.{Item}
use Rattle.sdl_routes.specs.declared.route.Station.{Station}
use Rattle.sdl_forward.specs.Boards.{lists_of}
use Rattle.sdl_run_outcome.specs.Outcome.{Outcome}
use Rattle.sdl_run_driver.specs.Closings.{plan_of_bound, outcome_in}
use Rattle.sdl_run_audit.proofs.Answered.{rests_once, other_rests, still_complete}
use Rattle.sdl_run_audit.proofs.auditing.audit.Goals as goal

pub made_serial-rests-requires : goal.made_serial-rests-requires
made_serial-rests-requires g c = rests_once (plan_of_bound c.args.closing.bound 0) (outcome_in g.K.LogStore.events c.args.closing) c.args.closing.rests.items refl c.requires.complete

-- the outcome with these queues
abbrev with_rests : Outcome → List (Station × List Item) → Outcome
with_rests o rests = record o { rests = rests }

pub recount-answer-requires-clause-complete : goal.recount-answer-requires-clause-complete
recount-answer-requires-clause-complete g c =
    let o = outcome_in g.K.LogStore.events c.args.closing in
    still_complete (plan_of_bound c.args.closing.bound 0) o (with_rests o (lists_of c.made_serial-rests.result.items)) (ap (with_rests o) c.made_serial-rests.ensures) c.requires.complete

pub returns-clause-answer : goal.returns-clause-answer
returns-clause-answer g c =
    let o = outcome_in g.K.LogStore.events c.args.closing in
    other_rests (plan_of_bound c.args.closing.bound 0) o (with_rests o (lists_of c.made_serial-rests.result.items)) c.args.closing.ledger c.recount-answer.result (ap (with_rests o) c.made_serial-rests.ensures) c.recount-answer.ensures
