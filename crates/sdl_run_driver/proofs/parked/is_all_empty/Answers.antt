use Rattle.std.proofs.Common.{◌≡◌, [], ◌∙◌, sym}
use Rattle.sdl_routes.specs.declared.route.Station.{Station}
use Rattle.sdl_queue.specs.declared.rest.Rest.{Rest}
use Rattle.sdl_queue.specs.Rest.{left_in}
use Rattle.sdl_run_driver.proofs.Scans.{read_at, empty_of, one_further, all_seen}
use Rattle.sdl_run_driver.proofs.parked.is_all_empty.Goals as goal

pub loop-rest-preserved : goal.loop-rest-preserved
loop-rest-preserved c =
    one_further (λ (r : Station × Rest). left_in r.1 ≡ []) c.args.rests.now c.loop-rest.rest-index c.rest-item.result
    (read_at c.args.rests.now c.loop-rest.rest-index c.rest-item.result c.loop-rest-test.true c.rest-item.is)
    (empty_of (left_in c.rest-item.result.1) (sym c.len.ensures ∙ c.if-len-ne0.false)) c.loop-rest.invariant

pub returns : goal.returns
returns c = all_seen (λ (r : Station × Rest). left_in r.1 ≡ []) c.args.rests.now c.loop-rest.rest-index c.loop-rest-test.false c.loop-rest.invariant
