use Rattle.std.proofs.Common.{◌≡◌, ◌<◌, List, Some, slice_get, get_or, ap, sym, ◌∙◌, below_more, arith}
use Rattle.std.proofs.lemmas.Option.{slice_get-get_or, slice_get_within, same_Some}
use Rattle.sdl_signal.specs.declared.values.Item.{Item}
use Rattle.sdl_routes.specs.declared.route.Station.{Station}
use Rattle.sdl_queue.specs.declared.rest.Rest.{Rest}
use Rattle.sdl_queue.specs.declared.rest.Rest.TheVariants.{Serial}
use Rattle.sdl_run_audit.proofs.recount.are_serial.Goals as goal

pub loop-number-preserved : goal.loop-number-preserved
loop-number-preserved c =
    let here = c.index-rests-number.result in
    below_more (λ k. (e : Station × Rest) → slice_get c.args.rests.now k ≡ Some e → (queue : List Item) × (e.1 ≡ Serial queue)) c.loop-number.number c.loop-number.invariant
    (λ e at.
    let q = c.is_serial.ensures c.if-not-is_serial.false in
    let same = same_Some e (get_or c.args.rests.now c.loop-number.number here) (sym at ∙ slice_get-get_or c.args.rests.now c.loop-number.number here c.loop-number-test.true) in
    (q.0, ap (λ (x : Station × Rest). x.1) same ∙ q.1))

pub returns : goal.returns
returns c h k e at =
    let within = slice_get_within c.args.rests.now k e at in
    let less : k < c.loop-number.number = omega (arith, c.loop-number-test.false, within) in
    c.loop-number.invariant k less e at
