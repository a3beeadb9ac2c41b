use Rattle.std.proofs.Common.{length, refl, arith}
use Rattle.std.proofs.lemmas.Option.{slice_get_read}
use Rattle.sdl_forward_ends.proofs.Flushed.{all_themselves, goes_on, same_number}
use Rattle.sdl_forward_ends.proofs.ends.flush_all.Goals as goal

pub loop-place-init : goal.loop-place-init
loop-place-init c = (all_themselves c.args.feeds.now.items, (λ t. tt, λ t. refl))

pub loop-place-preserved : goal.loop-place-preserved
loop-place-preserved c =
    let at = slice_get_read c.loop-place.feeds.items (length c.loop-place.feeds.items) c.loop-place.place c.index_mut.result.now refl
    (let t = c.loop-place-test.true in let l = c.len-place-end.ensures in let n = same_number c.args.feeds.now.items c.loop-place.feeds.items c.loop-place.invariant.0 in omega (arith, t, l, n, c.args.feeds.now.ok.0)) c.index_mut.ensures.value in
    goes_on c.args.feeds.now.items c.loop-place.feeds.items c.loop-place.place c.index_mut.result.now c.flush_one-empty.new.feed c.loop-place.empty c.flush_one-empty.result at c.flush_one-empty.ensures.flushed c.flush_one-empty.ensures.empty
    c.loop-place.invariant.0 c.loop-place.invariant.1
