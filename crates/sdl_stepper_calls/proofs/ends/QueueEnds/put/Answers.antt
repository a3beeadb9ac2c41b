use Rattle.std.proofs.Common.{◌<◌, length, refl}
use Rattle.std.proofs.lemmas.Option.{slice_get_read}
use Rattle.sdl_stepper_calls.proofs.AllEnds.{all_with_feed}
use Rattle.sdl_stepper_calls.proofs.ends.QueueEnds.put.Goals as goal

pub invariant_of-self-2 : goal.invariant_of-self-2
invariant_of-self-2 g c =
    let feeds = c.self.inside.feeds.items in
    let within : c.args.feeder < length feeds = c.in-Some.ensures.item.3.0 in
    let here = slice_get_read feeds (length feeds) c.args.feeder c.in-Some.feed.now refl within c.in-Some.ensures.value in
    all_with_feed c.self.inside.feeds.items c.self.inside.tap c.args.feeder c.in-Some.feed.now c.put_with_retry.new.feed here c.put_with_retry.ensures c.self.invariant
