use Rattle.std.proofs.Common.{◌≡◌, Option, length, ap, arith}
use Rattle.std.specs.Option.{option_to_list}
use Rattle.sdl_queue.specs.Ends.{FeedEnd}
use Rattle.sdl_forward_ends.specs.Ends.{feed_at}
use Rattle.sdl_forward_ends.proofs.shelf.collect.Goals as goal

pub returns-in-Some-clause-room : goal.returns-in-Some-clause-room
returns-in-Some-clause-room c =
    let same : length (option_to_list c.give_feed.result) ≡ length (option_to_list (feed_at c.args.one.now.feeds c.args.station)) = ap (λ (o : Option FeedEnd). length (option_to_list o)) c.give_feed.ensures.feed in
    λ more h. c.put_given.ensures.room more (omega (arith, h, same))

pub returns-in_default-clause-room : goal.returns-in_default-clause-room
returns-in_default-clause-room c =
    let same : length (option_to_list c.give_feed.result) ≡ length (option_to_list (feed_at c.args.one.now.feeds c.args.station)) = ap (λ (o : Option FeedEnd). length (option_to_list o)) c.give_feed.ensures.feed in
    λ more h. c.put_given.ensures.room more (omega (arith, h, same))
