use Rattle.std.proofs.Common.{◌≡◌, ap, sym, ◌∙◌, map, rules, length, map-id, subst, refl}
use Rattle.std.proofs.lemmas.Iterator.Consumers.{YieldsList-end}
use Rattle.std.proofs.lemmas.Iterator.Adapters.{YieldsList-from_vec}
use Rattle.crossbeam_queue.specs.SegTies.{IsSegPassOf}
use Rattle.sdl_queue.specs.declared.rule.Line.{Line}
use Rattle.sdl_queue.specs.Ends.{put_of}
use Rattle.sdl_queue.proofs.Lines.{settles}
use Rattle.sdl_queue.proofs.Opens.{whole_along, settled_len, settled_line}
use Rattle.sdl_queue.proofs.any.rejoin_queue.Goals as goal

pub len_as-len-requires-clause-rule : goal.len_as-len-requires-clause-rule
len_as-len-requires-clause-rule g c =
    let gives = c.into_iter-feed-iterator.ensures.into_iter_gives in
    let long : c.into_iter-feed-iterator.result.rest.len ≡ length c.args.feeds.items = search rules in
    let all = YieldsList-end (YieldsList-from_vec c.args.feeds.items gives.0 long) c.loop-feed.yielded c.loop-feed.feed-iterator c.loop-feed.yielded_by c.next.result c.next.new.self c.in-None.is c.next.ensures.steps in
    let same : c.loop-feed.yielded ≡ c.args.feeds.items = sym (map-id c.loop-feed.yielded) ∙ all.0 in
    let v = c.loop-feed.pass.me.view.client in
    settles _ _ (whole_along c.args.tap.feeders v v (map put_of c.args.feeds.items) refl c.loop-feed.invariant.3 c.loop-feed.invariant.4 (c.loop-feed.invariant.6 ∙ ap (map put_of) same) c.requires.2)

pub invariant_of-result : goal.invariant_of-result
invariant_of-result g c =
    let gives = c.into_iter-feed-iterator.ensures.into_iter_gives in
    let long : c.into_iter-feed-iterator.result.rest.len ≡ length c.args.feeds.items = search rules in
    let all = YieldsList-end (YieldsList-from_vec c.args.feeds.items gives.0 long) c.loop-feed.yielded c.loop-feed.feed-iterator c.loop-feed.yielded_by c.next.result c.next.new.self c.in-None.is c.next.ensures.steps in
    let same : c.loop-feed.yielded ≡ c.args.feeds.items = sym (map-id c.loop-feed.yielded) ∙ all.0 in
    let v = c.loop-feed.pass.me.view.client in
    let w = c.len_as-len.new.pass.me.view.client in
    let e : w ≡ v = c.len_as-len.ensures.queue.2 in (
      subst (λ (l : Line). IsSegPassOf l.queue c.len_as-len.new.pass) c.deref-2.ensures c.len_as-len.ensures.queue.0,
      whole_along c.args.tap.feeders v w (map put_of c.args.feeds.items) e c.loop-feed.invariant.3 c.loop-feed.invariant.4 (c.loop-feed.invariant.6 ∙ ap (map put_of) same) c.requires.2,
      settled_len _ v w e c.len_as-len.ensures.rule,
    )

pub returns-clause-delay_line : goal.returns-clause-delay_line
returns-clause-delay_line g c = settled_line _ c.loop-feed.pass.me.view.client _ c.len_as-len.ensures.queue.2 c.len_as-len.ensures.rule
