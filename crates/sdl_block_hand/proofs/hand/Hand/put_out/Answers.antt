use Rattle.std.proofs.Common.{refl, sym, subst, ◌∙◌}
use Rattle.sdl_block_hand.specs.Puts.{AreRouted}
use Rattle.sdl_block_hand.proofs.Fronts.{putting_starts, putting_on, putting_refused}
use Rattle.sdl_block_hand.proofs.hand.Hand.put_out.Goals as goal

pub loop-self-init : goal.loop-self-init
loop-self-init g c = (putting_starts g.Q.Queues.relations c.args.routes.now c.args.self.now.outgoing.items c.args.queues.now c.requires.routed c.requires.ways, refl)

pub loop-self-preserved : goal.loop-self-preserved
loop-self-preserved g c =
    let (i, s, front, first, one) = c.in_ok-put_front.ensures.put in (
      putting_on g.Q.Queues.relations c.args.routes.now c.args.self.now.outgoing.items c.args.queues.now c.loop-self.self.outgoing.items c.loop-self.queues i s c.put_front.new.self.outgoing.items c.put_front.new.queues c.loop-self.invariant.0 front first one,
      c.put_front.ensures.kept ∙ c.loop-self.invariant.1,
    )

pub returns-in_err-put_front-clause-put : goal.returns-in_err-put_front-clause-put
returns-in_err-put_front-clause-put g c =
    let (same, none) = c.in_err-put_front.ensures.put in
    putting_refused g.Q.Queues.relations c.args.routes.now c.args.self.now.outgoing.items c.args.queues.now c.loop-self.self.outgoing.items c.loop-self.queues c.from_residual.result c.from_residual.ensures.0
    c.put_front.new.self.outgoing.items c.put_front.new.queues c.loop-self.invariant.0 same none

pub returns-in_err-put_front-clause-routed : goal.returns-in_err-put_front-clause-routed
returns-in_err-put_front-clause-routed g c = subst (AreRouted c.args.routes.now) (sym c.in_err-put_front.ensures.put.0) c.loop-self.invariant.0.routed
