use Rattle.std.proofs.Common.{◌≡◌, length}
use Rattle.sdl_block_hand.proofs.Fronts.{IsPutting}
use Rattle.sdl_block_hand.proofs.hand.Hand.put_out.Given as goal

-- the items in front of those that are left are put
abbrev pub invariant-loop-self : goal.invariant-loop-self
invariant-loop-self g l =
    IsPutting g.Q.Queues.relations l.routes l.initial.self.outgoing.items l.initial.queues l.self.outgoing.items l.queues × (l.self.kept ≡ l.initial.self.kept)

abbrev pub decreases-loop-self : goal.decreases-loop-self
decreases-loop-self g l = length l.self.outgoing.items
