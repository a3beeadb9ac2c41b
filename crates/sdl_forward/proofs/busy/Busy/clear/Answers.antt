use Rattle.sdl_forward.proofs.Marks.{cleared_back, cleared_forth}
use Rattle.sdl_forward.proofs.busy.Busy.clear.Goals as goal

pub returns-then-hop : goal.returns-then-hop
returns-then-hop c h other clear = cleared_back c.args.self.now c.args.hop c.if-channel-ge-CHANNELS.false h other c.if-hop.true clear

pub returns-else-hop : goal.returns-else-hop
returns-else-hop c h other clear = cleared_forth c.args.self.now c.args.hop c.if-channel-ge-CHANNELS.false h other c.if-hop.false clear
