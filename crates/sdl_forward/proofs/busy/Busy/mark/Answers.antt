use Rattle.sdl_forward.proofs.Marks.{marked_back, marked_forth}
use Rattle.sdl_forward.proofs.busy.Busy.mark.Goals as goal

pub returns-then-hop : goal.returns-then-hop
returns-then-hop c h clear = marked_back c.args.self.now c.args.hop c.if-channel-ge-CHANNELS.false h c.if-hop.true clear

pub returns-else-hop : goal.returns-else-hop
returns-else-hop c h clear = marked_forth c.args.self.now c.args.hop c.if-channel-ge-CHANNELS.false h c.if-hop.false clear
