use Rattle.sdl_forward.proofs.Marks.{next_clear}
use Rattle.sdl_forward.proofs.busy.Busy.next.Goals as goal

pub returns : goal.returns
returns c h lower less = next_clear c.args.self.now c.args.channel _ _ c.fits-self.0.1 c.fits-self.1.0.1 c.min.ensures c.min-2.ensures h lower less
