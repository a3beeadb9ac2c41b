use Rattle.std.proofs.Common.{rules}
use Rattle.sdl_forward_ends.specs.Marks.{HasMark}
use Rattle.sdl_forward_ends.proofs.MarkSets.{added}
use Rattle.sdl_forward_ends.proofs.marks.Marks.add.Goals as goal

pub returns : goal.returns
unfolding HasMark
returns c m = added c.args.self.now.words c.args.mark m (search rules)
