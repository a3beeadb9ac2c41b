use Rattle.std.proofs.Common.{rules}
use Rattle.sdl_forward_ends.specs.Marks.{HasMark}
use Rattle.sdl_forward_ends.proofs.MarkSets.{joined, each_or}
use Rattle.sdl_forward_ends.proofs.marks.Marks.join.Goals as goal

pub returns : goal.returns
unfolding HasMark
returns c m =
    let each = each_or c.args.self.now.words c.args.others.words c.loop-place.self.words (search rules) (search rules) c.loop-place.invariant.0 (search rules) in
    joined c.args.self.now.words c.args.others.words c.loop-place.self.words m each
