use Rattle.sdl_forward_ends.specs.Marks.{HasMark}
use Rattle.sdl_forward_ends.proofs.MarkSets.{none_has, zeros, zero_words}
use Rattle.sdl_forward_ends.proofs.marks.Marks.none.Goals as goal

pub returns : goal.returns
unfolding HasMark
returns c m = none_has zero_words zeros m
