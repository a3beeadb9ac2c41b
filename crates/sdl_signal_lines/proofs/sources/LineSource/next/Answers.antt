use Rattle.sdl_signal_lines.specs.declared.sources.Ended.TheVariants as ended
use Rattle.sdl_signal_lines.proofs.sources.LineSource.next.Goals as goal

pub returns-in-Line-clause-ended : goal.returns-in-Line-clause-ended
returns-in-Line-clause-ended g c ended.Over h = let same = (c.in-Line.ensures.ended _ h).0 in cc
returns-in-Line-clause-ended g c ended.Done h = let same = (c.in-Line.ensures.ended _ h).0 in cc
returns-in-Line-clause-ended g c ended.Fault h = let same = (c.in-Line.ensures.ended _ h).0 in cc
