use Rattle.std.proofs.Common.{take}
use Rattle.std.specs.Io.KnownBytes.{Appends}
use Rattle.sdl_drawing_text.specs.Frames.{frames_text}
use Rattle.sdl_drawing_text.proofs.frames.write_frames.Given as goal

abbrev pub invariant-loop-frame : goal.invariant-loop-frame
invariant-loop-frame g l = Appends (g.W.Write.contents l.fn.output) (g.W.Write.contents l.output) (frames_text l.structure (take l.frame-index l.frame-items))
