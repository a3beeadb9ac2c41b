use Rattle.std.proofs.Common.{append_assoc}
use Rattle.sdl_drawing_text.proofs.edges.write_head.Goals as goal

pub returns : goal.returns
returns g c = simp (append_assoc, c.arrow_of-head.ensures, c.as_slice.ensures.value) at c.write.ensures.bytes
