use Rattle.std.proofs.Common.{append_assoc}
use Rattle.sdl_drawing_text.proofs.channels.open_polygon.Goals as goal

pub returns : goal.returns
returns g c = let written = simp (append_assoc, c.channel_name-name.ensures, c.sign_of-sign.ensures) at c.write.ensures.bytes in simp append_assoc written
