use Rattle.sdl_app_file_commands.proofs.Fronts.{front_read}
use Rattle.sdl_app_file_commands.proofs.files.read_front.Goals as goal

pub returns-in-Ok : goal.returns-in-Ok
returns-in-Ok g c =
    front_read g.R.Read.remaining c.args.reader c.take.result 1048577 c.new-bytes.result.items c.read_to_end.new.buf.items
    c.take.ensures.limit c.take.ensures.inner c.new-bytes.ensures.items c.in-Ok.ensures.bytes
