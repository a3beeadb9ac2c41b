use Rattle.sdl_forward.proofs.Handing.{first}
use Rattle.sdl_forward.proofs.laws.new_forwarders_are_handing_on.Goals as goal

pub returns : goal.returns
returns c = first
