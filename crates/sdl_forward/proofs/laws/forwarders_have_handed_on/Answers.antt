use Rattle.sdl_forward.proofs.Handing.{handed}
use Rattle.sdl_forward.proofs.laws.forwarders_have_handed_on.Goals as goal

pub returns : goal.returns
returns c = handed
