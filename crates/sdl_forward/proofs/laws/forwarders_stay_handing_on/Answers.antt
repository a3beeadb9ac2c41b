use Rattle.sdl_forward.proofs.Handing.{stays, path_stays}
use Rattle.sdl_forward.proofs.laws.forwarders_stay_handing_on.Goals as goal

pub returns-clause-keeps : goal.returns-clause-keeps
returns-clause-keeps c = stays

pub returns-clause-path : goal.returns-clause-path
returns-clause-path c = path_stays
