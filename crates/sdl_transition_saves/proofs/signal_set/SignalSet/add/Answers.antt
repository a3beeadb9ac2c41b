use Rattle.sdl_transition_saves.proofs.Bits.{added}
use Rattle.sdl_transition_saves.proofs.signal_set.SignalSet.add.Goals as goal

pub returns : goal.returns
returns c s = added c.args.self.now.bits c.args.signal.0 s.0 c.requires
