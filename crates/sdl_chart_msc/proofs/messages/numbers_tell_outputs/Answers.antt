use Rattle.sdl_chart_msc.proofs.Counted.{counted}
use Rattle.sdl_chart_msc.proofs.messages.numbers_tell_outputs.Goals as goal

pub returns : goal.returns
returns c = λ lists page o s is at. counted lists page o s is at
