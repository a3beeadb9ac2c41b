use Rattle.sdl_block.proofs.Keeps.{keeps_first}
use Rattle.sdl_block.proofs.laws.new_blocks_are_putting_out.Goals as goal

pub returns : goal.returns
returns g c = λ sys core ends. keeps_first g.S.Agents.may sys core ends
