use Rattle.sdl_block.proofs.Keeps.{put_out_after}
use Rattle.sdl_block.proofs.laws.blocks_have_put_out.Goals as goal

pub returns : goal.returns
returns g c = λ sys w ends. put_out_after g.S.Agents.may sys w ends
