use Rattle.std.proofs.Common.{rules}
use Rattle.sdl_chart_msc.specs.Names.{is_keyword}
use Rattle.sdl_chart_msc.proofs.names.is_keyword.Goals as goal

pub returns : goal.returns
unfolding is_keyword
returns c = search rules
