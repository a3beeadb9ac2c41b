-- The side at which a path ends. (What is not there ends outside.)
use Rattle.std.specs.Prelude.{option_map, unwrap_or}
use Rattle.sdl_signal.specs.declared.ids.ChannelId.{ChannelId}
use Rattle.sdl_structure_parts.specs.declared.parts.Side.{Side}
use Rattle.sdl_structure_parts.specs.declared.parts.Side.TheVariants.{Outer, Inner}
use Rattle.sdl_structure_parts.specs.declared.parts.Direction.{Direction}
use Rattle.sdl_structure_parts.specs.Structure.{Structure, path_at}

abbrev pub finish_side : Structure → ChannelId → Direction → Side
finish_side s channel direction = unwrap_or (option_map (λ p. p.finish.side) (path_at s channel direction)) Outer
