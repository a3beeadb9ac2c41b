-- A structure, from its lists as the code holds them.
use Rattle.std.specs.Prelude.{ℕ, List}
use Rattle.arrayvec.specs.ArrayString.{ArrayString}
use Rattle.sdl_structure_parts.specs.declared.structure.Lists.{Lists}
use Rattle.sdl_structure_parts.specs.Structure.{Structure}

abbrev pub structure_of : ArrayString → ℕ → Lists → Structure
structure_of system budget lists = record {
  system = system.bytes;
  budget = budget;
  signals = lists.signals.items;
  blocks = lists.blocks.items;
  sets = lists.sets.items;
  gates = lists.gates.items;
  channels = lists.channels.items;
}
