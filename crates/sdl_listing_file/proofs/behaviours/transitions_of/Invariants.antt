use Rattle.std.proofs.Common.{◌≡◌, [], true, All, take, map}
use Rattle.std.specs.Prelude.{flat_map}
use Rattle.sdl_listing_file.specs.declared.place.AgentsKey.TheVariants as key
use Rattle.sdl_listing_file.specs.declared.place.AgentsPart.TheVariants as part
use Rattle.sdl_listing_file.specs.Keys.{keys_of}
use Rattle.sdl_listing_file.specs.Tables.{table_in, has_only}
use Rattle.sdl_listing_file.specs.Heads.{AreOnce}
use Rattle.sdl_listing_file.specs.File.{for_states, IsSaveOf, IsInputOf, Appends}
use Rattle.sdl_listing_file.proofs.behaviours.transitions_of.Given as goal

abbrev pub invariant-loop-number : goal.invariant-loop-number
invariant-loop-number l = record {
  saves : Appends (IsSaveOf l.setting) (flat_map (for_states l.setting key.Save) (take l.number (map table_in l.groups))) [] l.all.saves.items;
  rows : Appends (IsInputOf l.setting) (flat_map (for_states l.setting key.Input) (take l.number (map table_in l.groups))) [] l.all.rows.items;
  keys : All (λ g. has_only (keys_of part.State) g ≡ true) (take l.number (map table_in l.groups));
  once : AreOnce l.all.saves.items l.all.rows.items;
}
