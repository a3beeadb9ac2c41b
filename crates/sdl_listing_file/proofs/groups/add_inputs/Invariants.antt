use Rattle.std.proofs.Common.{◌≡◌, take, map}
use Rattle.std.specs.Prelude.{flat_map}
use Rattle.sdl_listing_file.specs.Tables.{text_of}
use Rattle.sdl_listing_file.specs.Heads.{AreOnce}
use Rattle.sdl_listing_file.specs.File.{in_each, IsInputOf, Appends}
use Rattle.sdl_listing_file.proofs.groups.add_inputs.Given as goal

abbrev pub invariant-loop-item : goal.invariant-loop-item
invariant-loop-item l = record {
  rows : Appends (IsInputOf l.setting) (flat_map (in_each l.states) (take l.item (map text_of l.texts))) l.fn.all.rows.items l.all.rows.items;
  saves : l.all.saves.items ≡ l.fn.all.saves.items;
  once : AreOnce l.all.saves.items l.all.rows.items;
}
