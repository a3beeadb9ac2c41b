use Rattle.std.proofs.Common.{◌≡◌, take, map}
use Rattle.std.specs.Prelude.{flat_map}
use Rattle.sdl_listing_file.specs.Tables.{text_of}
use Rattle.sdl_listing_file.specs.Heads.{AreOnce}
use Rattle.sdl_listing_file.specs.File.{in_each, IsSaveOf, Appends}
use Rattle.sdl_listing_file.proofs.groups.add_saves.Given as goal

abbrev pub invariant-loop-value : goal.invariant-loop-value
invariant-loop-value l = record {
  saves : Appends (IsSaveOf l.setting) (flat_map (in_each l.states) (take l.value-index (map text_of l.texts))) l.fn.all.saves.items l.all.saves.items;
  rows : l.all.rows.items ≡ l.fn.all.rows.items;
  once : AreOnce l.all.saves.items l.all.rows.items;
}
