use Rattle.std.proofs.Common.{◌≡◌, take}
use Rattle.sdl_listing_file.specs.Heads.{AreOnce}
use Rattle.sdl_listing_file.specs.File.{in_each, IsSaveOf, Appends}
use Rattle.sdl_listing_file.proofs.groups.add_save.Given as goal

abbrev pub invariant-loop-state : goal.invariant-loop-state
invariant-loop-state l = record {
  saves : Appends (IsSaveOf l.setting) (take l.state-index (in_each l.states l.text)) l.fn.all.saves.items l.all.saves.items;
  rows : l.all.rows.items ≡ l.fn.all.rows.items;
  once : AreOnce l.all.saves.items l.all.rows.items;
}
