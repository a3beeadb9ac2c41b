use Rattle.std.proofs.Common.{◌≡◌, take}
use Rattle.sdl_listing_file.specs.Heads.{AreOnce}
use Rattle.sdl_listing_file.specs.File.{in_each, IsInputOf, Appends}
use Rattle.sdl_listing_file.proofs.groups.add_rows.Given as goal

abbrev pub invariant-loop-state : goal.invariant-loop-state
invariant-loop-state l = record {
  rows : Appends (IsInputOf l.setting) (take l.state-index (in_each l.states l.source.text.now)) l.fn.all.rows.items l.all.rows.items;
  saves : l.all.saves.items ≡ l.fn.all.saves.items;
  once : AreOnce l.all.saves.items l.all.rows.items;
}
