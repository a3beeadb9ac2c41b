use Rattle.std.proofs.Common.{◌≡◌, ◌≤◌, length, take, map}
use Rattle.std.specs.Prelude.{filter_map}
use Rattle.sdl_listing_expression_text.specs.Meanings.{state_named}
use Rattle.sdl_listing_file.specs.Tables.{text_of}
use Rattle.sdl_listing_file.proofs.groups.states_of.Given as goal

abbrev pub invariant-loop-value : goal.invariant-loop-value
invariant-loop-value l = record {
  found : l.found.items ≡ filter_map (λ t. state_named l.setting t) (take l.value-index (map text_of l.texts));
  few : length l.found.items ≤ l.value-index;
}
