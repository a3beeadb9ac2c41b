-- Items whose routes are in the table, and what a step answers.
use Rattle.std.specs.Prelude.{◌≡◌, Bool, true, false, List, Some, Result, Ok, Err, All, slice_get}
use Rattle.sdl_signal.specs.declared.values.Item.{Item}
use Rattle.sdl_routes.specs.declared.route.TableRow.{TableRow}
use Rattle.sdl_block_hand.specs.declared.hand.Stepped.{Stepped}
use Rattle.sdl_block_hand.specs.declared.hand.Stepped.TheVariants as stepped
use Rattle.sdl_block_hand.specs.declared.hand.Refused.{Refused}

-- the item's route is one of the table's
abbrev pub IsRouted : List TableRow → Item → Type 0
IsRouted rows i = (row : TableRow) × (slice_get rows i.route.0 ≡ Some row)

abbrev pub AreRouted : List TableRow → List Item → Type 0
AreRouted rows items = All (IsRouted rows) items

-- the answer of a step, by whether it did anything or was refused
abbrev pub answer_of : Result Bool Refused → Stepped
answer_of (Ok true) = stepped.Did
answer_of (Ok false) = stepped.Idle
answer_of (Err _) = stepped.Memory
