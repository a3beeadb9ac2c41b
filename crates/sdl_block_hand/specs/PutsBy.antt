-- Putting out what is in hand, over any queues. (This project's own.)
use Rattle.std.specs.Prelude.{◌≡◌, Bool, true, false, List, [], ◌++◌, Some, Result, Ok, Err, All}
use Rattle.sdl_signal.specs.declared.values.Item.{Item}
use Rattle.sdl_routes.specs.declared.route.TableRow.{TableRow}
use Rattle.sdl_routes.specs.declared.route.Station.{Station}
use Rattle.sdl_forward.specs.Queues.{Relations}
use Rattle.sdl_block_hand.specs.declared.hand.Refused.{Refused}
use Rattle.sdl_block_hand.specs.Work.{first_station, beginning_at}

-- each of the items can be put at the first station of its route
abbrev pub CanPutOut : {B : Type 0} → Relations B → List TableRow → B → List Item → Type 0
CanPutOut q rows queues items = All (λ i. (s : Station) → first_station rows i ≡ Some s → q.CanPut queues s) items

-- the items go, in order, to the first stations of their routes
abbrev pub PutsFirsts : {B : Type 0} → Relations B → List TableRow → B → List Item → B → Type 0
PutsFirsts q rows before put after = q.Puts (λ s. beginning_at rows s put) before after

-- All that was in hand is put, or the first part of it is; the answer says whether anything was in hand.
abbrev pub PutsOutBy : {B : Type 0} → Relations B → List TableRow → List Item → B → Result Bool Refused → List Item → B → Type 0
PutsOutBy q rows old before (Ok true) new after = PutsFirsts q rows before old after × (old ≡ [] → ⊥) × (new ≡ [])
PutsOutBy q rows old before (Ok false) new after = (old ≡ []) × (new ≡ []) × (after ≡ before)
PutsOutBy q rows old before (Err _) new after = (put : List Item) × (put ++ new ≡ old) × PutsFirsts q rows before put after
