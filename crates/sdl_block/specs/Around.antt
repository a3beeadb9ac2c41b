-- The queues around a block, over any queues, and what a step does with them. (This project's own.)
use Rattle.std.proofs.Common.{◌≡◌, ℕ, ◌⊎◌, Bool, true, false, ◌||◌, Result, Ok, Err, List, [], ◌∷◌, ◌++◌, None, Some, slice_get, sym, subst}
use Rattle.sdl_signal.specs.declared.ids.BlockId.{BlockId}
use Rattle.sdl_signal.specs.declared.values.Item.{Item}
use Rattle.sdl_routes.specs.declared.route.TableRow.{TableRow}
use Rattle.sdl_routes.specs.declared.route.Station.{Station}
use Rattle.sdl_routes.specs.declared.route.Station.TheVariants as station
use Rattle.sdl_transition_behaviour.specs.declared.step.Frame.{Frame}
use Rattle.sdl_transition_behaviour.specs.declared.step.Step.{Step}
use Rattle.sdl_instances.specs.Machine.{System}
use Rattle.sdl_instances.specs.Core.{Core}
use Rattle.sdl_forward.specs.Queues.{Relations, with_more}
use Rattle.sdl_block_hand.specs.declared.hand.Refused.{Refused}
use Rattle.sdl_block_hand.specs.Work.{Working, beginning_at}
use Rattle.sdl_block_hand.specs.Apart.{StartsIn}
use Rattle.sdl_block_hand.proofs.Fronts.{beginning-append}
use Rattle.sdl_block.specs.Phases.{IsSpent, LetsArrive, TriesTurn}
use Rattle.sdl_block.specs.Picks.{LetsInAt, TriesTurnAt}

-- The queues around a block, as a step finds them. Each item that is put goes to the first station of its route.
pub record Queues (B : Type 0) : Type 1 where
  -- so many items were put, and so many taken from the inlet, and nothing else
  pub Moves : List Item → List Item → B → B → Type 0
  -- nothing was put or taken
  pub Still : B → B → Type 0
  -- no item is there to be taken
  pub Empty : B → Type 0
  pub still_moves : (a b : B) → Still a b → Moves [] [] a b
  pub still_same : (b : B) → Still b b
  pub still_then : (a b c : B) → Still a b → Still b c → Still a c
  pub empty_before : (a b : B) → Still a b → Empty b → Empty a
  pub moves_then : (put1 taken1 put2 taken2 : List Item) (a b c : B) → Moves put1 taken1 a b → Moves put2 taken2 b c → Moves (put1 ++ put2) (taken1 ++ taken2) a c

pub moves_both : {B : Type 0} (q : Relations B) (rows : List TableRow) (own : Station) (put1 taken1 put2 taken2 : List Item) (a b c : B)
    → q.Moves own (λ s. beginning_at rows s put1) taken1 a b → q.Moves own (λ s. beginning_at rows s put2) taken2 b c → q.Moves own (λ s. beginning_at rows s (put1 ++ put2)) (taken1 ++ taken2) a c
moves_both q rows own put1 taken1 put2 taken2 a b c h k =
    let each : (s : Station) → with_more (λ s. beginning_at rows s put1) (λ s. beginning_at rows s put2) s ≡ beginning_at rows s (put1 ++ put2) = λ s. sym (beginning-append rows s put1 put2) in
    let same : with_more (λ s. beginning_at rows s put1) (λ s. beginning_at rows s put2) ≡ (λ s. beginning_at rows s (put1 ++ put2)) = λ j s. each s j in
    subst (λ (put : Station → List Item). q.Moves own put (taken1 ++ taken2) a c) same
    (q.moves_then own (λ s. beginning_at rows s put1) taken1 (λ s. beginning_at rows s put2) taken2 a b c h k)

-- those around the block with this core
abbrev pub around : {B : Type 0} → Relations B → List TableRow → Core → Queues B
around q rows core =
    record {
      Moves = λ put taken a b. q.Moves (station.Inlet core.block) (λ s. beginning_at rows s put) taken a b;
      Still = q.Still;
      Empty = λ b. q.Empty b (station.Inlet core.block);
      still_moves = q.still_moves (station.Inlet core.block);
      still_same = q.still_same;
      still_then = q.still_then;
      empty_before = λ a b. q.empty_before a b (station.Inlet core.block);
      moves_then = moves_both q rows (station.Inlet core.block);
    }

-- an item can be put at the first station of each route that starts at one of the block's sets
abbrev pub HasWays : {B : Type 0} → Relations B → System → BlockId → B → Type 0
HasWays q sys block queues =
    (r : ℕ) (row : TableRow) (s : Station) → slice_get sys.routes r ≡ Some row → StartsIn sys.sets block row → slice_get row.route.stations.items 0 ≡ Some s → q.CanPut queues s

module _ {B : Type 0} (q : Queues B) where
  -- the item taken is the kept one, or else one more is taken
  abbrev pub TakesBy : Working → B → Item → B → Type 0
  TakesBy w before i after = ((w.kept ≡ Some i) × q.Still before after) ⊎ ((w.kept ≡ None) × q.Moves [] (i ∷ []) before after)

  -- all that was in hand is put, or the first part of it is
  abbrev pub PutsBy : List Item → B → Result Bool Refused → List Item → B → Type 0
  PutsBy old before (Ok true) new after = q.Moves old [] before after × (old ≡ [] → ⊥) × (new ≡ [])
  PutsBy old before (Ok false) new after = (old ≡ []) × (new ≡ []) × q.Still before after
  PutsBy old before (Err _) new after = (put : List Item) × (put ++ new ≡ old) × q.Moves put [] before after

module _ (may : ℕ → Frame → Step → Type 0) (sys : System) {B : Type 0} (q : Queues B) where
  -- unless the budget is used, the item taken arrives, or is kept; the answer says whether it arrived
  abbrev pub LetsBy : Working → B → Result Bool Refused → Working → B → Type 0
  LetsBy old before (Ok true) new after =
      (i : Item) × (IsSpent old.core → ⊥) × TakesBy q old before i after × LetsArrive may sys (record old { kept = None }) i new
  LetsBy old before (Ok false) new after =
      (new ≡ old) × q.Still before after × (old.kept ≡ None) × (IsSpent old.core ⊎ q.Empty before)
  LetsBy old before (Err _) new after =
      (IsSpent old.core × (new ≡ old) × q.Still before after)
      ⊎ ((IsSpent old.core → ⊥) × ((i : Item) × TakesBy q old before i after × (new ≡ record old { kept = Some i })))

-- The phases of a step, with what each chooses by the pick.

abbrev pub Out : {B : Type 0} → Queues B → Working → B → Result Bool Refused → Working → B → Type 0
Out q old before result new after = PutsBy q old.outgoing before result new.outgoing after × (new ≡ record old { outgoing = new.outgoing })

abbrev pub Arrival : (ℕ → Frame → Step → Type 0) → System → {B : Type 0} → Queues B → ℕ → Working → B → Result Bool Refused → Working → B → Type 0
Arrival may sys q pick old before result new after = LetsBy may sys q old before result new after × LetsInAt sys.routes pick old.core new.core

abbrev pub Turn : (ℕ → Frame → Step → Type 0) → System → ℕ → Working → Result Bool Refused → Working → Type 0
Turn may sys pick old result new = TriesTurn may sys old result new × TriesTurnAt may sys pick old.core new.core

-- A step runs through these phases: up to the one that is refused, or through all four.
pub data GoesThrough (may : ℕ → Frame → Step → Type 0) (sys : System) {B : Type 0} (q : Queues B) (pick : ℕ) (old : Working) (before : B) : Result Bool Refused → Working → B → Type 0 where
  at_put : (r s : Refused) (new : Working) (after : B) → Out q old before (Err s) new after → GoesThrough may sys q pick old before (Err r) new after
  at_arrival : (r s : Refused) (d : Bool) (put : Working) (between : B) (new : Working) (after : B)
      → Out q old before (Ok d) put between → Arrival may sys q pick put between (Err s) new after → GoesThrough may sys q pick old before (Err r) new after
  at_turn : (r s : Refused) (d a : Bool) (put : Working) (between : B) (arrived : Working) (taken : B) (new : Working)
      → Out q old before (Ok d) put between → Arrival may sys q pick put between (Ok a) arrived taken → Turn may sys pick arrived (Err s) new → GoesThrough may sys q pick old before (Err r) new taken
  at_last : (r s : Refused) (d a t : Bool) (put : Working) (between : B) (arrived : Working) (taken : B) (turned new : Working) (after : B)
      → Out q old before (Ok d) put between → Arrival may sys q pick put between (Ok a) arrived taken → Turn may sys pick arrived (Ok t) turned → Out q turned taken (Err s) new after
      → GoesThrough may sys q pick old before (Err r) new after
  whole : (d a t e : Bool) (put : Working) (between : B) (arrived : Working) (taken : B) (turned new : Working) (after : B)
      → Out q old before (Ok d) put between → Arrival may sys q pick put between (Ok a) arrived taken → Turn may sys pick arrived (Ok t) turned → Out q turned taken (Ok e) new after
      → GoesThrough may sys q pick old before (Ok ((d || a) || t)) new after
