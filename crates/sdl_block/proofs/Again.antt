-- After a step the next one can be made.
use Rattle.std.proofs.Common.{◌≡◌, ℕ, List, All, sym, ◌∙◌, subst}
use Rattle.std.proofs.lemmas.List.Elements.{All-append}
use Rattle.sdl_signal.specs.declared.values.Item.{Item}
use Rattle.sdl_routes.specs.declared.route.TableRow.{TableRow}
use Rattle.sdl_routes.specs.declared.route.Station.{Station}
use Rattle.sdl_transition_behaviour.specs.declared.step.Frame.{Frame}
use Rattle.sdl_transition_behaviour.specs.declared.step.Step.{Step}
use Rattle.sdl_transition.specs.Rules.{Rules}
use Rattle.sdl_instances.specs.Machine.{System}
use Rattle.sdl_instances.specs.Run.{sent}
use Rattle.sdl_instances.specs.Core.{IsSound, IsLegalIn, system_of}
use Rattle.sdl_forward.specs.Boards.{IsBoardOf, AreAllStations}
use Rattle.sdl_block_hand.specs.declared.hand.Stepped.{Stepped}
use Rattle.sdl_block_hand.specs.declared.hand.Stepped.TheVariants.{Did, Idle, Memory}
use Rattle.sdl_block_hand.specs.Work.{Working, Works, StepsAs}
use Rattle.sdl_block_hand.proofs.Through.{all_behind}
use Rattle.sdl_block.proofs.OnBoard.{works_none}
use Rattle.sdl_block.proofs.Systems.{same_system}

module _ (may : ℕ → Frame → Step → Type 0) (sys : System) (old : Working) (before : List (Station × List Item)) (new : Working) (after : List (Station × List Item)) where
  works_so : (answer : Stepped) → StepsAs may sys old before answer new after → IsSound may sys old.core → Works may sys old before new after
  works_so Did h sound = h.0
  works_so Memory h sound = h
  works_so Idle (same, board, rest) sound =
      subst (λ (w : Working). Works may sys old before w after) (sym same)
      (subst (λ (b : List (Station × List Item)). Works may sys old before old b) (sym board)
      (works_none may sys old before sound))

  module _ (answer : Stepped) (steps : StepsAs may sys old before answer new after) (sound : IsSound may sys old.core) (others : System) (same : others ≡ sys) where
    pub sound_again : IsSound may others new.core
    sound_again = subst (λ (s : System). IsSound may s new.core) (sym same) (works_so answer steps sound).sound

    pub legal_again : All (IsLegalIn sys) old.outgoing → All (IsLegalIn others) new.outgoing
    legal_again legal =
        let w = works_so answer steps sound in
        let all = subst (All (IsLegalIn sys)) (sym w.went) (All-append (IsLegalIn sys) old.outgoing (sent w.events) legal w.legal) in
        subst (λ (s : System). All (IsLegalIn s) new.outgoing) (sym same) (all_behind (IsLegalIn sys) w.put new.outgoing all)

  pub system_again : (answer : Stepped) → StepsAs may sys old before answer new after → IsSound may sys old.core → (rows : List TableRow) (rules more : List Rules) → sys ≡ system_of old.core rows rules → more ≡ rules → system_of new.core rows more ≡ sys
  system_again answer steps sound rows rules more is same = same_system old.core new.core rows rules more (works_so answer steps sound).rest same ∙ sym is

  pub board_again : (answer : Stepped) → StepsAs may sys old before answer new after → IsSound may sys old.core → (rows : List TableRow) → IsBoardOf rows before → IsBoardOf rows after
  board_again answer steps sound rows h = subst (AreAllStations rows) (sym (works_so answer steps sound).stations) h
