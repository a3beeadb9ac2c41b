-- What holds of a core whose call was refused, and of one that keeps all but its log and its state.
use Rattle.std.proofs.Common.{◌≡◌, ℕ, List, subst}
use Rattle.std.specs.Prelude.{Result, IfOk}
use Rattle.sdl_routes.specs.declared.route.TableRow.{TableRow}
use Rattle.sdl_transition_behaviour.specs.declared.step.Frame.{Frame}
use Rattle.sdl_transition_behaviour.specs.declared.step.Step.{Step}
use Rattle.sdl_transition.specs.Rules.{Rules}
use Rattle.sdl_instances.specs.Machine.{System}
use Rattle.sdl_instances.specs.Calls.{LeavesOthers}
use Rattle.sdl_instances.specs.Core.{Core, IsSound, system_of}

-- a core that keeps all but its log and its state works in the same system
pub same_system : (old new : Core) (rows : List TableRow) (rules others : List Rules) → LeavesOthers old new → others ≡ rules → system_of old rows rules ≡ system_of new rows others
same_system old new rows rules others keeps also = let signals = keeps.1 in let sets = keeps.2 in cc (signals, sets, also)

pub sound_in : (may : ℕ → Frame → Step → Type 0) (old new : Core) (rows : List TableRow) (rules others : List Rules) → LeavesOthers old new → others ≡ rules
    → IsSound may (system_of old rows rules) new → IsSound may (system_of new rows others) new
sound_in may old new rows rules others keeps also h = subst (λ (s : System). IsSound may s new) (same_system old new rows rules others keeps also) h

-- what a call answers after a refused one is what it answers where it is the first
pub answers_again : {A E : Type 0} (P : System → Core → A → Type 0) → (old again : Core) (rows : List TableRow) (rules others : List Rules) (r : Result A E) → again ≡ old → others ≡ rules
    → IfOk r (λ x. P (system_of again rows others) again x) → IfOk r (λ x. P (system_of old rows rules) old x)
answers_again P old again rows rules others r same also h =
    subst (λ (l : List Rules). IfOk r (λ x. P (system_of old rows l) old x)) also
    (subst (λ (c : Core). IfOk r (λ x. P (system_of c rows others) c x)) same h)
