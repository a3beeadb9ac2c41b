-- From the parts of a bound system to a driver whose workers have done nothing, and back.
use Rattle.std.proofs.Common.{ℕ, suc, ◌+◌, ◌≤◌, List, [], ◌∷◌, ◌++◌, length, map, All, Vec, vec_len, vec_capacity, ◌≡◌, refl, ap, sym, ◌∙◌, subst, arith, append_assoc}
use Rattle.std.proofs.lemmas.List.{append-nil}
use Rattle.std.specs.List.{AllByRecursion}
use Rattle.sdl_structure_parts.specs.Structure.{Structure}
use Rattle.sdl_routes.specs.declared.route.TableRow.{TableRow}
use Rattle.sdl_transition_behaviour.specs.declared.step.Frame.{Frame}
use Rattle.sdl_transition_behaviour.specs.declared.step.Step.{Step}
use Rattle.sdl_transition.specs.declared.block_parts.BlockParts.{BlockParts}
use Rattle.sdl_transition.specs.Rules.{block_rules}
use Rattle.sdl_instances.specs.declared.block.BlockCore.{BlockCore}
use Rattle.sdl_instances.specs.Core.{Core, IsSound, system_of}
use Rattle.sdl_instances.specs.CoreOf.{core_of, parts_of, system_in}
use Rattle.sdl_block.specs.declared.worker.BlockWorker.{BlockWorker}
use Rattle.sdl_block_hand.specs.Work.{Working, with_core}
use Rattle.sdl_block.specs.Workers.{worker_of, behaviours_of}
use Rattle.sdl_run_serial.specs.Serial.{IsNew, first_core}
use Rattle.sdl_run_driver.proofs.Rooms.{map_push}
use Rattle.sdl_run_outcome.proofs.Lists.{all_append}

pub one_over : {X : Type 0} (done later all : List X) (x : X) (rest fewer : List X) → rest ≡ x ∷ fewer → later ≡ done ++ x ∷ [] → done ++ rest ≡ all → later ++ fewer ≡ all
one_over done later all x rest fewer e h before =
    let a = ap (λ zs. done ++ zs) e in
    let b = append_assoc done (x ∷ []) fewer in
    let d = ap (λ zs. zs ++ fewer) h in
    cc

pub room_for : {X Z : Type 0} (v : Vec X Z) (n m : ℕ) → n ≤ m → vec_len v + m ≤ vec_capacity v → vec_len v + n ≤ vec_capacity v
room_for v n m less h = omega (arith, less, h)

pub nothing : {X : Type 0} (xs : List X) → length xs ≡ 0 → xs ≡ []
nothing [] e = refl
nothing (x ∷ xs) e = absurd (omega (arith, e))

pub none_left : {X : Type 0} (done all rest : List X) → length rest ≡ 0 → done ++ rest ≡ all → done ≡ all
none_left done all rest e h =
    let a = ap (λ zs. done ++ zs) (nothing rest e) in
    let b = append-nil done in
    cc

pub none_left_of : {X Y : Type 0} (f : X → Y) (done all : List Y) (rest : List X) → length rest ≡ 0 → done ++ map f rest ≡ all → done ≡ all
none_left_of f done all rest e h =
    let a = ap (λ zs. done ++ map f zs) (nothing rest e) in
    let b = append-nil done in
    cc

-- one more worker is made of the first of the rest
pub worker_over : {X Y : Type 0} (f : X → Y) (done later : List X) (all : List Y) (w : X) (y : Y) (rest fewer : List Y) → rest ≡ y ∷ fewer → later ≡ done ++ w ∷ [] → f w ≡ y
    → map f done ++ rest ≡ all → map f later ++ fewer ≡ all
worker_over f done later all w y rest fewer e h same before =
    one_over (map f done) (map f later) all y rest fewer e (ap (map f) h ∙ (map_push f done w ∙ ap (λ z. map f done ++ z ∷ []) same)) before

pub all_push : {X : Type 0} (P : X → Type 0) (done later : List X) (w : X) → later ≡ done ++ w ∷ [] → P w → AllByRecursion P done → AllByRecursion P later
all_push P done later w e h all = subst (AllByRecursion P) (sym e) (all_append P done (w ∷ []) all (h, tt))

pub all_fewer : {X : Type 0} (P : X → Type 0) (x : X) (rest fewer : List X) → rest ≡ x ∷ fewer → All P rest → All P fewer
all_fewer P x rest fewer e h = λ n y less. (subst (All P) e h) (suc n) y (omega (arith, less))

pub all_first : {X : Type 0} (P : X → Type 0) (x : X) (rest fewer : List X) → rest ≡ x ∷ fewer → All P rest → P x
all_first P x rest fewer e h = (subst (All P) e h) 0 x (omega arith)

module _ {S K I : Type 0} {F : I → Type 0} {g : _} (may : ℕ → Frame → Step → Type 0) (s : Structure) (budget : ℕ) (p : BlockParts S I F g) (c : BlockCore S K I F g) (w : BlockWorker S K I F g) where
  pub new_parts : behaviours_of w ≡ parts_of c → parts_of c ≡ p → behaviours_of w ≡ p
  new_parts e h = e ∙ h

  pub new_worker : worker_of w ≡ with_core (core_of c) → behaviours_of w ≡ parts_of c → core_of c ≡ first_core s budget p → parts_of c ≡ p → ((routes : List TableRow) → IsSound may (system_in c routes) (core_of c)) → IsNew may s budget w
  new_worker is mine first own sound =
      record {
        worker = is ∙ (ap with_core first ∙ ap (λ (q : BlockParts S I F g). with_core (first_core s budget q)) (sym (mine ∙ own)));
        sound = λ routes.
            subst (λ (x : Core). IsSound may (system_of x routes (block_rules (behaviours_of w))) x) (sym (ap (λ (k : Working). k.core) is))
            (subst (λ (q : BlockParts S I F g). IsSound may (system_of (core_of c) routes (block_rules q)) (core_of c)) (sym mine) (sound routes));
      }

-- where the first of the rest is refused, all parts are still there
pub stopped_here : {X Y : Type 0} (f : X → Y) (done : List X) (rest fewer all : List Y) (p q : Y) → q ≡ p → rest ≡ p ∷ fewer → map f done ++ rest ≡ all → map f done ++ q ∷ fewer ≡ all
stopped_here f done rest fewer all p q e cut before = ap (λ x. map f done ++ x ∷ fewer) e ∙ (ap (λ zs. map f done ++ zs) (sym cut) ∙ before)
