-- What waits in the ports of all blocks.
use Rattle.std.proofs.Common.{ℕ, suc, ◌+◌, ◌<◌, ◌≤◌, List, length, drop, get_or, map, ◌≡◌, ap, sym, ◌∙◌, subst, arith, add-one, drop-cons, sum_by}
use Rattle.std.proofs.lemmas.List.{drop_all}
use Rattle.std.proofs.lemmas.List.Sums.{sum_by-cons}
use Rattle.sdl_transition_behaviour.specs.declared.step.Frame.{Frame}
use Rattle.sdl_transition_behaviour.specs.declared.step.Step.{Step}
use Rattle.sdl_instances.specs.Machine.{State}
use Rattle.sdl_instances.specs.Run.{waiting}
use Rattle.sdl_block.specs.declared.worker.BlockWorker.{BlockWorker}
use Rattle.sdl_block_hand.specs.Work.{Working}
use Rattle.sdl_block.specs.Workers.{worker_of}
use Rattle.sdl_run_ledger.specs.Counts.{waiting_in}
use Rattle.sdl_run_outcome.specs.Plan.{Plan, IsPlan}
use Rattle.sdl_run_order.specs.Driver.{Site, IsAtWork, outcome_of, finals_of}
use Rattle.sdl_run_driver.proofs.Drives.{map_map}
use Rattle.sdl_run_ledger.proofs.Adding.{sum_map}
use Rattle.sdl_run_ledger.proofs.Balanced.{few_waits}
use Rattle.sdl_run_driver.proofs.Finish.{traced, limited}

-- what waits at a block
abbrev pub at_block : {S K I : Type 0} {F : I → Type 0} {g : _} → BlockWorker S K I F g → ℕ
at_block w = waiting (worker_of w).core.state.living

-- of a list from a place on, the element there and those behind it
pub one_waits : {X : Type 0} (f : X → ℕ) (items slice : List X) → slice ≡ items → (k : ℕ) (x : X) → k < length slice → x ≡ get_or slice k x → sum_by f (drop k items) ≡ f x + sum_by f (drop (k + 1) items)
one_waits f items slice same k x less is =
    let at : k < length items = subst (λ xs. k < length xs) same less in
    let here : x ≡ get_or items k x = subst (λ xs. x ≡ get_or xs k x) same is in
    let a = ap (sum_by f) (drop-cons items k x at) in
    let b = sum_by-cons f (get_or items k x) (drop (suc k) items) in
    let c = ap f here in
    let d : sum_by f (drop (suc k) items) ≡ sum_by f (drop (k + 1) items) = ap (λ (j : ℕ). sum_by f (drop j items)) (sym (add-one k)) in
    omega (arith, a, b, c, d)

pub none_waits : {X : Type 0} (f : X → ℕ) (items slice : List X) → slice ≡ items → (k : ℕ) → length slice ≤ k → sum_by f (drop k items) ≡ 0
none_waits f items slice same k past = ap (sum_by f) (drop_all k items (subst (λ xs. length xs ≤ k) same past))

module _ {S K I : Type 0} {F : I → Type 0} {g : _} (blocks : List (BlockWorker S K I F g)) (site : Site) (same : site.blocks ≡ map worker_of blocks) where
  pub all_wait : waiting_in (finals_of site) ≡ sum_by at_block blocks
  all_wait =
      ap (λ (ws : List Working). sum_by (λ (s : State). waiting s.living) (map (λ (w : Working). w.core.state) ws)) same
      ∙ (ap (λ (ss : List State). sum_by (λ (s : State). waiting s.living) ss) (map_map (λ (w : Working). w.core.state) worker_of blocks)
      ∙ sum_map (λ (s : State). waiting s.living) (λ w. (worker_of w).core.state) blocks)

  pub few_wait : (may : ℕ → Frame → Step → Type 0) (plan : Plan) → IsPlan plan → IsAtWork may plan site → sum_by at_block blocks ≤ 512016384
  few_wait may plan ok work =
      subst (λ (n : ℕ). n ≤ 512016384) all_wait
      (few_waits may plan (outcome_of site) (finals_of site) (traced may plan ok site work) (limited may plan ok site work))
