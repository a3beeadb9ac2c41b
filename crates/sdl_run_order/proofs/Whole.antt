-- The headline, from the order along each route and the logs, which are runs.
use Rattle.std.proofs.Common.{ℕ, zero, suc, ◌+◌, ◌<◌, ◌≤◌, List, [], ◌∷◌, ◌++◌, ◌≡◌, arith, Option, Some, slice_get, is_some, unwrap_or, true≢false, ap, sym, ◌∙◌, length, inl, inr, ◌⊎◌, subst}
use Rattle.std.proofs.lemmas.List.{append_assoc}
use Rattle.std.specs.List.{flat_map, AllByRecursion}
use Rattle.sdl_signal.specs.declared.values.Item.{Item}
use Rattle.sdl_signal.specs.declared.values.Origin.{Origin}
use Rattle.sdl_transition_behaviour.specs.declared.step.Frame.{Frame}
use Rattle.sdl_transition_behaviour.specs.declared.step.Step.{Step}
use Rattle.sdl_instances_log.specs.declared.event.Event.{Event}
use Rattle.sdl_instances_log.specs.declared.event.Done.{Done}
use Rattle.sdl_instances_log.specs.declared.event.Done.TheVariants.{Sent, NoRoute, Made}
use Rattle.sdl_instances.specs.Machine.{State}
use Rattle.sdl_instances.specs.Run.{IsStamped, IsNumbered, all_done, origins, origin_by}
use Rattle.sdl_run_outcome.specs.Books.{InOrder}
use Rattle.sdl_run_outcome.specs.Causes.{IsCause}
use Rattle.sdl_run_outcome.specs.Plan.{Plan, IsPlan, ways_of}
use Rattle.sdl_run_outcome.specs.Outcome.{Outcome, IsComplete, IsLawful, AreRunsFrom, books_of, log_at, Headline}
use Rattle.sdl_run_outcome.specs.EnvironmentWork.{env_origins, AreCounted}
use Rattle.sdl_run_outcome.proofs.Along.{no_other}
use Rattle.sdl_run_outcome.proofs.Ways.{ways_are, leads_within}
use Rattle.sdl_run_order.proofs.Stamps.{cause_stamp}

log_at_all : (P : List Event → Type 0) → P [] → (logs : List (List Event)) → AllByRecursion P logs → (n : ℕ) → P (log_at logs n)
log_at_all P none [] h n = none
log_at_all P none (log ∷ logs) h zero = h.0
log_at_all P none (log ∷ logs) h (suc n) = log_at_all P none logs h.1 n

stamped_runs : (may : ℕ → Frame → Step → Type 0) (plan : Plan) (n : ℕ) (logs : List (List Event)) (finals : List State) → AreRunsFrom may plan n logs finals → AllByRecursion (IsStamped 0) logs
stamped_runs may plan n [] [] h = tt
stamped_runs may plan n (log ∷ logs) (s ∷ finals) h = (h.0.stamped, stamped_runs may plan (n + 1) logs finals h.1)
stamped_runs may plan n (log ∷ logs) [] h = absurd h
stamped_runs may plan n [] (s ∷ finals) h = absurd h

no_cycle : (o : Outcome) → AllByRecursion (IsStamped 0) o.logs → (i : Item) → IsCause (log_at o.logs) i i → ⊥
no_cycle o h i e = let less : i.stamp < i.stamp = cause_stamp (log_at o.logs) (log_at_all (IsStamped 0) tt o.logs h) i i e in omega arith

counted_done : (w n : ℕ) (ds : List Done) → IsNumbered w n ds → AreCounted w n (flat_map origin_by ds)
counted_done w n [] h = tt
counted_done w n (Sent i ∷ ds) h = (h.0, h.1, counted_done w (n + 1) ds h.2)
counted_done w n (NoRoute o s ∷ ds) h = (h.0, h.1, counted_done w (n + 1) ds h.2)
counted_done w n (Made p ∷ ds) h = counted_done w n ds h

-- the k-th counted origin has number n + k
counted_at : (w n : ℕ) (os : List Origin) → AreCounted w n os → (k : ℕ) (o : Origin) → slice_get os k ≡ Some o → (o.worker ≡ w) × (o.number ≡ n + k)
counted_at w n [] h k o e = absurd (true≢false (sym (ap is_some e)))
counted_at w n (x ∷ os) h zero o e =
    (sym (ap (λ (q : Option Origin). (unwrap_or q o).worker) e) ∙ h.0, let a = ap (λ (q : Option Origin). (unwrap_or q o).number) e in let b = h.1 in omega arith)
counted_at w n (x ∷ os) h (suc k) o e = let r = counted_at w (n + 1) os h.2 k o e in (r.0, let b = r.1 in omega arith)

split : (xs ys : List Origin) (j : ℕ) (o : Origin) → slice_get (xs ++ ys) j ≡ Some o → (slice_get xs j ≡ Some o) ⊎ ((m : ℕ) × (j ≡ length xs + m) × (slice_get ys m ≡ Some o))
split [] ys j o e = inr (j, omega arith, e)
split (x ∷ xs) ys zero o e = inl e
split (x ∷ xs) ys (suc j) o e = elim (split xs ys j o e) [ inl h ↦ inl h | inr r ↦ inr (r.0, (let p = r.1 in omega arith), r.2) ]

module _ (may : ℕ → Frame → Step → Type 0) (plan : Plan) (env : List Origin) where
  -- the origins of blocks from n on, and of the environment behind them, have workers from n on
  from_worker : (n : ℕ) (logs : List (List Event)) (finals : List State) → AreRunsFrom may plan n logs finals → AreCounted (n + length logs) 0 env → (j : ℕ) (o : Origin) → slice_get (flat_map origins logs ++ env) j ≡ Some o → n ≤ o.worker
  from_worker n [] [] h e j o at = let p = (counted_at (n + 0) 0 env e j o at).0 in omega arith
  from_worker n (log ∷ logs) [] h e j o at = absurd h
  from_worker n [] (s ∷ finals) h e j o at = absurd h
  from_worker n (log ∷ logs) (s ∷ finals) h e j o at =
      elim (split (origins log) (flat_map origins logs ++ env) j o (subst (λ (xs : List Origin). slice_get xs j ≡ Some o) (append_assoc (origins log) (flat_map origins logs) env) at)) [
        | inl a ↦ (let p = (counted_at n 0 (origins log) (counted_done n 0 (all_done log) h.0.numbered) j o a).0 in omega arith)
        | inr b ↦ (let p = from_worker (n + 1) logs finals h.1 (subst (λ (w : ℕ). AreCounted w 0 env) (omega arith) e) b.0 o b.2 in omega arith)
      ]

  once_from : (n : ℕ) (logs : List (List Event)) (finals : List State) → AreRunsFrom may plan n logs finals → AreCounted (n + length logs) 0 env → (j k : ℕ) (o : Origin) → slice_get (flat_map origins logs ++ env) j ≡ Some o → slice_get (flat_map origins logs ++ env) k ≡ Some o → j ≡ k
  once_from n [] [] h e j k o a b = let p = (counted_at (n + 0) 0 env e j o a).1 in let q = (counted_at (n + 0) 0 env e k o b).1 in omega arith
  once_from n (log ∷ logs) [] h e j k o a b = absurd h
  once_from n [] (s ∷ finals) h e j k o a b = absurd h
  once_from n (log ∷ logs) (s ∷ finals) h e j k o a b =
      let here = counted_at n 0 (origins log) (counted_done n 0 (all_done log) h.0.numbered) in
      let e2 : AreCounted (n + 1 + length logs) 0 env = subst (λ (w : ℕ). AreCounted w 0 env) (omega arith) e in
      let behind = from_worker (n + 1) logs finals h.1 e2 in
      let again = once_from (n + 1) logs finals h.1 e2 in
      elim (split (origins log) (flat_map origins logs ++ env) j o (subst (λ (xs : List Origin). slice_get xs j ≡ Some o) (append_assoc (origins log) (flat_map origins logs) env) a)) [
        | inl x ↦ elim (split (origins log) (flat_map origins logs ++ env) k o (subst (λ (xs : List Origin). slice_get xs k ≡ Some o) (append_assoc (origins log) (flat_map origins logs) env) b)) [
          | inl y ↦ (let p = (here j o x).1 in let q = (here k o y).1 in omega arith)
          | inr y ↦ (let p = (here j o x).0 in let q = behind y.0 o y.2 in absurd (omega arith))
        ]
        | inr x ↦ elim (split (origins log) (flat_map origins logs ++ env) k o (subst (λ (xs : List Origin). slice_get xs k ≡ Some o) (append_assoc (origins log) (flat_map origins logs) env) b)) [
          | inl y ↦ (let p = (here k o y).0 in let q = behind x.0 o x.2 in absurd (omega arith))
          | inr y ↦ (let same = again x.0 y.0 o x.2 y.2 in let p = x.1 in let q = y.1 in omega arith)
        ]
      ]

pub headline : (may : ℕ → Frame → Step → Type 0) (plan : Plan) (o : Outcome) (finals : List State) → IsPlan plan → IsComplete plan o → InOrder (ways_of plan) (books_of plan o) → IsLawful may plan o finals → Headline may plan o finals
headline may plan o finals ok complete order law =
    record {
      in_order = λ r less. order.in_order r (leads_within plan ok r less);
      once = once_from may plan (env_origins o.env_put) 0 o.logs finals law.runs (subst (λ (w : ℕ). AreCounted w 0 (env_origins o.env_put)) (sym complete.logs ∙ omega arith) law.environment);
      lawful = law;
      no_other = no_other (ways_of plan) (books_of plan o) (ways_are plan ok) order;
      no_cycle = no_cycle o (stamped_runs may plan 0 o.logs finals law.runs);
    }
