-- Stations and workers that test as the same are the same.
use Rattle.std.proofs.Common.{true, false, ◌≡◌, ◌≢◌, ◌⊎◌, inl, inr, subst}
use Rattle.std.proofs.lemmas.Bool.{cases_Bool, both_ways}
use Rattle.sdl_forward_opening.specs.declared.worker.Worker.{Worker}
pub use Rattle.sdl_forward.proofs.Same.{same_hop_is, same_hop_itself, same_station_is, same_station_itself, other_station, cases_station}
pub use Rattle.sdl_forward_opening.proofs.Bringing.{same_worker_is, same_worker_itself}
use Rattle.sdl_run_outcome.specs.Stations.{same_worker}

pub cases_worker : (a b : Worker) → (a ≡ b) ⊎ (a ≢ b)
cases_worker a b = elim (cases_Bool (same_worker a b)) [
  | inl e ↦ inl (same_worker_is a b e)
  | inr f ↦ inr (λ e. both_ways (same_worker a b) f (subst (λ (x : Worker). same_worker a x ≡ true) e (same_worker_itself a)))
]

pub other_worker : (v w : Worker) → v ≢ w → same_worker v w ≡ false
other_worker v w n = elim (cases_Bool (same_worker v w)) as (λ _. same_worker v w ≡ false) [ inl t ↦ absurd (n (same_worker_is v w t)) | inr e ↦ e ]
