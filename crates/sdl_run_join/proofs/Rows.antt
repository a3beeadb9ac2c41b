-- Two blocks that put into one queue: what is left there, and what is not.
use Rattle.std.proofs.Common.{ℕ, zero, suc, [], ◌∷◌, ◌++◌, ◌≡◌, Some, refl, subst, arith}
use Rattle.std.proofs.lemmas.Option.{none-some, same_Some}
use Rattle.sdl_signal.specs.declared.values.Item.{Item}
use Rattle.sdl_routes.specs.declared.route.Station.TheVariants.{Outlet}
use Rattle.sdl_queue.specs.DelayLine.{items_by}
use Rattle.sdl_forward_ends.specs.Ends.{put_at, number_at}
use Rattle.sdl_forward_opening.specs.declared.worker.Worker.{Worker}
use Rattle.sdl_forward_opening.specs.declared.worker.Worker.TheVariants.{Block, Environment, Forwarder}
use Rattle.sdl_run_join.specs.Lanes.{IsLane}
use Rattle.sdl_run_join.specs.Rows.{tagged, block_ends, two_feeders, with_left}

fed_block : (i j : Item) (k n : ℕ) → number_at (block_ends i j k) Outlet ≡ Some n → put_at (block_ends i j k) Outlet ≡ items_by n (tagged 1 j ∷ []) ++ items_by n (tagged 0 i ∷ [])
fed_block i j zero n e = subst (λ (m : ℕ). i ∷ [] ≡ items_by m (tagged 1 j ∷ []) ++ items_by m (tagged 0 i ∷ [])) (same_Some 0 n e) refl
fed_block i j (suc zero) n e = subst (λ (m : ℕ). j ∷ [] ≡ items_by m (tagged 1 j ∷ []) ++ items_by m (tagged 0 i ∷ [])) (same_Some 1 n e) refl
fed_block i j (suc (suc k)) n e = absurd (none-some n e)

fed : (i j : Item) (w : Worker) (n : ℕ) → number_at (two_feeders i j w) Outlet ≡ Some n → put_at (two_feeders i j w) Outlet ≡ items_by n (tagged 1 j ∷ []) ++ items_by n (tagged 0 i ∷ [])
fed i j (Block b) n e = fed_block i j b.0 n e
fed i j Environment n e = absurd (none-some n e)
fed i j (Forwarder h) n e = absurd (none-some n e)

pub one_left : (i j : Item) → IsLane (two_feeders i j) Outlet (with_left j (tagged 0 i ∷ []))
one_left i j = record { tapped = refl; fed = fed i j; by = ((Block (record { 0 = 1 }), refl), ((Block (record { 0 = 0 }), refl), tt)) }

pub one_lost : (i j : Item) → IsLane (two_feeders i j) Outlet (with_left j []) → ⊥
one_lost i j h = let e : i ∷ [] ≡ [] = h.fed (Block (record { 0 = 0 })) 0 refl in cc

no_third : (i j : Item) (k : ℕ) → number_at (block_ends i j k) Outlet ≡ Some 2 → ⊥
no_third i j zero e = let same = same_Some 0 2 e in omega (arith, same)
no_third i j (suc zero) e = let same = same_Some 1 2 e in omega (arith, same)
no_third i j (suc (suc k)) e = none-some 2 e

third_at : (i j : Item) (w : Worker) → number_at (two_feeders i j w) Outlet ≡ Some 2 → ⊥
third_at i j (Block b) e = no_third i j b.0 e
third_at i j Environment e = none-some 2 e
third_at i j (Forwarder h) e = none-some 2 e

pub one_more : (i j k : Item) → IsLane (two_feeders i j) Outlet (with_left j (tagged 0 i ∷ tagged 2 k ∷ [])) → ⊥
one_more i j k h = let w = h.by.1.1.0 in third_at i j w.0 w.1
