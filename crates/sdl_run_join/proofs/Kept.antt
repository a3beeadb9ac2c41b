-- A worker's own ends stay its own however they were used.
use Rattle.std.proofs.Common.{ℕ, Bool, true, false, cond, List, [], ◌∷◌, map, ◌≡◌, Option, Some, None, option_map, refl, ap, sym, ◌∙◌, subst}
use Rattle.std.proofs.lemmas.Option.{none-some, same_Some}
use Rattle.std.specs.List.{AllByRecursion}
use Rattle.sdl_routes.specs.declared.route.Station.{Station}
use Rattle.sdl_queue.specs.Ends.{Opening, TapEnd}
use Rattle.sdl_forward_ends.specs.Ends.{WorkerEnds, feed_identity, tap_identity, IsSameEnds}
use Rattle.sdl_forward_opening.specs.declared.worker.Worker.{Worker}
use Rattle.sdl_forward_opening.specs.Workers.{Among, same_worker}
use Rattle.sdl_forward_opening.specs.Opens.{AreOwnEnds, ends_of}
use Rattle.sdl_forward_opening.specs.Used.{AreUsed}
use Rattle.sdl_run_outcome.proofs.Lists.{all_map}

pub all_unmap : {X Y : Type 0} (P : Y → Type 0) (f : X → Y) (xs : List X) → AllByRecursion P (map f xs) → AllByRecursion (λ x. P (f x)) xs
all_unmap P f [] h = tt
all_unmap P f (x ∷ xs) h = (h.0, all_unmap P f xs h.1)

either : (b : Bool) (x y p q : WorkerEnds) → IsSameEnds x y → IsSameEnds p q → IsSameEnds (cond b x p) (cond b y q)
either true x y p q h k = h
either false x y p q h k = k

-- they are the same ends, worker by worker
same_ends : (ws : List Worker) (all now : List WorkerEnds) (w : Worker) → AreUsed all now → IsSameEnds (ends_of ws all w) (ends_of ws now w)
same_ends [] all now w u = record { feeds = refl; tap = refl }
same_ends (v ∷ vs) [] [] w u = record { feeds = refl; tap = refl }
same_ends (v ∷ vs) [] (y ∷ now) w u = absurd u
same_ends (v ∷ vs) (x ∷ all) [] w u = absurd u
same_ends (v ∷ vs) (x ∷ all) (y ∷ now) w u = either (same_worker v w) x y (ends_of vs all w) (ends_of vs now w) u.0 (same_ends vs all now w u.1)

-- the tap is of the same station
tap_kept : (o p : Option (Station × TapEnd)) (t : Station × TapEnd) → option_map tap_identity p ≡ option_map tap_identity o → p ≡ Some t → (u : Station × TapEnd) × (o ≡ Some u) × (u.0 ≡ t.0)
tap_kept None p t e at = absurd (none-some (tap_identity t) (sym e ∙ ap (option_map tap_identity) at))
tap_kept (Some u) p t e at = (u, refl, ap (λ (m : Station × (Opening × ℕ)). m.0) (same_Some (tap_identity u) (tap_identity t) (sym e ∙ ap (option_map tap_identity) at)))

own_kept : (stations : List Station) (w : Worker) (e f : WorkerEnds) → IsSameEnds e f → AreOwnEnds stations w e → AreOwnEnds stations w f
own_kept stations w e f same own =
    record {
      tap = λ t at.
          let u = tap_kept e.tap f.tap t same.tap at in
          let p = own.tap u.0 u.1 in
          (sym u.2 ∙ p.0, subst (λ (s : Station). Among s stations) u.2 p.1);
      feeds = all_unmap (λ (m : Station × (Opening × ℕ)). Among m.0 stations) feed_identity f.feeds
          (subst (AllByRecursion (λ (m : Station × (Opening × ℕ)). Among m.0 stations)) (sym same.feeds) (all_map (λ (m : Station × (Opening × ℕ)). Among m.0 stations) feed_identity e.feeds own.feeds));
    }

pub stay_own : (stations : List Station) (ws : List Worker) (all now : List WorkerEnds) → AreUsed all now → ((w : Worker) → AreOwnEnds stations w (ends_of ws all w)) → (w : Worker) → AreOwnEnds stations w (ends_of ws now w)
stay_own stations ws all now used own w = own_kept stations w (ends_of ws all w) (ends_of ws now w) (same_ends ws all now w used) (own w)
