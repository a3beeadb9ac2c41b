-- The run of Echo has ended.
use Rattle.std.proofs.Common.{◌≡◌, ℕ, zero, suc, ◌<◌, ◌⊎◌, inl, inr, Bool, true, false, cond, List, [], ◌∷◌, ◌++◌, length, Option, None, Some, refl, ap, sym, ◌∙◌, subst, lit<, lit≤, true≢false, is_some, unwrap_or, slice_get, Contains, arith}
use Rattle.std.specs.List.{AllByRecursion}
use Rattle.std.proofs.lemmas.Bool.{cond_both}
use Rattle.std.proofs.lemmas.Option.{none-some, same_Some}
use Rattle.sdl_signal.specs.declared.values.Pid.{Pid}
use Rattle.sdl_signal.specs.declared.values.Pid.TheVariants as pid
use Rattle.sdl_signal.specs.declared.values.Item.{Item}
use Rattle.sdl_signal.specs.declared.values.Origin.{Origin}
use Rattle.sdl_routes.specs.declared.route.TableRow.{TableRow}
use Rattle.sdl_routes.specs.declared.route.Station.{Station}
use Rattle.sdl_routes.specs.declared.route.Station.TheVariants as station
use Rattle.sdl_agents.specs.Tables.{EchoMay}
use Rattle.sdl_instances_processes.specs.Ports.{AllSaved}
use Rattle.sdl_instances_processes.specs.Record.{Record, saved_now}
use Rattle.sdl_instances.specs.Machine.{State}
use Rattle.sdl_instances.specs.Run.{IsStamped}
use Rattle.sdl_instances.specs.Core.{IsReady}
use Rattle.sdl_forward.specs.Boards.{same_station, stations_of, waiting, IsStationOf, IsBoardOf}
use Rattle.sdl_forward_opening.specs.declared.worker.Worker.{Worker}
use Rattle.sdl_forward_opening.specs.declared.worker.Worker.TheVariants.{Block, Environment, Forwarder}
use Rattle.sdl_run_outcome.specs.declared.end.RunEnd.TheVariants as run_end
use Rattle.sdl_run_outcome.specs.Stations.{Among, Leads, same_worker, taker}
use Rattle.sdl_run_outcome.specs.Books.{NoOther, outs, came, left, standing}
use Rattle.sdl_run_outcome.specs.Causes.{IsCause}
use Rattle.sdl_run_outcome.specs.Plan.{MayTravel, ways_of}
use Rattle.sdl_run_outcome.specs.Outcome.{IsComplete, Headline, LeftsAreLegal, books_of, all_origins, log_at}
use Rattle.sdl_run_outcome.specs.Ends.{IsQuiet, IsSettled}
use Rattle.sdl_run_outcome.specs.Ring.{block, hop}
use Rattle.sdl_run_outcome.proofs.Comparisons.{same_worker_is}
use Rattle.sdl_run_order.proofs.Stamps.{cause_stamp}
use Rattle.sdl_run_ledger.specs.Counts.{IsLedgerOf, Balances, waiting_in}
use Rattle.sdl_run_driver.specs.Ended.{HasEnded}
use Rattle.sdl_run_laws.specs.Echo.{to_e, to_line, routes, plan, idle}
use Rattle.sdl_run_laws.specs.EchoRun.{ping, pong, instance, final, leaves, rests, ledger}
use Rattle.sdl_run_laws.proofs.Running.{lawful}

-- the board has the stations of both routes, and no other
of_e : (s : Station) → Contains to_e.route.stations.items s → Contains (stations_of (rests [])) s
of_e s (zero, less, at) = (0, lit< tt, at)
of_e s (suc zero, less, at) = (2, lit< tt, at)
of_e s (suc (suc zero), less, at) = (4, lit< tt, at)
of_e s (suc (suc (suc n)), less, at) = absurd (omega (arith, less))

of_line : (s : Station) → Contains to_line.route.stations.items s → Contains (stations_of (rests [])) s
of_line s (zero, less, at) = (3, lit< tt, at)
of_line s (suc zero, less, at) = (1, lit< tt, at)
of_line s (suc (suc zero), less, at) = (5, lit< tt, at)
of_line s (suc (suc (suc n)), less, at) = absurd (omega (arith, less))

every : (s : Station) → IsStationOf routes s → Contains (stations_of (rests [])) s
every s (zero, row, less, at, there) = of_e s (subst (λ (r : TableRow). Contains r.route.stations.items s) (sym at) there)
every s (suc zero, row, less, at, there) = of_line s (subst (λ (r : TableRow). Contains r.route.stations.items s) (sym at) there)
every s (suc (suc n), row, less, at, there) = absurd (omega (arith, less))

only : (s : Station) → Contains (stations_of (rests [])) s → IsStationOf routes s
only s (zero, less, at) = (0, to_e, lit< tt, refl, (0, lit< tt, at))
only s (suc zero, less, at) = (1, to_line, lit< tt, refl, (1, lit< tt, at))
only s (suc (suc zero), less, at) = (0, to_e, lit< tt, refl, (1, lit< tt, at))
only s (suc (suc (suc zero)), less, at) = (1, to_line, lit< tt, refl, (0, lit< tt, at))
only s (suc (suc (suc (suc zero))), less, at) = (0, to_e, lit< tt, refl, (2, lit< tt, at))
only s (suc (suc (suc (suc (suc zero)))), less, at) = (1, to_line, lit< tt, refl, (2, lit< tt, at))
only s (suc (suc (suc (suc (suc (suc n))))), less, at) = absurd (omega (arith, less))

board : IsBoardOf routes (rests [])
board =
    record {
      every = every;
      only = only;
      order =
          ((lit< tt, (lit< tt, (lit< tt, (tt, (tt, tt))))), ((lit< tt, (lit< tt, (tt, (tt, tt)))), ((lit< tt, (tt, (tt, tt))), ((tt, (tt, tt)), ((tt, tt), (tt, tt))))));
    }

pub complete : IsComplete plan leaves
complete = record { logs = refl; hands = refl; rests = board }

-- nothing waits at any station, and no worker keeps anything
none_or : (b : Bool) (ys : List Item) → ys ≡ [] → cond b [] ys ≡ []
none_or b ys none = cond_both b [] ys (λ (xs : List Item). xs ≡ []) (λ t. refl) (λ t. none)

pub nothing_waits : (s : Station) → waiting (rests []) s ≡ []
nothing_waits s =
    none_or (same_station (station.Line (hop 0 false)) s) _ (none_or (same_station (station.Line (hop 0 true)) s) _ (none_or (same_station (station.Line (hop 1 false)) s) _
    (none_or (same_station (station.Line (hop 1 true)) s) _ (none_or (same_station (station.Inlet (block 0)) s) _ (none_or (same_station station.Outlet s) _ refl)))))

nothing_kept : (w : Worker) → (books_of plan leaves).kept w ≡ []
nothing_kept w =
    none_or (same_worker (Block (block 0)) w) _ (none_or (same_worker Environment w) _ (none_or (same_worker (Forwarder (hop 0 false)) w) _
    (none_or (same_worker (Forwarder (hop 0 true)) w) _ (none_or (same_worker (Forwarder (hop 1 false)) w) _ (none_or (same_worker (Forwarder (hop 1 true)) w) _ refl)))))

nothing_stands : (s : Station) → standing (books_of plan leaves) s ≡ []
nothing_stands s = ap (λ (kept : List Item). kept ++ waiting (rests []) s) (nothing_kept (taker s)) ∙ nothing_waits s

lefts : LeftsAreLegal plan leaves
lefts s = subst (AllByRecursion (λ (i : Item). MayTravel plan i × Among s ((ways_of plan).stations i.route.0))) (sym (nothing_stands s)) tt

-- along each route what was output is what came
in_order : (r : ℕ) → r < 2 → outs (ways_of plan) (books_of plan leaves) r ≡ came (ways_of plan) (books_of plan leaves) r ++ left (ways_of plan) (books_of plan leaves) r
in_order zero less = refl
in_order (suc zero) less = refl
in_order (suc (suc r)) less = absurd (omega (arith, less))

-- the two outputs are of two workers
apart : (x : Origin) → (pong 1 7).origin ≡ x → (ping 7).origin ≡ x → ⊥
apart x a b = let n : 0 ≡ 1 = ap (λ (o : Origin). o.worker) (a ∙ sym b) in omega (arith, n)

once : (j k : ℕ) (x : Origin) → slice_get (all_origins leaves) j ≡ Some x → slice_get (all_origins leaves) k ≡ Some x → j ≡ k
once zero zero x a b = refl
once zero (suc zero) x a b = absurd (apart x (same_Some _ x a) (same_Some _ x b))
once (suc zero) zero x a b = absurd (apart x (same_Some _ x b) (same_Some _ x a))
once (suc zero) (suc zero) x a b = refl
once (suc (suc j)) k x a b = absurd (none-some x a)
once zero (suc (suc k)) x a b = absurd (none-some x b)
once (suc zero) (suc (suc k)) x a b = absurd (none-some x b)

-- what arrived came along a route that ends there
leads_there : (r : ℕ) → r < 2 → Leads (ways_of plan) r
leads_there zero less same = let n : 3 ≡ 0 = ap length same in omega (arith, n)
leads_there (suc zero) less same = let n : 3 ≡ 0 = ap length same in omega (arith, n)
leads_there (suc (suc r)) less same = omega (arith, less)

no_other : NoOther (ways_of plan) (books_of plan leaves)
no_other (Block b) agent =
    cond_both (same_worker (Block (block 0)) (Block b)) (ping 7 ∷ []) [] (AllByRecursion (λ (i : Item). Leads (ways_of plan) i.route.0 × ((ways_of plan).finish i.route.0 ≡ Block b)))
    (λ t. ((leads_there 0 (lit< tt), same_worker_is (Block (block 0)) (Block b) t), tt)) (λ f. tt)
no_other Environment agent = ((leads_there 1 (lit< tt), refl), tt)
no_other (Forwarder h) agent = absurd agent

stamped : (n : ℕ) → IsStamped 0 (log_at leaves.logs n)
stamped zero = (tt, (tt, ((refl, tt), tt)))
stamped (suc n) = tt

no_cycle : (i : Item) → IsCause (log_at leaves.logs) i i → ⊥
no_cycle i cause = let less = cause_stamp (log_at leaves.logs) stamped i i cause in omega (arith, less)

pub headline : Headline EchoMay plan leaves (final ∷ [])
headline = record { in_order = in_order; once = once; lawful = lawful; no_other = no_other; no_cycle = no_cycle }

-- E has started, and its port is empty
settled : (r : Record) → instance (Some idle) [] pid.Env ≡ r → ((r.state ≡ None) ⊎ (AllSaved (saved_now r) r.port → ⊥)) → ⊥
settled r same (inl fresh) = true≢false (ap is_some (ap (λ (x : Record). x.state) same ∙ fresh))
settled r same (inr waits) = waits (subst (λ (x : Record). AllSaved (saved_now x) x.port) same tt)

not_ready : (place : ℕ) (p : Pid) (r : Record) → slice_get final.living place ≡ Some (p, r) → ((r.state ≡ None) ⊎ (AllSaved (saved_now r) r.port → ⊥)) → ⊥
not_ready zero p r at why = settled r (ap (λ (o : Option (Pid × Record)). (unwrap_or o (p, r)).1) at) why
not_ready (suc n) p r at why = true≢false (sym (ap is_some at))

at_final : (s : State) (p : Pid) → final ≡ s → IsReady p s → ⊥
at_final s p same (r, (place, at), why) = not_ready place p r (subst (λ (x : State). slice_get x.living place ≡ Some (p, r)) (sym same) at) why

blocks : (b : ℕ) → b < 1 → IsSettled plan leaves (final ∷ []) b
blocks zero less s p at ready = at_final s p (same_Some final s at) ready
blocks (suc b) less s p at ready = omega (arith, less)

pub quiet : IsQuiet plan leaves (final ∷ [])
quiet = record { hands = ((refl, refl), ((refl, refl), ((refl, refl), ((refl, refl), ((refl, refl), ((refl, refl), tt)))))); rests = nothing_waits; blocks = blocks }

pub counts : IsLedgerOf leaves (waiting_in (final ∷ [])) ledger
counts =
    record {
      output = refl;
      no_route = refl;
      entered = refl;
      no_instance = refl;
      gone = refl;
      left = refl;
      fired = refl;
      implicit = refl;
      stopped = refl;
      waiting_is = refl;
      environment = refl;
    }

pub balanced : Balances ledger
balanced = (refl, refl)

pub ended : HasEnded EchoMay plan leaves run_end.Quiet ledger
ended =
    record {
      finals = final ∷ [];
      complete = complete;
      headline = headline;
      ends = quiet;
      within_budget = (lit≤ tt, tt);
      lefts = lefts;
      counts = counts;
      balanced = balanced;
    }
