-- What stands when all threads are joined is what stands between two steps of one thread.
use Rattle.std.proofs.Common.{ℕ, List, [], ◌∷◌, ◌≡◌, Option, Some, None, slice_get, refl, inl, inr, ap, sym, ◌∙◌, subst}
use Rattle.std.specs.Option.{option_to_list}
use Rattle.std.specs.List.{AllByRecursion}
use Rattle.sdl_signal.specs.declared.values.Item.{Item}
use Rattle.sdl_routes.specs.declared.route.Station.{Station}
use Rattle.sdl_routes.specs.declared.route.Station.TheVariants.{Line, Outlet}
use Rattle.sdl_transition_behaviour.specs.declared.step.Frame.{Frame}
use Rattle.sdl_transition_behaviour.specs.declared.step.Step.{Step}
use Rattle.sdl_queue.specs.Ends.{Account}
use Rattle.sdl_instances.specs.Run.{sent}
use Rattle.sdl_block_hand.specs.Work.{Working}
use Rattle.sdl_forward_opening.specs.declared.worker.Worker.{Worker}
use Rattle.sdl_forward_opening.specs.declared.worker.Worker.TheVariants.{Block, Environment, Forwarder}
use Rattle.sdl_forward_opening.specs.Workers.{IsAgent, Among}
use Rattle.sdl_run_outcome.specs.Books.{Books, InOrder, standing}
use Rattle.sdl_run_outcome.specs.Plan.{Plan, IsPlan, MayTravel, ways_of}
use Rattle.sdl_run_outcome.specs.EnvironmentWork.{ComesIn, GoesOut, env_sent}
use Rattle.sdl_run_order.specs.Driver.{Site, site_books, kept_by, IsAtWork}
use Rattle.sdl_run_outcome.proofs.Lists.{all_front, all_end, all_weaker}
use Rattle.sdl_run_order.proofs.Starts.{block, run_starts}
use Rattle.sdl_run_order.proofs.Quiet.{passing, route_at, station_cases, last_outlet}
use Rattle.sdl_run_outcome.proofs.Ways.{ways_are}
use Rattle.sdl_forward_ends.specs.Ends.{WorkerEnds}
use Rattle.sdl_run_join.specs.Joins.{HasPut, given, pending, Joined, kept_with, IsJoined}
use Rattle.sdl_run_join.proofs.Order.{keeps_order}
use Rattle.sdl_run_join.proofs.Legal.{standing_all}
use Rattle.sdl_run_order.proofs.StepEnvironment.{comes_starts}

-- what waits on a route through the outlet goes out
goes_out : (plan : Plan) → IsPlan plan → (i : Item) → Among Outlet ((ways_of plan).stations i.route.0) → GoesOut plan.routes i
goes_out plan ok i m =
    let r = passing plan ok i.route.0 Outlet m in
    elim (station_cases plan ok Outlet r.0 (route_at plan ok i.route.0 r.0 r.1) r.2) [
      | inl l ↦ absurd (let e : Outlet ≡ Line l.0 = l.2 in cc)
      | inr h ↦ (let g = last_outlet plan ok r.0.route.end h in (r.0, g.0, r.1, g.1))
    ]

module _ (may : ℕ → Frame → Step → Type 0) (plan : Plan) (site : Site) (astray : Option Item) (ends : Worker → WorkerEnds) (accounts : Station → Account) (ok : IsPlan plan) (j : IsJoined may plan site astray ends accounts) where
  -- the books, with what went astray
  abbrev books : Books
  books = record { sent = (site_books site).sent; arrived = (site_books site).arrived; kept = kept_with site astray; outgoing = (site_books site).outgoing; rest = (site_books site).rest }

  starts_block : (n : ℕ) (o : Option Working) → slice_get site.blocks n ≡ o
      → AllByRecursion (λ (i : Item). (ways_of plan).start i.route.0 ≡ Block (block n)) (elim o as (λ _. List Item) [ None ↦ [] | Some w ↦ sent w.core.log ])
  unfolding block
  starts_block n None at = tt
  starts_block n (Some w) at = let c = j.cores n w at in run_starts may plan n w.core c.block c.sound

  starts : (w : Worker) → IsAgent w → AllByRecursion (λ (i : Item). (ways_of plan).start i.route.0 ≡ w) ((site_books site).sent w)
  unfolding block
  starts (Block b) a = starts_block b.0 (slice_get site.blocks b.0) refl
  starts Environment a = all_weaker (ComesIn plan.routes) (λ (i : Item). (ways_of plan).start i.route.0 ≡ Environment) (comes_starts plan) (env_sent site.environment.put) j.coming
  starts (Forwarder h) a = absurd a

  went : (w : Worker) → HasPut (ways_of plan) w (given ends books w) (pending books w) (ends w)
  went (Block b) = j.went (Block b)
  went Environment = j.went Environment
  went (Forwarder h) = j.went (Forwarder h)

  joined : Joined (ways_of plan) ends accounts books
  joined = record { lanes = j.lanes; rests = j.rests; went = went; came = j.came; starts = starts }

  order : InOrder (ways_of plan) books
  order = keeps_order (ways_of plan) ends accounts books (ways_are plan ok) joined

  legal : (s : Station) → AllByRecursion (MayTravel plan) (standing books s)
  legal = standing_all (ways_of plan) books (MayTravel plan) (ways_are plan ok) order j.legal

  pub none_stray : astray ≡ None
  none_stray = nothing astray refl
    where
      nothing : (o : Option Item) → astray ≡ o → o ≡ None
      nothing None e = refl
      nothing (Some i) e =
          let kept : option_to_list astray ≡ i ∷ [] = ap option_to_list e in
          let travels = all_front (MayTravel plan) (option_to_list astray) ((site_books site).rest Outlet) (legal Outlet) in
          let there = all_front (λ (k : Item). Among Outlet ((ways_of plan).stations k.route.0)) (option_to_list astray) ((site_books site).rest Outlet) (order.in_place Outlet) in
          absurd (j.lost i e (subst (AllByRecursion (MayTravel plan)) kept travels).0 (goes_out plan ok i (subst (AllByRecursion (λ (k : Item). Among Outlet ((ways_of plan).stations k.route.0))) kept there).0))

  same_kept : (w : Worker) → kept_with site astray w ≡ kept_by site w
  same_kept (Block b) = refl
  same_kept Environment = ap option_to_list none_stray
  same_kept (Forwarder h) = refl

  same_books : books ≡ site_books site
  same_books = λ k. record { sent = (site_books site).sent; arrived = (site_books site).arrived; kept = λ w. same_kept w k; outgoing = (site_books site).outgoing; rest = (site_books site).rest }

  outgoing_of : (w : Worker) → IsAgent w → pending books w ≡ (site_books site).outgoing w
  outgoing_of (Block b) a = refl
  outgoing_of Environment a = refl
  outgoing_of (Forwarder h) a = absurd a

  given_of : (w : Worker) → IsAgent w → given ends books w ≡ (site_books site).sent w
  given_of (Block b) a = refl
  given_of Environment a = refl
  given_of (Forwarder h) a = absurd a

  pub stands : IsAtWork may plan site
  stands =
      record {
        blocks = j.blocks;
        cores = j.cores;
        environment = j.environment;
        counted = j.counted;
        coming = j.coming;
        forwarders = j.forwarders;
        board = j.board;
        order = subst (InOrder (ways_of plan)) same_books order;
        waiting_legal = λ s. subst (λ (b : Books). AllByRecursion (MayTravel plan) (standing b s)) same_books (legal s);
        outgoing_legal = λ w a. subst (AllByRecursion (MayTravel plan)) (outgoing_of w a)
            (all_end (MayTravel plan) (went w).put (pending books w) (subst (AllByRecursion (MayTravel plan)) (sym (given_of w a) ∙ sym (went w).whole) (j.legal w a)));
      }

pub at_work : (may : ℕ → Frame → Step → Type 0) (plan : Plan) (site : Site) (astray : Option Item) (ends : Worker → WorkerEnds) (accounts : Station → Account) → IsPlan plan → IsJoined may plan site astray ends accounts → IsAtWork may plan site
at_work may plan site astray ends accounts ok j = stands may plan site astray ends accounts ok j

pub none_astray : (may : ℕ → Frame → Step → Type 0) (plan : Plan) (site : Site) (astray : Option Item) (ends : Worker → WorkerEnds) (accounts : Station → Account) → IsPlan plan → IsJoined may plan site astray ends accounts → astray ≡ None
none_astray may plan site astray ends accounts ok j = none_stray may plan site astray ends accounts ok j
