-- A block's step in terms of the books: it is a step of the agent, and keeps what holds between two steps.
use Rattle.std.proofs.Common.{ℕ, eqb, List, [], ◌∷◌, ◌++◌, set, ◌≡◌, ◌≢◌, ◌⊎◌, inl, inr, Option, Some, None, slice_get, refl, ap, sym, ◌∙◌, subst}
use Rattle.std.specs.Option.{option_to_list, option_and_then}
use Rattle.std.specs.List.{AllByRecursion}
use Rattle.std.proofs.lemmas.Bool.{cases_Bool, eqb-true, eq-eqb, both_ways}
use Rattle.std.proofs.lemmas.Option.{same_Some}
use Rattle.std.proofs.lemmas.List.{append_assoc}
use Rattle.std.proofs.lemmas.List.Elements.{recursion_from_All}
use Rattle.sdl_signal.specs.declared.ids.BlockId.{BlockId}
use Rattle.sdl_signal.specs.declared.values.Item.{Item}
use Rattle.sdl_routes.specs.declared.route.TableRow.{TableRow}
use Rattle.sdl_routes.specs.declared.route.Station.{Station}
use Rattle.sdl_routes.specs.declared.route.Station.TheVariants.{Line, Inlet, Outlet}
use Rattle.sdl_transition_behaviour.specs.declared.step.Frame.{Frame}
use Rattle.sdl_transition_behaviour.specs.declared.step.Step.{Step}
use Rattle.sdl_instances.specs.Run.{arrived, sent}
use Rattle.sdl_forward.specs.Boards.{waiting, AreAllStations}
use Rattle.sdl_forward_opening.specs.declared.worker.Worker.{Worker}
use Rattle.sdl_forward_opening.specs.declared.worker.Worker.TheVariants.{Block, Environment, Forwarder}
use Rattle.sdl_run_outcome.specs.Stations.{IsAgent, first, next, place, taker}
use Rattle.sdl_run_outcome.specs.Books.{standing}
use Rattle.sdl_run_outcome.specs.Steps.{Acts, IsUnchangedAt, bound_for}
use Rattle.sdl_run_outcome.specs.Plan.{Plan, IsPlan, MayTravel, system_at, ways_of}
use Rattle.sdl_block_hand.specs.Work.{Working, Works, beginning_at, first_station, is_station}
use Rattle.sdl_block_hand.proofs.Through.{sent-append, arrived-append}
use Rattle.sdl_run_outcome.specs.EnvironmentWork.{env_sent}
use Rattle.sdl_run_order.specs.Driver.{Site, site_books, of_agent, IsCoreAt, IsAtWork}
use Rattle.sdl_run_outcome.proofs.Lists.{all_front, all_end, all_append, all_filter, filter_agrees, get_set, get_set_other, length_set}
use Rattle.sdl_run_outcome.proofs.Comparisons.{cases_station, cases_worker}
use Rattle.sdl_run_order.proofs.Starts.{block, run_starts}
use Rattle.sdl_run_outcome.proofs.Ways.{ways_are}
use Rattle.sdl_run_order.proofs.Keeps.{acts_keeps}

pub first_row : (o : Option TableRow) → first (elim o as (λ _. List Station) [ None ↦ [] | Some row ↦ row.route.stations.items ]) ≡ option_and_then (λ (row : TableRow). slice_get row.route.stations.items 0) o
first_row None = refl
first_row (Some row) = refl

-- a block's items go to where their routes begin
pub bound_is : (plan : Plan) (b : BlockId) (s : Station) (items : List Item) → bound_for (ways_of plan) (Block b) s items ≡ beginning_at plan.routes s items
bound_is plan b s items =
    filter_agrees (λ (i : Item). is_station s (next (ways_of plan) (Block b) i.route.0)) (λ (i : Item). is_station s (first_station plan.routes i))
    (λ i. ap (is_station s) (first_row (slice_get plan.routes i.route.0))) items

-- what it kept and then took is what it let in and then keeps; what it took was first at its station
lets_in_from : {A : Type 0} (arrived new kept kept' took rest rest' put : List A) → kept ++ took ≡ new ++ kept' → rest ++ put ≡ took ++ rest' → (arrived ++ new) ++ (kept' ++ rest') ≡ (arrived ++ (kept ++ rest)) ++ put
lets_in_from arrived new kept kept' took rest rest' put e f =
    let e1 = append_assoc arrived new (kept' ++ rest') in
    let e2 = append_assoc new kept' rest' in
    let e3 = append_assoc kept took rest' in
    let e4 = append_assoc kept rest put in
    let e5 = append_assoc arrived (kept ++ rest) put in
    cc

same_block : (b : BlockId) (n : ℕ) → b.0 ≡ n → b ≡ block n
unfolding block
same_block b n e = ap (λ (k : ℕ). record { 0 = k }) e

-- what a list of blocks has for one of them, after that one changed
module _ (f : Working → List Item) (env : List Item) (ws : List Working) (n : ℕ) (was is : Working) (before : slice_get ws n ≡ Some was) where
  pub of_block_was : of_agent f env ws (Block (block n)) ≡ f was
  unfolding block
  of_block_was = ap (λ (o : Option Working). elim o as (λ _. List Item) [ None ↦ [] | Some w ↦ f w ]) before

  pub of_block_is : of_agent f env (set ws n is) (Block (block n)) ≡ f is
  unfolding block
  of_block_is = ap (λ (o : Option Working). elim o as (λ _. List Item) [ None ↦ [] | Some w ↦ f w ]) (get_set ws n was is before)

  pub of_block_other : (v : Worker) → v ≢ Block (block n) → of_agent f env (set ws n is) v ≡ of_agent f env ws v
  of_block_other (Block b) h =
      ap (λ (o : Option Working). elim o as (λ _. List Item) [ None ↦ [] | Some w ↦ f w ]) (get_set_other ws n b.0 is (λ e. h (ap Block (same_block b n e))))
  of_block_other Environment h = refl
  of_block_other (Forwarder k) h = refl

module _ (may : ℕ → Frame → Step → Type 0) (plan : Plan) (ok : IsPlan plan) (old : Site) (work : IsAtWork may plan old) (n : ℕ) (was is : Working)
    (before : slice_get old.blocks n ≡ Some was) (board : List (Station × List Item)) (works : Works may (system_at plan n) was old.board is board) where
  abbrev here : Worker
  here = Block (block n)

  -- the driver after the step
  abbrev then : Site
  then = record { blocks = set old.blocks n is; environment = old.environment; forwarders = old.forwarders; board = board }

  at_block : was.core.block ≡ block n
  unfolding block
  at_block = (work.cores n was before).block

  inlet_is : Inlet was.core.block ≡ Inlet (block n)
  inlet_is = ap Inlet at_block

  put_is : (s : Station) → beginning_at plan.routes s works.put ≡ bound_for (ways_of plan) here s works.put
  put_is s = sym (bound_is plan (block n) s works.put)

  steps_sent : (site_books then).sent here ≡ (site_books old).sent here ++ sent works.events
  steps_sent =
      of_block_is (λ (w : Working). sent w.core.log) (env_sent old.environment.put) old.blocks n was is before
      ∙ (ap sent works.log ∙ (sent-append was.core.log works.events
      ∙ ap (λ (xs : List Item). xs ++ sent works.events) (sym (of_block_was (λ (w : Working). sent w.core.log) (env_sent old.environment.put) old.blocks n was is before))))

  pub steps_hand : works.put ++ (site_books then).outgoing here ≡ (site_books old).outgoing here ++ sent works.events
  steps_hand =
      ap (λ (xs : List Item). works.put ++ xs) (of_block_is (λ (w : Working). w.outgoing) old.environment.outgoing old.blocks n was is before)
      ∙ (works.went ∙ ap (λ (xs : List Item). xs ++ sent works.events) (sym (of_block_was (λ (w : Working). w.outgoing) old.environment.outgoing old.blocks n was is before)))

  at_inlet : waiting old.board (Inlet (block n)) ++ bound_for (ways_of plan) here (Inlet (block n)) works.put ≡ works.taken ++ waiting board (Inlet (block n))
  at_inlet =
      ap (λ (xs : List Item). waiting old.board (Inlet (block n)) ++ xs) (sym (put_is (Inlet (block n))))
      ∙ subst (λ (s : Station). waiting old.board s ++ beginning_at plan.routes s works.put ≡ works.taken ++ waiting board s) inlet_is works.inlet

  steps_in : (site_books then).arrived here ++ standing (site_books then) (place here) ≡ ((site_books old).arrived here ++ standing (site_books old) (place here)) ++ bound_for (ways_of plan) here (place here) works.put
  steps_in =
      let a0 = of_block_was (λ (w : Working). arrived w.core.log) old.environment.received old.blocks n was is before in
      let a1 = of_block_is (λ (w : Working). arrived w.core.log) old.environment.received old.blocks n was is before in
      let a2 = ap arrived works.log ∙ arrived-append was.core.log works.events in
      let k0 = of_block_was (λ (w : Working). option_to_list w.kept) [] old.blocks n was is before in
      let k1 = of_block_is (λ (w : Working). option_to_list w.kept) [] old.blocks n was is before in
      let e = lets_in_from (arrived was.core.log) (arrived works.events) (option_to_list was.kept) (option_to_list is.kept) works.taken (waiting old.board (Inlet (block n))) (waiting board (Inlet (block n)))
      (bound_for (ways_of plan) here (Inlet (block n)) works.put) works.came at_inlet in
      cc

  -- elsewhere nothing is kept or let in
  kept_else : (s : Station) → s ≢ Inlet (block n) → (site_books then).kept (taker s) ≡ (site_books old).kept (taker s)
  kept_else (Line h) e = refl
  kept_else (Inlet b) e = of_block_other (λ (w : Working). option_to_list w.kept) [] old.blocks n was is before (Block b) (λ f. e (ap place f))
  kept_else Outlet e = refl

  pub steps_else : (s : Station) → s ≢ Inlet (block n) → standing (site_books then) s ≡ standing (site_books old) s ++ bound_for (ways_of plan) here s works.put
  steps_else s e =
      let k = kept_else s e in
      let r = works.others s (λ f. e (f ∙ inlet_is)) in
      let p = put_is s in
      let a = append_assoc ((site_books old).kept (taker s)) (waiting old.board s) (bound_for (ways_of plan) here s works.put) in
      cc

  pub steps_quiet : (v : Worker) → v ≢ here → IsUnchangedAt v (site_books old) (site_books then)
  steps_quiet v e =
      record {
        sent = of_block_other (λ (w : Working). sent w.core.log) (env_sent old.environment.put) old.blocks n was is before v e;
        arrived = of_block_other (λ (w : Working). arrived w.core.log) old.environment.received old.blocks n was is before v e;
        outgoing = of_block_other (λ (w : Working). w.outgoing) old.environment.outgoing old.blocks n was is before v e;
      }

  starts_here : AllByRecursion (λ (i : Item). (ways_of plan).start i.route.0 ≡ here) (sent works.events)
  starts_here =
      all_end (λ (i : Item). (ways_of plan).start i.route.0 ≡ here) (sent was.core.log) (sent works.events)
      (subst (AllByRecursion (λ (i : Item). (ways_of plan).start i.route.0 ≡ here)) (ap sent works.log ∙ sent-append was.core.log works.events)
      (run_starts may plan n is.core (works.rest.0 ∙ at_block) works.sound))

  pub acts : Acts (ways_of plan) here (site_books old) (site_books then)
  acts =
      record {
        agent = tt;
        new = sent works.events;
        put = works.put;
        sends = steps_sent;
        starts = starts_here;
        hand = steps_hand;
        lets_in = steps_in;
        others = steps_else;
        agents = λ v a e. steps_quiet v e;
      }

  -- what was put, and what is in hand then, may travel
  sent_legal : AllByRecursion (MayTravel plan) (works.put ++ is.outgoing)
  sent_legal =
      subst (AllByRecursion (MayTravel plan)) (sym works.went)
      (all_append (MayTravel plan) was.outgoing (sent works.events)
      (subst (AllByRecursion (MayTravel plan)) (of_block_was (λ (w : Working). w.outgoing) old.environment.outgoing old.blocks n was is before) (work.outgoing_legal here tt))
      (recursion_from_All (MayTravel plan) (sent works.events) works.legal))

  put_legal : (s : Station) → AllByRecursion (MayTravel plan) (bound_for (ways_of plan) here s works.put)
  put_legal s =
      all_filter (MayTravel plan) (λ (i : Item). is_station s (next (ways_of plan) here i.route.0)) works.put
      (all_front (MayTravel plan) works.put is.outgoing sent_legal)

  -- what stood at the inlet, and what came there, may travel
  inlet_legal : AllByRecursion (MayTravel plan) (standing (site_books old) (Inlet (block n)) ++ bound_for (ways_of plan) here (Inlet (block n)) works.put)
  inlet_legal =
      all_append (MayTravel plan) (standing (site_books old) (Inlet (block n))) (bound_for (ways_of plan) here (Inlet (block n)) works.put)
      (work.waiting_legal (Inlet (block n))) (put_legal (Inlet (block n)))

  -- what it had and got is what came in and what is left
  pub inlet_parts : standing (site_books old) (Inlet (block n)) ++ bound_for (ways_of plan) here (Inlet (block n)) works.put ≡ arrived works.events ++ standing (site_books then) (Inlet (block n))
  inlet_parts =
      let k0 = of_block_was (λ (w : Working). option_to_list w.kept) [] old.blocks n was is before in
      let k1 = of_block_is (λ (w : Working). option_to_list w.kept) [] old.blocks n was is before in
      let a0 = append_assoc (option_to_list was.kept) (waiting old.board (Inlet (block n))) (bound_for (ways_of plan) here (Inlet (block n)) works.put) in
      let a1 = append_assoc (option_to_list was.kept) works.taken (waiting board (Inlet (block n))) in
      let a2 = append_assoc (arrived works.events) (option_to_list is.kept) (waiting board (Inlet (block n))) in
      let e1 = works.came in
      let e2 = at_inlet in
      cc

  legal_then : (s : Station) → (s ≡ Inlet (block n)) ⊎ (s ≢ Inlet (block n)) → AllByRecursion (MayTravel plan) (standing (site_books then) s)
  legal_then s (inl e) =
      subst (λ (u : Station). AllByRecursion (MayTravel plan) (standing (site_books then) u)) (sym e)
      (all_end (MayTravel plan) (arrived works.events) (standing (site_books then) (Inlet (block n))) (subst (AllByRecursion (MayTravel plan)) inlet_parts inlet_legal))
  legal_then s (inr e) =
      subst (AllByRecursion (MayTravel plan)) (sym (steps_else s e))
      (all_append (MayTravel plan) (standing (site_books old) s) (bound_for (ways_of plan) here s works.put) (work.waiting_legal s) (put_legal s))

  legal_hand : (w : Worker) → IsAgent w → (w ≡ here) ⊎ (w ≢ here) → AllByRecursion (MayTravel plan) ((site_books then).outgoing w)
  legal_hand w a (inl e) =
      subst (λ (v : Worker). AllByRecursion (MayTravel plan) ((site_books then).outgoing v)) (sym e)
      (subst (AllByRecursion (MayTravel plan)) (sym (of_block_is (λ (k : Working). k.outgoing) old.environment.outgoing old.blocks n was is before)) (all_end (MayTravel plan) works.put is.outgoing sent_legal))
  legal_hand w a (inr e) = subst (AllByRecursion (MayTravel plan)) (sym (steps_quiet w e).outgoing) (work.outgoing_legal w a)

  core_then : IsCoreAt may plan n is.core
  core_then =
      let c = work.cores n was before in
      record {
        block = works.rest.0 ∙ c.block;
        signals = works.rest.1 ∙ c.signals;
        sets = works.rest.2 ∙ c.sets;
        budget = works.rest.3 ∙ c.budget;
        sound = works.sound;
      }

  cores_then : (m : ℕ) (w : Working) → slice_get (set old.blocks n is) m ≡ Some w → IsCoreAt may plan m w.core
  cores_then m w e = elim (cases_Bool (eqb m n)) [
    | inl t ↦ (
        let same : m ≡ n = eqb-true m n t in
        let found : is ≡ w = same_Some is w (sym (get_set old.blocks n was is before) ∙ (ap (slice_get (set old.blocks n is)) (sym same) ∙ e)) in
        subst (λ (k : ℕ). IsCoreAt may plan k w.core) (sym same) (subst (λ (k : Working). IsCoreAt may plan n k.core) found core_then))
    | inr f ↦ work.cores m w (sym (get_set_other old.blocks n m is (λ same. both_ways (eqb m n) f (eq-eqb m n same))) ∙ e)
  ]

  pub block_keeps : IsAtWork may plan then
  block_keeps =
      record {
        blocks = length_set old.blocks n is ∙ work.blocks;
        cores = cores_then;
        environment = work.environment;
        counted = work.counted;
        coming = work.coming;
        forwarders = work.forwarders;
        board = subst (AreAllStations plan.routes) (sym works.stations) work.board;
        order = acts_keeps (ways_of plan) here (site_books old) (site_books then) (ways_are plan ok) work.order acts;
        waiting_legal = λ s. legal_then s (cases_station s (Inlet (block n)));
        outgoing_legal = λ w a. legal_hand w a (cases_worker w here);
      }
