-- A ledger that is added up part by part counts the whole.
use Rattle.std.specs.List.{AllZip}
use Rattle.std.proofs.Common.{◌≡◌, ℕ, zero, suc, ◌+◌, ◌<◌, ◌≤◌, List, [], ◌∷◌, length, map, take, get_or, sum_by, refl, ap, sym, ◌∙◌, subst, arith}
use Rattle.std.proofs.lemmas.List.{take_all}
use Rattle.std.proofs.lemmas.List.Sums.{sum_by-cons, sum_by_more_le}
use Rattle.sdl_signal.specs.declared.values.Item.{Item}
use Rattle.sdl_routes.specs.declared.route.Station.{Station}
use Rattle.sdl_instances_log.specs.declared.event.Event.{Event}
use Rattle.sdl_instances_log.specs.Log.{done_in}
use Rattle.sdl_instances_log.specs.Counts.{AreCountsOf}
use Rattle.sdl_instances_log.specs.declared.counts.Counts.{Counts}
use Rattle.sdl_run_outcome.specs.declared.environment_output.EnvOut.{EnvOut}
use Rattle.sdl_run_ledger.specs.declared.ledger.Ledger.{Ledger}
use Rattle.sdl_run_outcome.specs.Outcome.{Outcome, WorkerHand}
use Rattle.sdl_run_ledger.specs.Counts.{IsLedgerOf, CountsFit, Adds, CanAdd, summed, of_event, of_counts, of_output, of_hand, of_rest, output_by, no_route_by, entered_in, no_instance_in, gone_in, fired_in, implicit_in, stopped_in, items_held, items_at}

pub no_sum : {X : Type 0} (xs : List X) → sum_by (λ x. 0) xs ≡ 0
no_sum [] = refl
no_sum (x ∷ xs) = let a = sum_by-cons (λ (y : _). 0) x xs in let b = no_sum xs in omega arith

pub sum_of_ones : {X : Type 0} (xs : List X) → sum_by (λ x. 1) xs ≡ length xs
sum_of_ones [] = refl
sum_of_ones (x ∷ xs) = let a = sum_by-cons (λ (y : _). 1) x xs in let b = sum_of_ones xs in omega arith

pub sum_map : {X Y : Type 0} (f : Y → ℕ) (g : X → Y) (xs : List X) → sum_by f (map g xs) ≡ sum_by (λ x. f (g x)) xs
sum_map f g [] = refl
sum_map f g (x ∷ xs) =
    let a = sum_by-cons f (g x) (map g xs) in
    let b = sum_by-cons (λ (y : _). f (g y)) x xs in
    let c = sum_map f g xs in
    omega arith

-- what is counted of a log is what its events add, one by one
module _ (log : List Event) (c : Counts) (are : AreCountsOf log c) (old : Ledger) where
  pub counts_fit : CanAdd old (summed of_event log) → CanAdd old (of_counts c)
  counts_fit fits =
      record {
        output = omega (arith, fits.output, are.output);
        no_route = omega (arith, fits.no_route, are.no_route);
        entered = omega (arith, fits.entered, are.entered);
        no_instance = omega (arith, fits.no_instance, are.no_instance);
        gone = omega (arith, fits.gone, are.gone);
        left = let none = no_sum log in omega (arith, fits.left, none);
        fired = omega (arith, fits.fired, are.fired);
        implicit = omega (arith, fits.implicit, are.implicit);
        stopped = omega (arith, fits.stopped, are.stopped);
      }

  pub counts_add : (new : Ledger) → Adds old (of_counts c) new → Adds old (summed of_event log) new
  counts_add new adds =
      let none = no_sum log in
      record {
        output = omega (arith, adds.output, are.output);
        no_route = omega (arith, adds.no_route, are.no_route);
        entered = omega (arith, adds.entered, are.entered);
        no_instance = omega (arith, adds.no_instance, are.no_instance);
        gone = omega (arith, adds.gone, are.gone);
        left = omega (arith, adds.left, none);
        fired = omega (arith, adds.fired, are.fired);
        implicit = omega (arith, adds.implicit, are.implicit);
        stopped = omega (arith, adds.stopped, are.stopped);
        waiting = omega (arith, adds.waiting, none);
        environment = omega (arith, adds.environment, none);
      }

-- what holds of two lists side by side holds at each place
pub zipped_at : {A B : Type 0} (R : A → B → Type 0) (xs : List A) (ys : List B) (k : ℕ) (d : A) (e : B) → AllZip R xs ys → k < length xs → R (get_or xs k d) (get_or ys k e)
zipped_at R [] ys k d e h less = absurd (omega arith)
zipped_at R (x ∷ xs) [] k d e h less = absurd h
zipped_at R (x ∷ xs) (y ∷ ys) zero d e h less = h.0
zipped_at R (x ∷ xs) (y ∷ ys) (suc k) d e h less = zipped_at R xs ys k d e h.1 (omega arith)

-- the ledger before the logs: what the environment received, and what waits
pub record Begins (received held : ℕ) (l : Ledger) : Type 0 where
  pub output : l.output ≡ 0
  pub no_route : l.no_route ≡ 0
  pub entered : l.entered ≡ received
  pub no_instance : l.no_instance ≡ 0
  pub gone : l.gone ≡ 0
  pub left : l.left ≡ 0
  pub fired : l.fired ≡ 0
  pub implicit : l.implicit ≡ 0
  pub stopped : l.stopped ≡ 0
  pub waits : l.waiting ≡ held
  pub environment : l.environment ≡ received

-- nothing was counted yet
abbrev pub IsZero : Ledger → Type 0
IsZero l = (l.output ≡ 0) × ((l.no_route ≡ 0) × ((l.entered ≡ 0) × ((l.no_instance ≡ 0) × ((l.gone ≡ 0) × ((l.left ≡ 0) × ((l.fired ≡ 0) × ((l.implicit ≡ 0) × ((l.stopped ≡ 0) × ((l.waiting ≡ 0) × (l.environment ≡ 0))))))))))

pub begins_with : (received held : ℕ) (l : Ledger) → IsZero l → Begins received held (record l { entered = received; waiting = held; environment = received })
begins_with received held l h =
    record {
      output = h.0;
      no_route = h.1.0;
      entered = refl;
      no_instance = h.1.1.1.0;
      gone = h.1.1.1.1.0;
      left = h.1.1.1.1.1.0;
      fired = h.1.1.1.1.1.1.0;
      implicit = h.1.1.1.1.1.1.1.0;
      stopped = h.1.1.1.1.1.1.1.1.0;
      waits = refl;
      environment = refl;
    }

-- the sum over a part of the logs and over the next one is within the sum over all
part_within : {V : Type 0} (g : V → List Event) (f : List Event → ℕ) (vs : List V) (k : ℕ) (d : V) → k < length vs → sum_by (λ v. f (g v)) (take k vs) + f (g (get_or vs k d)) ≤ sum_by f (map g vs)
part_within g f vs k d less =
    let a = sum_by_more_le (λ (v : _). f (g v)) vs k d less in
    let b = sum_map f g vs in
    omega (arith, a, b)

whole_is : {V : Type 0} (g : V → List Event) (f : List Event → ℕ) (vs : List V) (k : ℕ) → length vs ≤ k → sum_by (λ v. f (g v)) (take k vs) ≡ sum_by f (map g vs)
whole_is g f vs k all = ap (sum_by (λ v. f (g v))) (take_all k vs all) ∙ sym (sum_map f g vs)

-- no event has a count of this kind
none_in : (logs : List (List Event)) → sum_by (λ log. sum_by (λ (e : Event). 0) log) logs ≡ 0
none_in [] = refl
none_in (log ∷ logs) =
    let a = sum_by-cons (λ (l : List Event). sum_by (λ (e : Event). 0) l) log logs in
    let b = no_sum log in
    let c = none_in logs in
    omega arith

module _ {V H Q : Type 0} (g : V → List Event) (h : H → WorkerHand) (q : Q → Station × List Item) (vs : List V) (puts : List EnvOut) (received : List Item) (hands : List H) (rests : List Q) (held : ℕ) where
  abbrev whole : Outcome
  whole = record { logs = map g vs; env_put = puts; env_received = received; hands = map h hands; rests = map q rests }

  abbrev in_logs : List V → Ledger
  in_logs = summed (λ v. summed of_event (g v))

  module _ (fits : CountsFit whole) (first : Ledger) (begins : Begins (length received) held first) where
    pub log_room : (now : Ledger) (k : ℕ) (d : V) (log : List Event) → k < length vs → Adds first (in_logs (take k vs)) now → log ≡ g (get_or vs k d) → CanAdd now (summed of_event log)
    log_room now k d log less adds is =
        let none = none_in (map g vs) in
        subst (λ (es : List Event). CanAdd now (summed of_event es)) (sym is)
        (record {
          output = omega (arith, fits.output, begins.output, adds.output, part_within g (λ es. sum_by (λ e. sum_by output_by (done_in e)) es) vs k d less);
          no_route = omega (arith, fits.no_route, begins.no_route, adds.no_route, part_within g (λ es. sum_by (λ e. sum_by no_route_by (done_in e)) es) vs k d less);
          entered = omega (arith, fits.entered, begins.entered, adds.entered, part_within g (λ es. sum_by entered_in es) vs k d less);
          no_instance = omega (arith, fits.no_instance, begins.no_instance, adds.no_instance, part_within g (λ es. sum_by no_instance_in es) vs k d less);
          gone = omega (arith, fits.gone, begins.gone, adds.gone, part_within g (λ es. sum_by gone_in es) vs k d less);
          left = omega (arith, none, begins.left, adds.left, part_within g (λ es. sum_by (λ (e : Event). 0) es) vs k d less);
          fired = omega (arith, fits.fired, begins.fired, adds.fired, part_within g (λ es. sum_by fired_in es) vs k d less);
          implicit = omega (arith, fits.implicit, begins.implicit, adds.implicit, part_within g (λ es. sum_by implicit_in es) vs k d less);
          stopped = omega (arith, fits.stopped, begins.stopped, adds.stopped, part_within g (λ es. sum_by stopped_in es) vs k d less);
        })

    module _ (k : ℕ) (logged : Ledger) (all : length vs ≤ k) (one : Adds first (in_logs (take k vs)) logged) where
      pub put_room : CanAdd logged (summed of_output puts)
      put_room =
          let none = none_in (map g vs) in
          let zero_put = no_sum puts in
          let each_put = sum_of_ones puts in
          record {
            output = omega (arith, fits.output, begins.output, one.output, whole_is g (λ es. sum_by (λ e. sum_by output_by (done_in e)) es) vs k all, zero_put, each_put);
            no_route = omega (arith, fits.no_route, begins.no_route, one.no_route, whole_is g (λ es. sum_by (λ e. sum_by no_route_by (done_in e)) es) vs k all, zero_put, each_put);
            entered = omega (arith, fits.entered, begins.entered, one.entered, whole_is g (λ es. sum_by entered_in es) vs k all, zero_put, each_put);
            no_instance = omega (arith, fits.no_instance, begins.no_instance, one.no_instance, whole_is g (λ es. sum_by no_instance_in es) vs k all, zero_put, each_put);
            gone = omega (arith, fits.gone, begins.gone, one.gone, whole_is g (λ es. sum_by gone_in es) vs k all, zero_put, each_put);
            left = omega (arith, none, begins.left, one.left, whole_is g (λ es. sum_by (λ (e : Event). 0) es) vs k all, zero_put, each_put);
            fired = omega (arith, fits.fired, begins.fired, one.fired, whole_is g (λ es. sum_by fired_in es) vs k all, zero_put, each_put);
            implicit = omega (arith, fits.implicit, begins.implicit, one.implicit, whole_is g (λ es. sum_by implicit_in es) vs k all, zero_put, each_put);
            stopped = omega (arith, fits.stopped, begins.stopped, one.stopped, whole_is g (λ es. sum_by stopped_in es) vs k all, zero_put, each_put);
          }

      module _ (put : Ledger) (two : Adds logged (summed of_output puts) put) where
        pub hand_room : CanAdd put (summed (λ x. of_hand (h x)) hands)
        hand_room =
            let none = none_in (map g vs) in
            let zero_put = no_sum puts in
            let each_put = sum_of_ones puts in
            let zero_hand = no_sum hands in
            let by_hand = sum_map items_held h hands in
            record {
              output = omega (arith, fits.output, begins.output, one.output, two.output, whole_is g (λ es. sum_by (λ e. sum_by output_by (done_in e)) es) vs k all, zero_put, each_put, zero_hand);
              no_route = omega (arith, fits.no_route, begins.no_route, one.no_route, two.no_route, whole_is g (λ es. sum_by (λ e. sum_by no_route_by (done_in e)) es) vs k all, zero_put, each_put, zero_hand);
              entered = omega (arith, fits.entered, begins.entered, one.entered, two.entered, whole_is g (λ es. sum_by entered_in es) vs k all, zero_put, each_put, zero_hand);
              no_instance = omega (arith, fits.no_instance, begins.no_instance, one.no_instance, two.no_instance, whole_is g (λ es. sum_by no_instance_in es) vs k all, zero_put, each_put, zero_hand);
              gone = omega (arith, fits.gone, begins.gone, one.gone, two.gone, whole_is g (λ es. sum_by gone_in es) vs k all, zero_put, each_put, zero_hand);
              left = omega (arith, none, begins.left, one.left, two.left, whole_is g (λ es. sum_by (λ (e : Event). 0) es) vs k all, zero_put, each_put, zero_hand, fits.left, by_hand);
              fired = omega (arith, fits.fired, begins.fired, one.fired, two.fired, whole_is g (λ es. sum_by fired_in es) vs k all, zero_put, each_put, zero_hand);
              implicit = omega (arith, fits.implicit, begins.implicit, one.implicit, two.implicit, whole_is g (λ es. sum_by implicit_in es) vs k all, zero_put, each_put, zero_hand);
              stopped = omega (arith, fits.stopped, begins.stopped, one.stopped, two.stopped, whole_is g (λ es. sum_by stopped_in es) vs k all, zero_put, each_put, zero_hand);
            }

        module _ (taken : Ledger) (three : Adds put (summed (λ x. of_hand (h x)) hands) taken) where
          pub rest_room : CanAdd taken (summed (λ x. of_rest (q x)) rests)
          rest_room =
              let none = none_in (map g vs) in
              let zero_put = no_sum puts in
              let each_put = sum_of_ones puts in
              let zero_hand = no_sum hands in
              let by_hand = sum_map items_held h hands in
              let zero_rest = no_sum rests in
              let by_rest = sum_map items_at q rests in
              record {
                output = omega (arith, fits.output, begins.output, one.output, two.output, three.output, whole_is g (λ es. sum_by (λ e. sum_by output_by (done_in e)) es) vs k all, zero_put, each_put, zero_hand, zero_rest);
                no_route = omega (arith, fits.no_route, begins.no_route, one.no_route, two.no_route, three.no_route, whole_is g (λ es. sum_by (λ e. sum_by no_route_by (done_in e)) es) vs k all, zero_put, each_put, zero_hand, zero_rest);
                entered = omega (arith, fits.entered, begins.entered, one.entered, two.entered, three.entered, whole_is g (λ es. sum_by entered_in es) vs k all, zero_put, each_put, zero_hand, zero_rest);
                no_instance = omega (arith, fits.no_instance, begins.no_instance, one.no_instance, two.no_instance, three.no_instance, whole_is g (λ es. sum_by no_instance_in es) vs k all, zero_put, each_put, zero_hand, zero_rest);
                gone = omega (arith, fits.gone, begins.gone, one.gone, two.gone, three.gone, whole_is g (λ es. sum_by gone_in es) vs k all, zero_put, each_put, zero_hand, zero_rest);
                left = omega (arith, none, begins.left, one.left, two.left, three.left, whole_is g (λ es. sum_by (λ (e : Event). 0) es) vs k all, zero_put, each_put, zero_hand, zero_rest, fits.left, by_hand, by_rest);
                fired = omega (arith, fits.fired, begins.fired, one.fired, two.fired, three.fired, whole_is g (λ es. sum_by fired_in es) vs k all, zero_put, each_put, zero_hand, zero_rest);
                implicit = omega (arith, fits.implicit, begins.implicit, one.implicit, two.implicit, three.implicit, whole_is g (λ es. sum_by implicit_in es) vs k all, zero_put, each_put, zero_hand, zero_rest);
                stopped = omega (arith, fits.stopped, begins.stopped, one.stopped, two.stopped, three.stopped, whole_is g (λ es. sum_by stopped_in es) vs k all, zero_put, each_put, zero_hand, zero_rest);
              }

          pub counted : (rested : Ledger) → Adds taken (summed (λ x. of_rest (q x)) rests) rested → IsLedgerOf whole held rested
          counted rested four =
              let none = none_in (map g vs) in
              let zero_put = no_sum puts in
              let each_put = sum_of_ones puts in
              let zero_hand = no_sum hands in
              let by_hand = sum_map items_held h hands in
              let zero_rest = no_sum rests in
              let by_rest = sum_map items_at q rests in
              record {
                output = omega (arith, none, begins.output, one.output, two.output, three.output, four.output, whole_is g (λ es. sum_by (λ e. sum_by output_by (done_in e)) es) vs k all, zero_put, each_put, zero_hand, zero_rest);
                no_route = omega (arith, none, begins.no_route, one.no_route, two.no_route, three.no_route, four.no_route, whole_is g (λ es. sum_by (λ e. sum_by no_route_by (done_in e)) es) vs k all, zero_put, each_put, zero_hand, zero_rest);
                entered = omega (arith, none, begins.entered, one.entered, two.entered, three.entered, four.entered, whole_is g (λ es. sum_by entered_in es) vs k all, zero_put, each_put, zero_hand, zero_rest);
                no_instance = omega (arith, none, begins.no_instance, one.no_instance, two.no_instance, three.no_instance, four.no_instance, whole_is g (λ es. sum_by no_instance_in es) vs k all, zero_put, each_put, zero_hand, zero_rest);
                gone = omega (arith, none, begins.gone, one.gone, two.gone, three.gone, four.gone, whole_is g (λ es. sum_by gone_in es) vs k all, zero_put, each_put, zero_hand, zero_rest);
                left = omega (arith, none, begins.left, one.left, two.left, three.left, four.left, whole_is g (λ es. sum_by (λ (e : Event). 0) es) vs k all, zero_put, each_put, zero_hand, zero_rest, by_hand, by_rest);
                fired = omega (arith, none, begins.fired, one.fired, two.fired, three.fired, four.fired, whole_is g (λ es. sum_by fired_in es) vs k all, zero_put, each_put, zero_hand, zero_rest);
                implicit = omega (arith, none, begins.implicit, one.implicit, two.implicit, three.implicit, four.implicit, whole_is g (λ es. sum_by implicit_in es) vs k all, zero_put, each_put, zero_hand, zero_rest);
                stopped = omega (arith, none, begins.stopped, one.stopped, two.stopped, three.stopped, four.stopped, whole_is g (λ es. sum_by stopped_in es) vs k all, zero_put, each_put, zero_hand, zero_rest);
                waiting_is = omega (arith, none, begins.waits, one.waiting, two.waiting, three.waiting, four.waiting, whole_is g (λ es. sum_by (λ (e : Event). 0) es) vs k all, zero_put, each_put, zero_hand, zero_rest);
                environment = omega (arith, none, begins.environment, one.environment, two.environment, three.environment, four.environment, whole_is g (λ es. sum_by (λ (e : Event). 0) es) vs k all, zero_put, each_put, zero_hand, zero_rest);
              }
