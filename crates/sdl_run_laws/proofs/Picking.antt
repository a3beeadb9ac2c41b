-- What a pick chooses in Spawn and of two routes, and what a schedule names in Echo.
use Rattle.std.proofs.Common.{◌≡◌, ℕ, zero, suc, ◌%◌, List, [], ◌∷◌, get_or, Option, None, refl, inl, inr, lit<, ap, sym, ◌∙◌, subst, true≢false, unwrap_or, is_some, arith}
use Rattle.std.proofs.lemmas.List.Elements.{All-nil}
use Rattle.sdl_signal.specs.declared.ids.SetId.{SetId}
use Rattle.sdl_signal.specs.declared.values.Item.{Item}
use Rattle.sdl_signal.specs.declared.values.Pid.{Pid}
use Rattle.sdl_signal.specs.declared.values.Pid.TheVariants as pid
use Rattle.sdl_routes.specs.declared.route.EndPoint.{EndPoint}
use Rattle.sdl_routes.specs.declared.route.EndPoint.TheVariants as ends
use Rattle.sdl_routes.specs.declared.route.TableRow.{TableRow}
use Rattle.sdl_routes.specs.Routes.{Fits, picked}
use Rattle.sdl_transition_behaviour.specs.Offers.{Conforms, IsActionOf, IsLegalValue}
use Rattle.sdl_instances_log.specs.declared.event.Event.{Event}
use Rattle.sdl_instances_log.specs.declared.event.Event.TheVariants as event
use Rattle.sdl_instances_log.specs.declared.event.Arrival.{Arrival}
use Rattle.sdl_instances_log.specs.declared.event.Arrival.TheVariants as arrival
use Rattle.sdl_instances_processes.specs.Record.{Record}
use Rattle.sdl_instances.specs.Legal.{GoesTo}
use Rattle.sdl_instances.specs.Machine.{State, number_living}
use Rattle.sdl_instances.specs.Core.{IsLivingAt, arrival_event}
use Rattle.sdl_instances.specs.Calls.{IsReadyAt, IsTurnOf}
use Rattle.sdl_instances.specs.Spawn.{spawn, spawn_may, boss, kid, set, fresh, waits, all_started, at_first, starts, start_offer, go_idle, to_kid}
use Rattle.sdl_block.specs.Picks.{ArrivesAt, TurnsAt}
use Rattle.sdl_run_outcome.specs.EnvironmentWork.{wish_for}
use Rattle.sdl_run_environment.specs.EnvPicks.{IsRoutedAt}
use Rattle.sdl_run_driver.specs.Runs.{scheduled}
use Rattle.sdl_run_laws.specs.Echo.{plan}
use Rattle.sdl_run_laws.specs.Picks.{ask, in_state, second_has_it, third_started, two_ways, line, along}

-- the parts of what is compared
abbrev set_in : EndPoint → SetId
set_in (ends.Set s) = s
set_in (ends.Environment g) = set 0

abbrev entered_in : Arrival → Pid
entered_in (arrival.Entered p) = p
entered_in (arrival.Discarded c) = pid.Null

abbrev serial_of : Pid → ℕ
serial_of pid.Null = 0
serial_of pid.Env = 0
serial_of (pid.Inst s n) = n

abbrev item_in : Event → Item
item_in (event.Entered i p) = i
item_in (event.Discarded i c) = i
item_in (event.Turn p t f s d x) = ask

abbrev instance_in : Event → Pid
instance_in (event.Entered i p) = p
instance_in (event.Discarded i c) = pid.Null
instance_in (event.Turn p t f s d x) = p

-- the second Kid is the one at pick 1
second_is : (s : SetId) (p : Pid) → GoesTo spawn.routes ask s → ask.to ≡ None → arrival.Entered (kid 2) ≡ arrival.Entered p
    → IsLivingAt s all_started (1 % number_living s all_started) p
second_is s p (row, at, end) none same =
    let row_is : to_kid 1 ≡ row = ap (λ o. unwrap_or o row) at in
    let set_is : set 1 ≡ s = ap set_in (ap (λ (r : TableRow). r.route.end) row_is ∙ end) in
    let pid_is : kid 2 ≡ p = ap entered_in same in
    subst (λ (t : SetId). IsLivingAt t all_started (1 % number_living t all_started) p) set_is
    (subst (λ (q : Pid). IsLivingAt (set 1) all_started 1 q) pid_is (2, refl, refl, refl))

pub second_enters : ArrivesAt spawn.routes 1 (in_state all_started []) (in_state second_has_it (event.Entered ask (kid 2) ∷ []))
second_enters =
    record {
      item = ask;
      fate = arrival.Entered (kid 2);
      log = refl;
      arrives = (
        (set 1, (to_kid 1, refl, refl), (2, refl), λ q h. absurd (true≢false (sym (ap is_some h)))),
        (waits, record { place = 2; was = refl; living = refl; last = refl }),
      );
      picked = second_is;
    }

-- and the first is not
not_kid_one : IsLivingAt (set 1) all_started 1 (kid 1) → ⊥
not_kid_one (zero, at, of, before) = let n : 0 ≡ 1 = before in omega (arith, n)
not_kid_one (suc zero, at, of, before) = let n : 0 ≡ 1 = before in omega (arith, n)
not_kid_one (suc (suc zero), at, of, before) = let n : 2 ≡ 1 = ap (λ o. serial_of (unwrap_or o boss)) at in omega (arith, n)
not_kid_one (suc (suc (suc n)), at, of, before) = true≢false (sym (ap is_some at))

first_is_not : (i : Item) (fate : Arrival) → event.Entered ask (kid 1) ∷ [] ≡ arrival_event i fate ∷ []
    → ((s : SetId) (p : Pid) → GoesTo spawn.routes i s → i.to ≡ None → fate ≡ arrival.Entered p → IsLivingAt s all_started (1 % number_living s all_started) p) → ⊥
first_is_not i (arrival.Entered p) log picked =
    let item_is : ask ≡ i = ap (λ (l : List Event). item_in (get_or l 0 (starts boss))) log in
    let pid_is : kid 1 ≡ p = ap (λ (l : List Event). instance_in (get_or l 0 (starts boss))) log in
    let goes : GoesTo spawn.routes i (set 1) = subst (λ (x : Item). GoesTo spawn.routes x (set 1)) item_is (to_kid 1, refl, refl) in
    let at = picked (set 1) p goes (ap (λ (x : Item). x.to) (sym item_is)) refl in
    not_kid_one (subst (λ (q : Pid). IsLivingAt (set 1) all_started 1 q) (sym pid_is) at)
first_is_not i (arrival.Discarded c) log picked =
    let n : 1 ≡ 0 = ap (λ (l : List Event). serial_of (instance_in (get_or l 0 (starts boss)))) log in omega (arith, n)

pub first_does_not_enter : (new : State) → ArrivesAt spawn.routes 1 (in_state all_started []) (in_state new (event.Entered ask (kid 1) ∷ [])) → ⊥
first_does_not_enter new h = first_is_not h.item h.fate h.log h.picked

-- the third instance starts
goes_idle : Conforms start_offer go_idle
goes_idle = record { actions = All-nil (IsActionOf start_offer); sorts = refl; values = All-nil (IsLegalValue 2); next = ∣ (0, lit< tt, refl) ∣₁ }

pub third_starts : TurnsAt spawn_may spawn 5 (in_state at_first []) (in_state third_started (starts (kid 2) ∷ []))
third_starts =
    record {
      instance = kid 2;
      event = starts (kid 2);
      ready = (2, (fresh, refl, refl, refl));
      turn = refl;
      next = (
        fresh,
        _,
        (2, refl),
        refl,
        refl,
        refl,
        record {
          allowed = inl (lit< tt, refl);
          conforms = ∣ goes_idle ∣₁;
          acted = at_first;
          actions = refl;
          finish = (fresh, record { place = 2; was = refl; living = refl; last = refl });
        },
      );
      log = refl;
    }

-- and the first does not
not_boss : IsReadyAt at_first 2 boss → ⊥
not_boss (zero, (r, at, ready, before)) = let n : 0 ≡ 2 = before in omega (arith, n)
not_boss (suc zero, (r, at, ready, before)) = let n : 1 ≡ 2 = before in omega (arith, n)
not_boss (suc (suc zero), (r, at, ready, before)) = let n : 2 ≡ 1 = ap (λ (o : Option (Pid × Record)). serial_of (unwrap_or o (boss, r)).0) at in omega (arith, n)
not_boss (suc (suc (suc n)), (r, at, ready, before)) = true≢false (sym (ap is_some at))

pub first_does_not_start : (new : State) → TurnsAt spawn_may spawn 5 (in_state at_first []) (in_state new (starts boss ∷ [])) → ⊥
first_does_not_start new h =
    let event_is : starts boss ≡ h.event = ap (λ (l : List Event). get_or l 0 (starts boss)) h.log in
    let turn : boss ≡ h.instance = subst (λ (e : Event). IsTurnOf h.instance e) (sym event_is) h.turn in
    not_boss (subst (λ (p : Pid). IsReadyAt at_first 2 p) (sym turn) h.ready)

-- both routes fit, and the second is the one at pick 3
fits : Fits (to_kid 1) (wish_for line)
fits = record { signal = refl; start = refl; end = tt; via = tt }

pub takes_second : IsRoutedAt two_ways 3 line (along 1)
takes_second = (0 ∷ 1 ∷ [], inl (fits, (1 ∷ [], refl, inl (fits, ([], refl, refl)))), refl)

pub does_not_take_first : IsRoutedAt two_ways 3 line (along 0) → ⊥
does_not_take_first (fitting, inl (f, (more, same, inl (g, (none, last, end)))), is) =
    let all : fitting ≡ 0 ∷ 1 ∷ [] = same ∙ ap (λ (l : List ℕ). 0 ∷ l) (last ∙ ap (λ (l : List ℕ). 1 ∷ l) end) in
    let n : 0 ≡ 1 = ap (λ (o : Option ℕ). unwrap_or o 0) (is ∙ ap (λ (l : List ℕ). picked l 3) all) in
    omega (arith, n)
does_not_take_first (fitting, inl (f, (more, same, inr (not, rest))), is) = not fits
does_not_take_first (fitting, inr (not, rest), is) = not fits

-- what a schedule names
pub names_pairs : scheduled plan (13 ∷ 0 ∷ 8 ∷ []) ≡ (1, 2) ∷ (0, 0) ∷ (2, 1) ∷ []
names_pairs = refl
