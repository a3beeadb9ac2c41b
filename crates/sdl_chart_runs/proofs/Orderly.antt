-- The lists of a run that has ended are orderly: what arrives was sent, and has a lesser stamp than what its list sends from there on.
use Rattle.std.proofs.Common.{◌≡◌, ◌⊎◌, ℕ, zero, suc, ◌+◌, ◌<◌, ◌≤◌, Bool, true, eqb, List, [], ◌∷◌, ◌++◌, map, map-id, filter, flat_map, length, slice_get, option_and_then, Some, inl, inr, refl, ap, sym, ◌∙◌, subst, arith}
use Rattle.std.proofs.lemmas.Bool.{cond_both, cond-true, eqb-true, eq-eqb, cases_lt}
use Rattle.std.proofs.lemmas.List.Concat.{flat_map-append, flat_map_single}
use Rattle.std.proofs.lemmas.Option.{none-some, same_Some, slice_get_within, option_and_then_some}
use Rattle.sdl_signal.specs.declared.ids.BlockId.{BlockId}
use Rattle.sdl_signal.specs.declared.values.Item.{Item}
use Rattle.sdl_transition_behaviour.specs.declared.step.Frame.{Frame}
use Rattle.sdl_transition_behaviour.specs.declared.step.Step.{Step}
use Rattle.sdl_instances_log.specs.declared.event.Event.{Event}
use Rattle.sdl_instances_log.specs.declared.event.Event.TheVariants as event
use Rattle.sdl_instances_log.specs.Log.{arrived_in, done_in, sent_by, all_done, arrived, sent, IsStamped}
use Rattle.sdl_instances.specs.Machine.{State}
use Rattle.sdl_forward_opening.specs.declared.worker.Worker.{Worker}
use Rattle.sdl_forward_opening.specs.declared.worker.Worker.TheVariants.{Block, Environment, Forwarder}
use Rattle.sdl_forward_opening.proofs.Bringing.{among_left, among_right}
use Rattle.sdl_run_outcome.specs.declared.end.RunEnd.{RunEnd}
use Rattle.sdl_run_outcome.specs.declared.environment_output.EnvOut.{EnvOut}
use Rattle.sdl_run_outcome.specs.EnvironmentWork.{env_sent}
use Rattle.sdl_run_outcome.specs.Stations.{Leads, IsAgent, Among, same_worker}
use Rattle.sdl_run_outcome.specs.Books.{outs, came, left}
use Rattle.sdl_run_outcome.specs.Causes.{Precedes, direct}
use Rattle.sdl_run_outcome.specs.Plan.{Plan, blocks_from, lines_of, workers_of, ways_of}
use Rattle.sdl_run_outcome.specs.Outcome.{Outcome, IsComplete, Headline, AreRunsFrom, of_worker, books_of}
use Rattle.sdl_run_outcome.proofs.Ways.{row_of}
use Rattle.sdl_run_ledger.specs.declared.ledger.Ledger.{Ledger}
use Rattle.sdl_forward_opening.proofs.Bringing.{among_cases}
use Rattle.sdl_run_order.proofs.Stamps.{among_all, cause_stamp}
use Rattle.sdl_run_driver.specs.Ended.{HasEnded}
use Rattle.sdl_chart_page.specs.Entries.{Entry, entry_of_event, entry_of_receipt, entry_of_output, entries, entry_at}
use Rattle.sdl_chart_page.specs.Pages.{IsSentIn, AreOrderly}
use Rattle.sdl_chart_runs.specs.Charts.{entries_left}

-- an element of a list, and its place
among_at : {X : Type 0} (xs : List X) (k : ℕ) (x : X) → slice_get xs k ≡ Some x → Among x xs
among_at [] k x at = absurd (none-some x at)
among_at (y ∷ ys) zero x at = inl (sym (same_Some y x at))
among_at (y ∷ ys) (suc k) x at = inr (among_at ys k x at)

place_of : {X : Type 0} (xs : List X) (x : X) → Among x xs → (k : ℕ) × (slice_get xs k ≡ Some x)
place_of [] x m = absurd m
place_of (y ∷ ys) x m = elim m [ inl e ↦ (zero, ap Some (sym e)) | inr n ↦ (let r = place_of ys x n in (suc r.0, r.1)) ]

-- a filter keeps what passes its test, and adds nothing
among_kept : {X : Type 0} (test : X → Bool) (x : X) (xs : List X) → test x ≡ true → Among x xs → Among x (filter test xs)
among_kept test x [] t m = m
among_kept {X} test x (y ∷ ys) t m = elim m [
  | inl e ↦ subst (λ (zs : List X). Among x zs) (sym (cond-true (test y) (y ∷ filter test ys) (filter test ys) (ap test (sym e) ∙ t))) (inl e)
  | inr n ↦ (
      let more = among_kept test x ys t n in
      cond_both (test y) (y ∷ filter test ys) (filter test ys) (λ (zs : List X). Among x zs) (λ p. inr more) (λ p. more))
]

among_unfiltered : {X : Type 0} (test : X → Bool) (x : X) (xs : List X) → Among x (filter test xs) → Among x xs
among_unfiltered test x [] m = m
among_unfiltered {X} test x (y ∷ ys) m =
    cond_both (test y) (y ∷ filter test ys) (filter test ys) (λ (zs : List X). Among x zs → Among x (y ∷ ys))
    (λ p a. elim a [ inl e ↦ inl e | inr n ↦ inr (among_unfiltered test x ys n) ])
    (λ p a. inr (among_unfiltered test x ys a)) m

among_one : (i : Item) (xs : List Item) → xs ≡ i ∷ [] → Among i xs
among_one i xs one = subst (λ (ys : List Item). Among i ys) (sym one) (inl refl)

none_or_one : (i : Item) (xs : List Item) → xs ≡ [] → xs ≡ i ∷ [] → ⊥
none_or_one i xs none one = cc

-- what is read of one event is among what is read of all
all_read : {X : Type 0} (f : X → Entry) (read : Entry → List Item) (xs : List X) (n : ℕ) (e : Entry) (i : Item) → slice_get (map f xs) n ≡ Some e → Among i (read e) → Among i (flat_map (λ (x : X). read (f x)) xs)
all_read f read [] n e i at m = absurd (none-some e at)
all_read {X} f read (x ∷ xs) zero e i at m =
    among_left i (read (f x)) (flat_map (λ (y : X). read (f y)) xs) (subst (λ (y : Entry). Among i (read y)) (sym (same_Some (f x) e at)) m)
all_read {X} f read (x ∷ xs) (suc n) e i at m = among_right i (read (f x)) (flat_map (λ (y : X). read (f y)) xs) (all_read f read xs n e i at m)

-- what holds of each event holds of the one of a number
each_of : {X : Type 0} (f : X → Entry) (P : Entry → Type 0) → ((x : X) → P (f x)) → (xs : List X) (n : ℕ) (e : Entry) → slice_get (map f xs) n ≡ Some e → P e
each_of f P h [] n e at = absurd (none-some e at)
each_of f P h (x ∷ xs) zero e at = subst P (same_Some (f x) e at) (h x)
each_of f P h (x ∷ xs) (suc n) e at = each_of f P h xs n e at

-- the event of one list that sends the item
record IsSentAt (es : List Entry) (i : Item) : Type 0 where
  pub number : ℕ
  pub entry : Entry
  pub index : ℕ
  pub at : slice_get es number ≡ Some entry
  pub sends : slice_get entry.sent index ≡ Some i

sent_at : {X : Type 0} (f : X → Entry) (xs : List X) (i : Item) → Among i (flat_map (λ (x : X). (f x).sent) xs) → IsSentAt (map f xs) i
sent_at f [] i m = absurd m
sent_at {X} f (x ∷ xs) i m = elim (among_cases i (f x).sent (flat_map (λ (y : X). (f y).sent) xs) m) [
  | inl a ↦ (let r = place_of (f x).sent i a in record { number = zero; entry = f x; index = r.0; at = refl; sends = r.1 })
  | inr b ↦ (let s = sent_at f xs i b in record { number = suc s.number; entry = s.entry; index = s.index; at = s.at; sends = s.sends })
]

sent_in : (lists : List (List Entry)) (l : ℕ) (es : List Entry) (i : Item) → slice_get lists l ≡ Some es → IsSentAt es i → IsSentIn lists i
sent_in lists l es i here s =
    record {
      list = l;
      number = s.number;
      entry = s.entry;
      index = s.index;
      at = ap (option_and_then (λ (xs : List Entry). slice_get xs s.number)) here ∙ s.at;
      sends = s.sends;
    }

-- what a log sends, event by event
sent_by_events : (log : List Event) → sent log ≡ flat_map (λ (e : Event). (entry_of_event e).sent) log
sent_by_events [] = refl
sent_by_events (e ∷ log) = flat_map-append sent_by (done_in e) (all_done log) ∙ ap (λ (xs : List Item). flat_map sent_by (done_in e) ++ xs) (sent_by_events log)

sent_in_log : (log : List Event) (i : Item) → Among i (sent log) → IsSentAt (map entry_of_event log) i
sent_in_log log i m = sent_at entry_of_event log i (subst (λ (xs : List Item). Among i xs) (sent_by_events log) m)

-- what a block or the environment sends is sent in an event of its list
sent_somewhere : (received : List Item) (put : List EnvOut) (i : Item) (logs : List (List Event)) (n : ℕ) (xs : List Item) → slice_get (map sent logs ++ env_sent put ∷ []) n ≡ Some xs → Among i xs → IsSentIn (entries logs received put) i
sent_somewhere received put i [] zero xs at m =
    sent_in (entries [] received put) (suc zero) (map entry_of_output put) i refl (sent_at entry_of_output put i (subst (λ (ys : List Item). Among i ys) (sym (same_Some (env_sent put) xs at)) m))
sent_somewhere received put i [] (suc n) xs at m = absurd (none-some xs at)
sent_somewhere received put i (log ∷ logs) zero xs at m =
    sent_in (entries (log ∷ logs) received put) zero (map entry_of_event log) i refl (sent_in_log log i (subst (λ (ys : List Item). Among i ys) (sym (same_Some (sent log) xs at)) m))
sent_somewhere received put i (log ∷ logs) (suc n) xs at m =
    let s = sent_somewhere received put i logs n xs at m in
    record { list = suc s.list; number = s.number; entry = s.entry; index = s.index; at = s.at; sends = s.sends }

-- what a worker has is in one of the lists
abbrev IsInOne : Item → List (List Item) → Type 0
IsInOne i xss = (n : ℕ) × (xs : List Item) × (slice_get xss n ≡ Some xs) × Among i xs

in_one : (i : Item) (w : Worker) (ws : List Worker) (xss : List (List Item)) → Among i (of_worker w ws xss) → IsInOne i xss
in_one i w [] xss m = absurd m
in_one i w (v ∷ ws) [] m = absurd m
in_one i w (v ∷ ws) (xs ∷ xss) m =
    cond_both (same_worker v w) xs (of_worker w ws xss) (λ (ys : List Item). Among i ys → IsInOne i (xs ∷ xss))
    (λ t a. (zero, xs, refl, a))
    (λ t a. let r = in_one i w ws xss a in (suc r.0, r.1, r.2, r.3)) m

-- what a block has is its own, and so it is with the environment
block_has : (f : List Event → List Item) (logs : List (List Event)) (n m : ℕ) (b : BlockId) (log : List Event) (vs : List Worker) (yss : List (List Item)) → b.0 ≡ n + m → slice_get logs m ≡ Some log
    → of_worker (Block b) (blocks_from n (length logs) ++ vs) (map f logs ++ yss) ≡ f log
block_has f [] n m b log vs yss e at = absurd (none-some log at)
block_has f (x ∷ logs) n zero b log vs yss e at =
    cond-true (eqb n b.0) (f x) (of_worker (Block b) (blocks_from (n + 1) (length logs) ++ vs) (map f logs ++ yss)) (eq-eqb n b.0 (omega arith)) ∙ ap f (same_Some x log at)
block_has f (x ∷ logs) n (suc m) b log vs yss e at =
    cond_both (eqb n b.0) (f x) (of_worker (Block b) (blocks_from (n + 1) (length logs) ++ vs) (map f logs ++ yss)) (λ (zs : List Item). zs ≡ f log)
    (λ t. let same = eqb-true n b.0 t in absurd (omega arith)) (λ t. block_has f logs (n + 1) m b log vs yss (omega arith) at)

environment_has : (f : List Event → List Item) (logs : List (List Event)) (n : ℕ) (vs : List Worker) (ys : List Item)
    → of_worker Environment (blocks_from n (length logs) ++ Environment ∷ vs) (map f logs ++ ys ∷ []) ≡ ys
environment_has f [] n vs ys = refl
environment_has f (x ∷ logs) n vs ys = environment_has f logs (n + 1) vs ys

-- a list is a log, the receipts, or the outputs of the environment
abbrev IsListed : List (List Event) → List Item → List EnvOut → ℕ → List Entry → Type 0
IsListed logs received put l es =
    ((log : List Event) × (slice_get logs l ≡ Some log) × (es ≡ map entry_of_event log))
    ⊎ ((es ≡ map entry_of_receipt received) ⊎ (es ≡ map entry_of_output put))

listed : (logs : List (List Event)) (received : List Item) (put : List EnvOut) (l : ℕ) (es : List Entry) → slice_get (entries logs received put) l ≡ Some es → IsListed logs received put l es
listed [] received put zero es here = inr (inl (sym (same_Some (map entry_of_receipt received) es here)))
listed [] received put (suc zero) es here = inr (inr (sym (same_Some (map entry_of_output put) es here)))
listed [] received put (suc (suc l)) es here = absurd (none-some es here)
listed (log ∷ logs) received put zero es here = inl (log, refl, sym (same_Some (map entry_of_event log) es here))
listed (log ∷ logs) received put (suc l) es here = listed logs received put l es here

-- an event in which an item arrives sends nothing
sends_nothing : (e : Event) (i : Item) → arrived_in e ≡ i ∷ [] → flat_map sent_by (done_in e) ≡ []
sends_nothing (event.Entered j p) i is = refl
sends_nothing (event.Discarded j c) i is = refl
sends_nothing (event.Turn p t frame step did stopped) i is = absurd (none_or_one i [] refl is)

-- what arrives in an event precedes what later ones send
precedes : (log : List Event) (m n : ℕ) (e f : Entry) (i o : Item) → slice_get (map entry_of_event log) m ≡ Some e → e.arrived ≡ i ∷ [] → m < n → slice_get (map entry_of_event log) n ≡ Some f → Among o f.sent → Precedes i o log
precedes [] m n e f i o at is less there sends = absurd (none-some e at)
precedes (x ∷ log) m zero e f i o at is less there sends = absurd (omega arith)
precedes (x ∷ log) zero (suc n) e f i o at is less there sends =
    let came_in : arrived_in x ≡ i ∷ [] = ap (λ (y : Entry). y.arrived) (same_Some (entry_of_event x) e at) ∙ is in
    inl (among_one i (arrived_in x) came_in, subst (λ (xs : List Item). Among o xs) (sym (sent_by_events log)) (all_read entry_of_event (λ (y : Entry). y.sent) log n f o there sends))
precedes (x ∷ log) (suc m) (suc n) e f i o at is less there sends = inr (precedes log m n e f i o at is (omega arith) there sends)

later_in_log : (log : List Event) → IsStamped 0 log → (m n : ℕ) (e f : Entry) (i o : Item) → slice_get (map entry_of_event log) m ≡ Some e → e.arrived ≡ i ∷ [] → m ≤ n → slice_get (map entry_of_event log) n ≡ Some f → Among o f.sent → i.stamp < o.stamp
later_in_log log stamped m n e f i o at is less there sends = elim (cases_lt m n) [
  | inl before ↦ cause_stamp (λ (k : ℕ). log) (λ (k : ℕ). stamped) i o (direct 0 (precedes log m n e f i o at is before there sends))
  | inr over ↦ (
      let same : m ≡ n = omega arith in
      let one : e ≡ f = same_Some e f (sym at ∙ (ap (slice_get (map entry_of_event log)) same ∙ there)) in
      let none : e.sent ≡ [] = each_of entry_of_event (λ (y : Entry). (j : Item) → y.arrived ≡ j ∷ [] → y.sent ≡ []) sends_nothing log m e at i is in
      absurd (subst (λ (xs : List Item). Among o xs) (ap (λ (y : Entry). y.sent) (sym one) ∙ none) sends))
]

module _ (may : ℕ → Frame → Step → Type 0) (plan : Plan) where
  stamped_at : (n : ℕ) (logs : List (List Event)) (finals : List State) → AreRunsFrom may plan n logs finals → (l : ℕ) (log : List Event) → slice_get logs l ≡ Some log → IsStamped 0 log
  stamped_at n [] finals runs l log at = absurd (none-some log at)
  stamped_at n (x ∷ logs) [] runs l log at = absurd runs
  stamped_at n (x ∷ logs) (s ∷ finals) runs zero log at = subst (IsStamped 0) (same_Some x log at) runs.0.stamped
  stamped_at n (x ∷ logs) (s ∷ finals) runs (suc l) log at = stamped_at (n + 1) logs finals runs.1 l log at

module _ (may : ℕ → Frame → Step → Type 0) (plan : Plan) (o : Outcome) (finals : List State) (complete : IsComplete plan o) (headline : Headline may plan o finals) where
  -- what arrived at a block by its log, and at the environment
  arrived_at_block : (l : ℕ) (log : List Event) → slice_get o.logs l ≡ Some log → (books_of plan o).arrived (Block (record { 0 = l })) ≡ arrived log
  arrived_at_block l log at =
      ap (λ (n : ℕ). of_worker (Block (record { 0 = l })) (blocks_from 0 n ++ Environment ∷ map Forwarder (lines_of plan)) (map arrived o.logs ++ o.env_received ∷ [])) (sym complete.logs)
      ∙ block_has arrived o.logs 0 l (record { 0 = l }) log (Environment ∷ map Forwarder (lines_of plan)) (o.env_received ∷ []) (omega arith) at

  arrived_outside : (books_of plan o).arrived Environment ≡ o.env_received
  arrived_outside =
      ap (λ (n : ℕ). of_worker Environment (blocks_from 0 n ++ Environment ∷ map Forwarder (lines_of plan)) (map arrived o.logs ++ o.env_received ∷ [])) (sym complete.logs)
      ∙ environment_has arrived o.logs 0 (map Forwarder (lines_of plan)) o.env_received

  -- what arrived at a worker was sent where its route starts
  sent_at_start : (w : Worker) → IsAgent w → (i : Item) → Among i ((books_of plan o).arrived w) → Among i ((books_of plan o).sent ((ways_of plan).start i.route.0))
  sent_at_start w agent i m =
      let t = ways_of plan in
      let b = books_of plan o in
      let r = i.route.0 in
      let test = λ (x : Item). eqb x.route.0 r in
      let goes = among_all (λ (x : Item). Leads t x.route.0 × (t.finish x.route.0 ≡ w)) i (b.arrived w) (headline.no_other w agent) m in
      let row = row_of plan r goes.0 in
      let at_end : Among i (b.arrived (t.finish r)) = subst (λ (v : Worker). Among i (b.arrived v)) (sym goes.1) m in
      let in_came : Among i (came t b r) = among_kept test i (b.arrived (t.finish r)) (eq-eqb r r refl) at_end in
      let in_order = headline.in_order r (slice_get_within plan.routes r row.0 row.1) in
      let in_outs : Among i (outs t b r) = subst (λ (xs : List Item). Among i xs) (sym in_order) (among_left i (came t b r) (left t b r) in_came) in
      among_unfiltered test i (b.sent (t.start r)) in_outs

  -- an item that arrives in an event arrived at a block or at the environment
  came_to : (l : ℕ) (es : List Entry) → IsListed o.logs o.env_received o.env_put l es → (n : ℕ) (e : Entry) (i : Item) → slice_get es n ≡ Some e → e.arrived ≡ i ∷ []
      → (w : Worker) × IsAgent w × Among i ((books_of plan o).arrived w)
  came_to l es (inl (log, at, are)) n e i found is =
      let there : slice_get (map entry_of_event log) n ≡ Some e = subst (λ (xs : List Entry). slice_get xs n ≡ Some e) are found in
      let m : Among i (arrived log) = all_read entry_of_event (λ (y : Entry). y.arrived) log n e i there (among_one i e.arrived is) in
      (Block (record { 0 = l }), tt, subst (λ (xs : List Item). Among i xs) (sym (arrived_at_block l log at)) m)
  came_to l es (inr (inl are)) n e i found is =
      let there : slice_get (map entry_of_receipt o.env_received) n ≡ Some e = subst (λ (xs : List Entry). slice_get xs n ≡ Some e) are found in
      let m = all_read entry_of_receipt (λ (y : Entry). y.arrived) o.env_received n e i there (among_one i e.arrived is) in
      let singles : flat_map (λ (x : Item). x ∷ []) o.env_received ≡ o.env_received = flat_map_single (λ (x : Item). x) o.env_received ∙ map-id o.env_received in
      (Environment, tt, subst (λ (xs : List Item). Among i xs) (singles ∙ sym arrived_outside) m)
  came_to l es (inr (inr are)) n e i found is =
      let there : slice_get (map entry_of_output o.env_put) n ≡ Some e = subst (λ (xs : List Entry). slice_get xs n ≡ Some e) are found in
      absurd (none_or_one i e.arrived (each_of entry_of_output (λ (y : Entry). y.arrived ≡ []) (λ x. refl) o.env_put n e there) is)

  output_of : (l n : ℕ) (e : Entry) (i : Item) → entry_at (entries_left o) l n ≡ Some e → e.arrived ≡ i ∷ [] → IsSentIn (entries_left o) i
  output_of l n e i at is =
      option_and_then_some (λ (es : List Entry). slice_get es n) (slice_get (entries_left o) l) e at (λ es here found.
      let c = came_to l es (listed o.logs o.env_received o.env_put l es here) n e i found is in
      let s = in_one i ((ways_of plan).start i.route.0) (workers_of plan) (map sent o.logs ++ env_sent o.env_put ∷ []) (sent_at_start c.0 c.1 i c.2) in
      sent_somewhere o.env_received o.env_put i o.logs s.0 s.1 s.2 s.3)

  later_there : (l : ℕ) (es : List Entry) → IsListed o.logs o.env_received o.env_put l es → (m n : ℕ) (e f : Entry) (i j : Item) → slice_get es m ≡ Some e → e.arrived ≡ i ∷ [] → m ≤ n → slice_get es n ≡ Some f → Among j f.sent → i.stamp < j.stamp
  later_there l es (inl (log, at, are)) m n e f i j found is less there sends =
      later_in_log log (stamped_at may plan 0 o.logs finals headline.lawful.runs l log at) m n e f i j (subst (λ (xs : List Entry). slice_get xs m ≡ Some e) are found) is less
      (subst (λ (xs : List Entry). slice_get xs n ≡ Some f) are there) sends
  later_there l es (inr (inl are)) m n e f i j found is less there sends =
      let none = each_of entry_of_receipt (λ (y : Entry). y.sent ≡ []) (λ x. refl) o.env_received n f (subst (λ (xs : List Entry). slice_get xs n ≡ Some f) are there) in
      absurd (subst (λ (xs : List Item). Among j xs) none sends)
  later_there l es (inr (inr are)) m n e f i j found is less there sends =
      absurd (none_or_one i e.arrived (each_of entry_of_output (λ (y : Entry). y.arrived ≡ []) (λ x. refl) o.env_put m e (subst (λ (xs : List Entry). slice_get xs m ≡ Some e) are found)) is)

  later_of : (l m n k : ℕ) (e f : Entry) (i j : Item) → entry_at (entries_left o) l m ≡ Some e → e.arrived ≡ i ∷ [] → m ≤ n → entry_at (entries_left o) l n ≡ Some f → slice_get f.sent k ≡ Some j → i.stamp < j.stamp
  later_of l m n k e f i j at is less there sends =
      option_and_then_some (λ (es : List Entry). slice_get es m) (slice_get (entries_left o) l) e at (λ es here found.
      later_there l es (listed o.logs o.env_received o.env_put l es here) m n e f i j found is less
      (sym (ap (option_and_then (λ (xs : List Entry). slice_get xs n)) here) ∙ there) (among_at f.sent k j sends))

-- the lists that a run leaves
pub orderly : (may : ℕ → Frame → Step → Type 0) (plan : Plan) (o : Outcome) (end : RunEnd) (ledger : Ledger) → HasEnded may plan o end ledger → AreOrderly (entries_left o)
orderly may plan o end ledger h =
    record {
      output = output_of may plan o h.finals h.complete h.headline;
      later = later_of may plan o h.finals h.complete h.headline;
    }
