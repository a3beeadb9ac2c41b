-- What the steps of a block keep where each queue has ends of its own.
use Rattle.std.proofs.Common.{◌≡◌, ℕ, Bool, true, false, Ok, Some, List, [], ◌∷◌, ◌++◌, Option, All, slice_get, option_and_then, refl, ap, sym, ◌∙◌, subst, append_assoc, append-nil, arith}
use Rattle.std.specs.Option.{option_to_list}
use Rattle.std.specs.List.{flat_map}
use Rattle.std.proofs.lemmas.List.Concat.{flat_map-append}
use Rattle.std.proofs.lemmas.List.Elements.{All-nil, All-append, All-weaker}
use Rattle.sdl_signal.specs.declared.ids.BlockId.{BlockId}
use Rattle.sdl_signal.specs.declared.values.Item.{Item}
use Rattle.sdl_routes.specs.declared.route.TableRow.{TableRow}
use Rattle.sdl_routes.specs.declared.route.Station.{Station}
use Rattle.sdl_routes.specs.declared.route.Station.TheVariants as station
use Rattle.sdl_transition_behaviour.specs.declared.step.Frame.{Frame}
use Rattle.sdl_transition_behaviour.specs.declared.step.Step.{Step}
use Rattle.sdl_transition.specs.Rules.{Rules}
use Rattle.sdl_instances_log.specs.declared.event.Event.{Event}
use Rattle.sdl_instances.specs.Machine.{State, System}
use Rattle.sdl_instances.specs.Run.{Leads, arrived, sent, sent_by, done_in, all_done, initial}
use Rattle.sdl_instances.specs.Core.{Core, IsSound, IsBoundIn, IsLegalIn, system_of}
use Rattle.sdl_instances.proofs.Home.{IsHome, IsFromBlock, next_home, run_home}
use Rattle.sdl_forward_ends.specs.Ends.{WorkerEnds, IsSameEnds, HasFeed, put_at, taken_by}
use Rattle.sdl_forward.specs.Queues.{Relations}
use Rattle.sdl_forward.specs.ByEnds.{by_ends, has_feed_still}
use Rattle.sdl_block_hand.specs.declared.hand.Stepped.{Stepped}
use Rattle.sdl_block_hand.specs.declared.hand.Stepped.TheVariants.{Did, Idle, Memory}
use Rattle.sdl_block_hand.specs.Work.{Working, beginning_at, first_station, with_core}
use Rattle.sdl_block_hand.specs.Apart.{WorksApart, IsIdleApart, StepsApart, HasOwnWays, IsPuttingOut, AreFresh, HasPutOut}
use Rattle.sdl_block_hand.specs.PutsBy.{CanPutOut}
use Rattle.sdl_block_hand.proofs.Fronts.{beginning-append}
use Rattle.sdl_block_hand.proofs.Through.{sent-append, arrived-append, all_behind}
use Rattle.sdl_block.specs.Phases.{TriesTurn}
use Rattle.sdl_block.specs.Around.{HasWays, around}
use Rattle.sdl_block.proofs.Going.{Going}
use Rattle.sdl_block.proofs.Parts.{keeps-same}
use Rattle.sdl_block.proofs.Systems.{same_system}

-- what a sound core has sent starts at a set of its block
module _ (may : ℕ → Frame → Step → Type 0) (sys : System) (block : BlockId) (bound : IsBoundIn sys.signals sys.sets sys.rules block) where
  abbrev IsFrom : Item → Type 0
  IsFrom = IsFromBlock sys.sets sys.routes block

  leads_from : (old : State) (log : List Event) (new : State) → All (λ e. IsHome sys.sets block e.0) old.living → Leads may sys old log new → All IsFrom (sent log)
  leads_from old [] new home h = All-nil IsFrom
  leads_from old (e ∷ log) new home (mid, one, rest) =
      let step = next_home may sys block bound old e mid home one in
      subst (All IsFrom) (sym (flat_map-append sent_by (done_in e) (all_done log)))
      (All-append IsFrom (flat_map sent_by (done_in e)) (sent log) step.1 (leads_from mid log new step.0 rest))

sent_from : (may : ℕ → Frame → Step → Type 0) (sys : System) (c : Core) → IsSound may sys c → All (IsFromBlock sys.sets sys.routes c.block) (sent c.log)
sent_from may sys c sound =
    let first : State = initial sys.rules sys.sets c.block in
    let home = run_home may sys c.block sound.bound [] first (record { leads = refl; numbered = tt; stamped = tt }) in
    leads_from may sys c.block sound.bound first c.log c.state home sound.run.leads

-- so it can be put where it goes
module _ {B : Type 0} (q : Relations B) (may : ℕ → Frame → Step → Type 0) (sys : System) where
  sent_ways : (c : Core) (queues : B) → IsSound may sys c → HasWays q sys c.block queues → CanPutOut q sys.routes queues (sent c.log)
  sent_ways c queues sound ways =
      All-weaker (IsFromBlock sys.sets sys.routes c.block) (λ i. (s : Station) → first_station sys.routes i ≡ Some s → q.CanPut queues s)
      (λ i (set, serial, d, row, sender, found, here, at, from). λ s first.
      ways i.route.0 row s at (set, d, from, found, here) (sym (ap (λ (o : Option TableRow). option_and_then (λ r. slice_get r.route.stations.items 0) o) at) ∙ first))
      (sent c.log) (sent_from may sys c sound)

  -- as can what a turn sent
  pub turn_ways : (t : Bool) (old new : Working) (queues : B) → TriesTurn may sys old (Ok t) new → old.outgoing ≡ [] → HasWays q sys old.core.block queues → CanPutOut q sys.routes queues new.outgoing
  turn_ways true old new queues made none ways =
      let all = sent_ways new.core queues made.sound (λ r row s at (set, d, from, found, here) first. ways r row s at (set, d, from, found, here ∙ made.rest.0) first) in
      subst (CanPutOut q sys.routes queues) (sym made.hand)
      (all_behind (λ i. (s : Station) → first_station sys.routes i ≡ Some s → q.CanPut queues s) (sent old.core.log) (sent (made.event ∷ []))
      (subst (CanPutOut q sys.routes queues) (ap sent made.log ∙ sent-append old.core.log (made.event ∷ [])) all))
  turn_ways false old new queues (same, work) none ways =
      subst (CanPutOut q sys.routes queues) (sym (ap (λ (w : Working). w.outgoing) same ∙ none)) (All-nil (λ i. (s : Station) → first_station sys.routes i ≡ Some s → q.CanPut queues s))

  -- a part of a step keeps it
  pub ways_then : (old : Working) (before : B) (new : Working) (after : B) → HasWays q sys old.core.block before → Going may sys (around q sys.routes old.core) 1 old before new after → HasWays q sys new.core.block after
  ways_then old before new after ways g = λ r row s at (set, d, from, found, here) first.
      q.can_still (station.Inlet old.core.block) (λ t. beginning_at sys.routes t g.put) g.taken before after s g.part.moves (ways r row s at (set, d, from, found, here ∙ g.part.rest.0) first)

module _ (may : ℕ → Frame → Step → Type 0) (sys : System) where
  -- what is in hand may travel, and there is a feed for each item
  pub hand_legal : (w : Working) (ends : WorkerEnds) → IsPuttingOut may sys w ends → All (IsLegalIn sys) w.outgoing
  hand_legal w ends k = all_behind (IsLegalIn sys) k.put w.outgoing (subst (All (IsLegalIn sys)) (sym k.whole) k.legal)

  pub hand_ways : (w : Working) (ends : WorkerEnds) → IsPuttingOut may sys w ends → CanPutOut by_ends sys.routes ends w.outgoing
  hand_ways w ends k = all_behind (λ i. (s : Station) → first_station sys.routes i ≡ Some s → HasFeed ends s) k.put w.outgoing (subst (CanPutOut by_ends sys.routes ends) (sym k.whole) (sent_ways by_ends may sys w.core ends k.sound k.ways))

  -- a step keeps it
  pub keeps_on : (old : Working) (before : WorkerEnds) (new : Working) (after : WorkerEnds) → IsPuttingOut may sys old before → WorksApart may sys old before new after → IsSameEnds before after → IsPuttingOut may sys new after
  keeps_on old before new after k w same =
      record {
        sound = w.sound;
        put = k.put ++ w.put;
        whole =
            append_assoc k.put w.put new.outgoing ∙ ap (λ l. k.put ++ l) w.went ∙ sym (append_assoc k.put old.outgoing (sent w.events))
            ∙ ap (λ l. l ++ sent w.events) k.whole ∙ sym (sent-append old.core.log w.events) ∙ ap sent (sym w.log);
        each = λ s. w.puts s ∙ ap (λ l. l ++ beginning_at sys.routes s w.put) (k.each s) ∙ sym (beginning-append sys.routes s k.put w.put);
        came =
            ap (λ l. arrived l ++ option_to_list new.kept) w.log ∙ ap (λ l. l ++ option_to_list new.kept) (arrived-append old.core.log w.events)
            ∙ append_assoc (arrived old.core.log) (arrived w.events) (option_to_list new.kept) ∙ ap (λ l. arrived old.core.log ++ l) (sym w.came)
            ∙ sym (append_assoc (arrived old.core.log) (option_to_list old.kept) w.taken) ∙ ap (λ l. l ++ w.taken) k.came ∙ sym w.takes;
        legal =
            subst (All (IsLegalIn sys)) (sym (ap sent w.log ∙ sent-append old.core.log w.events))
            (All-append (IsLegalIn sys) (sent old.core.log) (sent w.events) k.legal w.legal);
        ways = λ r row s at (set, d, from, found, here) first. has_feed_still before after s same (k.ways r row s at (set, d, from, found, here ∙ w.rest.0) first);
      }

  works_idle : (old : Working) (before after : WorkerEnds) → IsIdleApart old before after → IsSound may sys old.core → WorksApart may sys old before old after
  works_idle old before after idle sound =
      record {
        put = [];
        taken = [];
        events = [];
        one = omega arith;
        takes = idle.taken ∙ sym (append-nil (taken_by before));
        puts = λ s. idle.puts s ∙ sym (append-nil (put_at before s));
        came = append-nil (option_to_list old.kept);
        went = sym (append-nil old.outgoing);
        log = sym (append-nil old.core.log);
        sound = sound;
        rest = keeps-same old.core;
        legal = All-nil (IsLegalIn sys);
        few = omega arith;
      }

  works_any : (answer : Stepped) (old : Working) (before : WorkerEnds) (new : Working) (after : WorkerEnds) → StepsApart may sys old before answer new after → IsSound may sys old.core → WorksApart may sys old before new after
  works_any Did old before new after h sound = h.0
  works_any Memory old before new after h sound = h
  works_any Idle old before new after (same, idle) sound = subst (λ (w : Working). WorksApart may sys old before w after) (sym same) (works_idle old before after idle sound)

  pub keeps_step : (answer : Stepped) (old : Working) (before : WorkerEnds) (new : Working) (after : WorkerEnds) (rows : List TableRow) (rules more : List Rules)
      → StepsApart may sys old before answer new after → IsPuttingOut may sys old before → IsSameEnds before after → sys ≡ system_of old.core rows rules → more ≡ rules
      → IsPuttingOut may (system_of new.core rows more) new after
  keeps_step answer old before new after rows rules more steps k same is also =
      let w = works_any answer old before new after steps k.sound in
      let there : system_of new.core rows more ≡ sys = same_system old.core new.core rows rules more w.rest also ∙ sym is in
      subst (λ (s : System). IsPuttingOut may s new after) (sym there) (keeps_on old before new after k w same)

  -- a new block with fresh ends
  pub keeps_first : (c : Core) (ends : WorkerEnds) → IsSound may sys c → c.log ≡ [] → AreFresh ends → HasOwnWays sys c.block ends → IsPuttingOut may sys (with_core c) ends
  keeps_first c ends sound new fresh ways =
      record {
        sound = sound;
        put = [];
        whole = ap sent (sym new);
        each = fresh.put;
        came = ap (λ l. arrived l ++ []) new ∙ sym fresh.taken;
        legal = subst (λ l. All (IsLegalIn sys) (sent l)) (sym new) (All-nil (IsLegalIn sys));
        ways = ways;
      }

  -- what it says after any number of steps
  pub put_out_after : (w : Working) (ends : WorkerEnds) → IsPuttingOut may sys w ends → HasPutOut may sys w ends
  put_out_after w ends k =
      record {
        came = k.came;
        went = λ s. ap (λ l. l ++ beginning_at sys.routes s w.outgoing) (k.each s) ∙ sym (beginning-append sys.routes s k.put w.outgoing) ∙ ap (beginning_at sys.routes s) k.whole;
        run = k.sound.run;
        within = k.sound.turns_within;
        legal = hand_legal w ends k;
      }
