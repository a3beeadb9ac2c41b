-- Worked rows: what the definitions say of a run of Ring, and of wrong ones.
use Rattle.std.proofs.Common.{◌≡◌, ℕ, zero, suc, subst, ◌<◌, Bool, true, false, cond, List, [], ◌∷◌, ◌++◌, Option, Some, unwrap_or, refl, ap, sym, arith, lit<, slice_get, length}
use Rattle.std.proofs.lemmas.Bool.{cond_both}
use Rattle.std.proofs.lemmas.Option.{none-some, same_Some}
use Rattle.sdl_signal.specs.declared.values.Pid.{Pid}
use Rattle.sdl_instances_log.specs.declared.event.Trigger.TheVariants as trigger
use Rattle.sdl_instances.specs.Core.{IsReady}
use Rattle.sdl_signal.specs.declared.ids.BlockId.{BlockId}
use Rattle.std.proofs.lemmas.List.{length-append}
use Rattle.sdl_signal.specs.declared.values.Item.{Item}
use Rattle.sdl_signal.specs.declared.ends.InputEnd.TheVariants as input
use Rattle.sdl_signal.specs.declared.ends.OutputEnd.TheVariants as output
use Rattle.sdl_signal.specs.Names.{Lexicon}
use Rattle.sdl_signal.specs.Line.{line_text}
use Rattle.sdl_signal_lines.specs.Bytes.{BeginsWithLines}
use Rattle.sdl_signal.specs.Environment.{AreRead}
use Rattle.sdl_structure_parts.specs.Structure.{Structure, lexicon_of}
use Rattle.sdl_routes.specs.declared.route.TableRow.{TableRow}
use Rattle.sdl_run_outcome.specs.declared.environment_output.EnvOut.TheVariants as env_out
use Rattle.sdl_run_outcome.specs.EnvironmentWork.{HasReadAll, HasWritten, AreCounted, received_text, received_line, env_origins}
use Rattle.sdl_routes.specs.declared.route.Hop.{Hop}
use Rattle.sdl_routes.specs.declared.route.Station.TheVariants as station
use Rattle.sdl_routes.specs.Routes.{IsRoute}
use Rattle.sdl_instances.specs.Machine.{State}
use Rattle.sdl_instances.specs.Run.{IsStamped, turns}
use Rattle.sdl_forward.specs.Boards.{same_station, waiting}
use Rattle.sdl_forward_opening.specs.declared.worker.Worker.TheVariants.{Block, Environment, Forwarder}
use Rattle.sdl_run_outcome.specs.Books.{outs, came, left}
use Rattle.sdl_run_outcome.specs.Plan.{workers_of, ways_of}
use Rattle.sdl_run_outcome.specs.Outcome.{books_of, log_at}
use Rattle.sdl_run_outcome.specs.Ends.{IsQuiet, IsSpentAt, IsSettled}
use Rattle.sdl_run_outcome.specs.Ring.{ring, to_y, to_x, plan, block, hop, tok, sends, enters, leaves, rests, no_one, stops_early}
use Rattle.sdl_run_outcome.specs.Ring as rings

pub to_y_is_route : IsRoute ring to_y
to_y_is_route =
    record {
      walk = ((0, lit< tt, refl), (tt, refl), ((0, lit< tt, refl), (tt, refl), (0, lit< tt, refl)));
      start = refl;
      source = refl;
      end_gate = refl;
      end = refl;
      stations = (station.Inlet (block 1), refl, refl);
    }

pub to_x_is_route : IsRoute ring to_x
to_x_is_route =
    record {
      walk = ((0, lit< tt, refl), (tt, refl), ((0, lit< tt, refl), (tt, refl), (0, lit< tt, refl)));
      start = refl;
      source = refl;
      end_gate = refl;
      end = refl;
      stations = (station.Inlet (block 0), refl, refl);
    }

-- the workers: P, Q, the environment, and a forwarder for each path
pub ring_workers : workers_of (plan 2) ≡
    Block (block 0) ∷ Block (block 1) ∷ Environment ∷ Forwarder (hop 0 false) ∷ Forwarder (hop 0 true) ∷ Forwarder (hop 1 false) ∷ Forwarder (hop 1 true)
    ∷ Forwarder (hop 2 false) ∷ Forwarder (hop 2 true) ∷ []
ring_workers = refl

-- along each route: what was output, what came, what is left
pub ring_route_0 :
    (outs (ways_of (plan 2)) (books_of (plan 2) (leaves (tok 2 0 1 ∷ []))) 0 ≡ tok 0 0 0 ∷ tok 2 0 1 ∷ [])
    × (came (ways_of (plan 2)) (books_of (plan 2) (leaves (tok 2 0 1 ∷ []))) 0 ≡ tok 0 0 0 ∷ [])
    × (left (ways_of (plan 2)) (books_of (plan 2) (leaves (tok 2 0 1 ∷ []))) 0 ≡ tok 2 0 1 ∷ [])
ring_route_0 = (refl, refl, refl)

pub ring_route_1 :
    (outs (ways_of (plan 2)) (books_of (plan 2) (leaves (tok 2 0 1 ∷ []))) 1 ≡ tok 1 1 0 ∷ [])
    × (came (ways_of (plan 2)) (books_of (plan 2) (leaves (tok 2 0 1 ∷ []))) 1 ≡ tok 1 1 0 ∷ [])
    × (left (ways_of (plan 2)) (books_of (plan 2) (leaves (tok 2 0 1 ∷ []))) 1 ≡ [])
ring_route_1 = (refl, refl, refl)

-- each item has the stamp that the arrivals before it ask for
pub ring_stamped : IsStamped 0 rings.log_of_p × IsStamped 0 rings.log_of_q
ring_stamped = (((refl, tt), (tt, ((refl, tt), tt))), (tt, (tt, ((refl, tt), tt))))

-- where the last token is lost, the order along route 0 does not hold
pub lost : outs (ways_of (plan 2)) (books_of (plan 2) (leaves [])) 0 ≡ came (ways_of (plan 2)) (books_of (plan 2) (leaves [])) 0 ++ left (ways_of (plan 2)) (books_of (plan 2) (leaves [])) 0 → ⊥
lost e = let n : ◌≡◌ {A = ℕ} 2 1 = ap length e in omega arith

-- at no line does anything wait
none_or : (b : Bool) (ys : List Item) → ys ≡ [] → cond b [] ys ≡ []
none_or b ys e = cond_both b [] ys (λ (xs : List Item). xs ≡ []) (λ t. refl) (λ t. e)

lines_empty : (items : List Item) (h : Hop) → waiting (rests items) (station.Line h) ≡ []
lines_empty items h =
    none_or (same_station (station.Line (hop 0 false)) (station.Line h)) _ (none_or (same_station (station.Line (hop 0 true)) (station.Line h)) _ (none_or (same_station (station.Line (hop 1 false)) (station.Line h)) _
    (none_or (same_station (station.Line (hop 1 true)) (station.Line h)) _ (none_or (same_station (station.Line (hop 2 false)) (station.Line h)) _ (none_or (same_station (station.Line (hop 2 true)) (station.Line h)) _ refl)))))

none_ready : (t : State) (q : Pid) → no_one ≡ t → IsReady q t → ⊥
none_ready t q same r = none-some (q, r.0) (subst (λ (x : State). slice_get x.living r.1.0 ≡ Some (q, r.0)) (sym same) r.1.1)

settled : (b : ℕ) → IsSettled (plan 2) (leaves (tok 2 0 1 ∷ [])) (no_one ∷ no_one ∷ []) b
settled zero s p e ready = none_ready s p (same_Some no_one s e) ready
settled (suc zero) s p e ready = none_ready s p (same_Some no_one s e) ready
settled (suc (suc b)) s p e ready = none-some s e

-- the run of Ring in which each block makes two turns ends with P, whose budget is used, and which is the least such block
pub ring_ends : IsSpentAt (plan 2) (leaves (tok 2 0 1 ∷ [])) (no_one ∷ no_one ∷ []) 0
ring_ends =
    record {
      more = λ quiet. let e : ◌≡◌ {A = ℕ} 1 0 = ap length (quiet.rests (station.Inlet (block 1))) in omega arith;
      within = lit< tt;
      spent = refl;
      least = λ a less e. omega arith;
      hands = ((refl, refl), ((refl, refl), ((refl, refl), ((refl, refl), ((refl, refl), ((refl, refl), ((refl, refl), ((refl, refl), ((refl, refl), tt)))))))));
      lines = lines_empty (tok 2 0 1 ∷ []);
      outlet = refl;
      others = all_used;
    }
  where
    all_used : (a : BlockId) → a.0 < 2 → turns (log_at (leaves (tok 2 0 1 ∷ [])).logs a.0) < 2 → (waiting (rests (tok 2 0 1 ∷ [])) (station.Inlet a) ≡ []) × IsSettled (plan 2) (leaves (tok 2 0 1 ∷ [])) (no_one ∷ no_one ∷ []) a.0
    all_used a less unused = absurd (used a.0 less unused)
      where
        used : (n : ℕ) → n < 2 → turns (log_at (leaves (tok 2 0 1 ∷ [])).logs n) < 2 → ⊥
        used zero l u = omega arith
        used (suc zero) l u = omega arith
        used (suc (suc n)) l u = omega arith

-- Wrong ends. Where no budget is used, none is named.
pub unused_named : (finals : List State) (b : ℕ) → IsSpentAt (plan 3) (leaves (tok 2 0 1 ∷ [])) finals b → ⊥
unused_named finals zero h = let e : ◌≡◌ {A = ℕ} 2 3 = h.spent in omega arith
unused_named finals (suc zero) h = let e : ◌≡◌ {A = ℕ} 2 3 = h.spent in omega arith
unused_named finals (suc (suc b)) h = let l : suc (suc b) < 2 = h.within in omega arith

-- a block that is not the least is not named
pub not_the_least : (finals : List State) → IsSpentAt (plan 2) (leaves (tok 2 0 1 ∷ [])) finals 1 → ⊥
not_the_least finals h = h.least 0 (lit< tt) refl

-- a run is not quiet with a signal in an inlet
pub not_quiet : (finals : List State) → IsQuiet (plan 2) (leaves (tok 2 0 1 ∷ [])) finals → ⊥
not_quiet finals h = let e : ◌≡◌ {A = ℕ} 1 0 = ap length (h.rests (station.Inlet (block 1))) in omega arith

-- a run does not stop where P has used its budget and Q has still to take a signal
pub unsettled : (finals : List State) → IsSpentAt (plan 2) stops_early finals 0 → ⊥
unsettled finals h = let e : ◌≡◌ {A = ℕ} 1 0 = ap length (h.others (block 1) (lit< tt) (lit< tt)).0 in omega arith

-- no logs show two signals that go round between two blocks and that nobody started
pub no_loop : (a b : Item) → IsStamped 0 (enters a ∷ sends (trigger.Fire a) (b ∷ []) ∷ []) → IsStamped 0 (enters b ∷ sends (trigger.Fire b) (a ∷ []) ∷ []) → ⊥
no_loop a b p q = let x = p.1.0.0 in let y = q.1.0.0 in omega arith

-- an input of which nothing was read was not read whole
unread_lines : (names : Lexicon) (lines : List (List ℕ)) (byte : ℕ) (bytes : List ℕ) → BeginsWithLines (byte ∷ bytes) lines [] → AreRead names lines [] → ⊥
unread_lines names [] byte bytes first read = cc
unread_lines names (line ∷ lines) byte bytes first read = read

pub unread : (s : Structure) (routes : List TableRow) (worker byte : ℕ) (bytes : List ℕ) (now : Option (List ℕ)) → HasReadAll s routes worker (Some (byte ∷ bytes)) now [] input.Whole → ⊥
unread s routes worker byte bytes now ([], outs, (given, consumes, (lines, first, read, few))) = unread_lines (lexicon_of s) lines byte bytes first read
unread s routes worker byte bytes now (line ∷ lines, outs, read) = outs

-- and what was received was not written whole where nothing was written
pub unwritten : (names : Lexicon) (routes : List TableRow) (i : Item) (items : List Item) (start : List ℕ) → HasWritten (Some start) (Some start) (received_text names routes (i ∷ items)) output.Whole → ⊥
unwritten names routes i items start h =
    let text = unwrap_or (line_text names (received_line routes i)) [] in
    let a : length start ≡ length (start ++ ((text ++ 10 ∷ []) ++ received_text names routes items)) = ap length h in
    let b = length-append start ((text ++ 10 ∷ []) ++ received_text names routes items) in
    let c = length-append (text ++ 10 ∷ []) (received_text names routes items) in
    let d = length-append text (10 ∷ []) in
    omega (arith, a, b, c, d)

-- the first output of the environment has number 0
pub misnumbered : AreCounted 2 0 (env_origins (env_out.Sent (tok 0 2 1) ∷ [])) → ⊥
misnumbered h = let e : ◌≡◌ {A = ℕ} 1 0 = h.1 in omega arith
