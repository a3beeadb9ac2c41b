-- What the steps of the environment keep where each queue has ends of its own.
use Rattle.std.proofs.Common.{◌≡◌, ℕ, ◌+◌, inl, List, [], ◌++◌, Option, None, Some, All, length, refl, ap, sym, ◌∙◌, subst, append_assoc, append-nil, arith}
use Rattle.std.specs.Option.{option_to_list}
use Rattle.std.proofs.lemmas.Option.{none-some}
use Rattle.std.proofs.lemmas.List.{length-map, map-append}
use Rattle.std.proofs.lemmas.List.Elements.{All-nil, All-append}
use Rattle.sdl_signal.specs.declared.values.Item.{Item}
use Rattle.sdl_structure_parts.specs.Structure.{Structure}
use Rattle.sdl_routes.specs.declared.route.TableRow.{TableRow}
use Rattle.sdl_routes.specs.declared.route.Station.{Station}
use Rattle.sdl_forward_ends.specs.Ends.{WorkerEnds, IsSameEnds, put_at, taken_by}
use Rattle.sdl_block_hand.specs.declared.hand.Stepped.{Stepped}
use Rattle.sdl_block_hand.specs.declared.hand.Stepped.TheVariants.{Did, Idle, Memory}
use Rattle.sdl_block_hand.specs.Work.{beginning_at}
use Rattle.sdl_block_hand.specs.Apart.{AreFresh}
use Rattle.sdl_block_hand.proofs.Fronts.{beginning-append}
use Rattle.sdl_run_outcome.specs.declared.environment_output.EnvOut.{EnvOut}
use Rattle.sdl_run_outcome.specs.EnvironmentWork.{EnvWorking, IsEnvFresh, IsEnvSound, IsLegalItem, GoesOut, ComesIn, AreCounted, origin_of, env_origins, env_sent}
use Rattle.sdl_run_outcome.proofs.Environment.{counted_append, fresh_sound}
use Rattle.sdl_run_environment.specs.EnvApart.{HasGateWays, EnvWorksApart, EnvStepsApart, IsEnvPuttingOut}
use Rattle.sdl_run_environment.proofs.EnvPieces.{sent-append}
use Rattle.sdl_forward.specs.ByEnds.{has_feed_still}

module _ (s : Structure) (rows : List TableRow) (worker : ℕ) where
  counted_on : (old outs : List EnvOut) → AreCounted worker 0 (env_origins old) → AreCounted worker (length old) (env_origins outs) → AreCounted worker 0 (env_origins (old ++ outs))
  counted_on old outs h k =
      subst (AreCounted worker 0) (sym (map-append origin_of old outs))
      (counted_append worker 0 (env_origins old) (env_origins outs) h
      (subst (λ (m : ℕ). AreCounted worker m (env_origins outs)) (let l = length-map old origin_of in omega (arith, l)) k))

  all_sent : (P : Item → Type 0) (old outs new : List EnvOut) → new ≡ old ++ outs → All P (env_sent old) → All P (env_sent outs) → All P (env_sent new)
  all_sent P old outs new is h k = subst (All P) (sym (ap env_sent is ∙ sent-append old outs)) (All-append P (env_sent old) (env_sent outs) h k)

  -- a step keeps it
  pub keeps_on : (old : EnvWorking) (was : Option Item) (before : WorkerEnds) (new : EnvWorking) (is : Option Item) (after : WorkerEnds)
      → IsEnvPuttingOut s rows worker old was before → EnvWorksApart s rows worker old was before new is after → IsSameEnds before after → IsEnvPuttingOut s rows worker new is after
  keeps_on old was before new is after k w same =
      record {
        sound = w.sound;
        put = k.put ++ w.put;
        whole =
            append_assoc k.put w.put new.outgoing ∙ ap (λ l. k.put ++ l) w.went ∙ sym (append_assoc k.put old.outgoing (env_sent w.outs))
            ∙ ap (λ l. l ++ env_sent w.outs) k.whole ∙ sym (sent-append old.put w.outs) ∙ ap env_sent (sym w.outputs);
        each = λ t. w.puts t ∙ ap (λ l. l ++ beginning_at rows t w.put) (k.each t) ∙ sym (beginning-append rows t k.put w.put);
        came =
            ap (λ l. l ++ option_to_list is) w.received ∙ append_assoc old.received w.more (option_to_list is) ∙ ap (λ l. old.received ++ l) (sym w.came)
            ∙ sym (append_assoc old.received (option_to_list was) w.taken) ∙ ap (λ l. l ++ w.taken) k.came ∙ sym w.takes;
        counted = subst (λ (outs : List EnvOut). AreCounted worker 0 (env_origins outs)) (sym w.outputs) (counted_on old.put w.outs k.counted w.numbered);
        coming = all_sent (ComesIn rows) old.put w.outs new.put w.outputs k.coming w.coming;
        legal = all_sent (IsLegalItem s rows worker) old.put w.outs new.put w.outputs k.legal w.legal;
        lost = w.lost;
        ways = λ r row t gate at from first. has_feed_still before after t same (k.ways r row t gate at from first);
      }

  -- where nothing is done
  pub works_none : (w : EnvWorking) (astray : Option Item) (before after : WorkerEnds) → IsEnvSound s rows worker w → ((i : Item) → astray ≡ Some i → IsLegalItem s rows worker i → GoesOut rows i → ⊥)
      → taken_by after ≡ taken_by before → ((t : Station) → put_at after t ≡ put_at before t) → EnvWorksApart s rows worker w astray before w astray after
  works_none w astray before after sound lost takes puts =
      record {
        outs = [];
        put = [];
        taken = [];
        more = [];
        one = omega arith;
        takes = takes ∙ sym (append-nil (taken_by before));
        puts = λ t. puts t ∙ sym (append-nil (put_at before t));
        came = append-nil (option_to_list astray);
        received = sym (append-nil w.received);
        leaves = All-nil (λ i. IsLegalItem s rows worker i × GoesOut rows i);
        lost = lost;
        went = sym (append-nil w.outgoing);
        outputs = sym (append-nil w.put);
        numbered = tt;
        reads = inl (refl, refl, refl);
        legal = All-nil (IsLegalItem s rows worker);
        coming = All-nil (ComesIn rows);
        sound = sound;
      }

  works_any : (answer : Stepped) (old : EnvWorking) (was : Option Item) (before : WorkerEnds) (new : EnvWorking) (is : Option Item) (after : WorkerEnds)
      → EnvStepsApart s rows worker old was before answer new is after → IsEnvPuttingOut s rows worker old was before → EnvWorksApart s rows worker old was before new is after
  works_any Did old was before new is after h k = h.0
  works_any Memory old was before new is after h k = h
  works_any Idle old was before new is after (same, stays, idle) k =
      subst (λ (w : EnvWorking). EnvWorksApart s rows worker old was before w is after) (sym same)
      (subst (λ (o : Option Item). EnvWorksApart s rows worker old was before old o after) (sym stays) (works_none old was before after k.sound k.lost idle.taken idle.puts))

  pub keeps_step : (answer : Stepped) (old : EnvWorking) (was : Option Item) (before : WorkerEnds) (new : EnvWorking) (is : Option Item) (after : WorkerEnds)
      → EnvStepsApart s rows worker old was before answer new is after → IsEnvPuttingOut s rows worker old was before → IsSameEnds before after
      → IsEnvPuttingOut s rows new.number new is after × (new.number ≡ worker)
  keeps_step answer old was before new is after steps k same =
      let keeps = keeps_on old was before new is after k (works_any answer old was before new is after steps k) same in
      (subst (λ (n : ℕ). IsEnvPuttingOut s rows n new is after) (sym keeps.sound.number) keeps, keeps.sound.number)

-- a fresh environment with fresh ends
pub keeps_first : (s : Structure) (rows : List TableRow) (worker : ℕ) (w : EnvWorking) (ends : WorkerEnds) → IsEnvFresh worker w → AreFresh ends → HasGateWays rows ends → IsEnvPuttingOut s rows worker w None ends
keeps_first s rows worker w ends fresh new ways =
    record {
      sound = fresh_sound s rows worker w fresh;
      put = [];
      whole = fresh.outgoing ∙ ap env_sent (sym fresh.put);
      each = new.put;
      came = ap (λ l. l ++ []) fresh.received ∙ sym new.taken;
      counted = subst (λ (outs : List EnvOut). AreCounted worker 0 (env_origins outs)) (sym fresh.put) tt;
      coming = subst (λ (outs : List EnvOut). All (ComesIn rows) (env_sent outs)) (sym fresh.put) (All-nil (ComesIn rows));
      legal = subst (λ (outs : List EnvOut). All (IsLegalItem s rows worker) (env_sent outs)) (sym fresh.put) (All-nil (IsLegalItem s rows worker));
      lost = λ i some legal out. absurd (none-some i some);
      ways = ways;
    }
