-- A step is made of parts: what each part does to a block and to the queues around it, and that parts follow one another.
use Rattle.std.proofs.Common.{◌≡◌, ℕ, ◌+◌, ◌*◌, ◌≤◌, List, [], ◌++◌, length, All, refl, ap, sym, ◌∙◌, subst, append_assoc, append-nil, length-append, arith}
use Rattle.std.specs.Option.{option_to_list}
use Rattle.std.proofs.lemmas.List.Elements.{All-append, All-nil}
use Rattle.std.proofs.lemmas.List.Sums.{sum_by-append}
use Rattle.sdl_signal.specs.declared.values.Item.{Item}
use Rattle.sdl_transition_behaviour.specs.declared.step.Frame.{Frame}
use Rattle.sdl_transition_behaviour.specs.declared.step.Step.{Step}
use Rattle.sdl_instances_log.specs.declared.event.Event.{Event}
use Rattle.sdl_instances.specs.Machine.{System}
use Rattle.sdl_instances.specs.Run.{arrived, sent, turns, turn_in}
use Rattle.sdl_instances.specs.Core.{Core, IsSound, IsLegalIn}
use Rattle.sdl_instances.specs.Calls.{LeavesOthers}
use Rattle.sdl_block_hand.specs.Work.{Working}
use Rattle.sdl_block_hand.proofs.Through.{sent-append, arrived-append, through}
use Rattle.sdl_block.specs.Around.{Queues}

pub turns-append : (xs ys : List Event) → turns (xs ++ ys) ≡ turns xs + turns ys
turns-append xs ys = sum_by-append turn_in xs ys

pub keeps-then : (a b c : Core) → LeavesOthers a b → LeavesOthers b c → LeavesOthers a c
keeps-then a b c h k = (k.0 ∙ h.0, k.1 ∙ h.1, k.2 ∙ h.2, k.3 ∙ h.3)

pub keeps-same : (a : Core) → LeavesOthers a a
keeps-same a = (refl, refl, refl, refl)

module _ (may : ℕ → Frame → Step → Type 0) (sys : System) {B : Type 0} (q : Queues B) where
  -- a part of a step, with what it put, what it took, and the new events
  pub record Part (old : Working) (before : B) (put taken : List Item) (events : List Event) (new : Working) (after : B) : Type 0 where
    pub moves : q.Moves put taken before after
    pub came : option_to_list old.kept ++ taken ≡ arrived events ++ option_to_list new.kept
    pub went : put ++ new.outgoing ≡ old.outgoing ++ sent events
    pub log : new.core.log ≡ old.core.log ++ events
    pub sound : IsSound may sys new.core
    pub rest : LeavesOthers old.core new.core
    pub legal : All (IsLegalIn sys) (sent events)
    pub few : length (sent events) ≤ 8 * turns events

  pub part_then : (old : Working) (before : B) (put1 taken1 : List Item) (events1 : List Event) (mid : Working) (between : B) (put2 taken2 : List Item) (events2 : List Event) (new : Working) (after : B)
      → Part old before put1 taken1 events1 mid between → Part mid between put2 taken2 events2 new after
      → Part old before (put1 ++ put2) (taken1 ++ taken2) (events1 ++ events2) new after
  part_then old before put1 taken1 events1 mid between put2 taken2 events2 new after a b =
      record {
        moves = q.moves_then put1 taken1 put2 taken2 before between after a.moves b.moves;
        came =
            through (option_to_list old.kept) taken1 (arrived events1) (option_to_list mid.kept) taken2 (arrived events2) (option_to_list new.kept) a.came b.came
            ∙ ap (λ l. l ++ option_to_list new.kept) (sym (arrived-append events1 events2));
        went =
            sym (through old.outgoing (sent events1) put1 mid.outgoing (sent events2) put2 new.outgoing (sym a.went) (sym b.went))
            ∙ ap (λ l. old.outgoing ++ l) (sym (sent-append events1 events2));
        log = b.log ∙ ap (λ l. l ++ events2) a.log ∙ append_assoc old.core.log events1 events2;
        sound = b.sound;
        rest = keeps-then old.core mid.core new.core a.rest b.rest;
        legal = subst (All (IsLegalIn sys)) (sym (sent-append events1 events2)) (All-append (IsLegalIn sys) (sent events1) (sent events2) a.legal b.legal);
        few =
            let s = ap length (sent-append events1 events2) ∙ length-append (sent events1) (sent events2) in
            let t = turns-append events1 events2 in
            omega (arith, s, t, a.few, b.few);
      }

  -- the part that does nothing
  pub no_part : (old : Working) (before after : B) → q.Still before after → IsSound may sys old.core → Part old before [] [] [] old after
  no_part old before after still sound =
      record {
        moves = q.still_moves before after still;
        came = append-nil (option_to_list old.kept);
        went = sym (append-nil old.outgoing);
        log = sym (append-nil old.core.log);
        sound = sound;
        rest = keeps-same old.core;
        legal = All-nil (IsLegalIn sys);
        few = omega arith;
      }
