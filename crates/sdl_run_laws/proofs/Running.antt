-- The log of E is a run of its block.
use Rattle.std.proofs.Common.{[], ◌∷◌, None, Some, refl, lit<, true≢false, ap, sym, is_some}
use Rattle.std.proofs.lemmas.List.Elements.{All-nil, All-cons}
use Rattle.sdl_signal.specs.declared.values.Pid.TheVariants as pid
use Rattle.sdl_routes.specs.declared.route.Via.TheVariants as via
use Rattle.sdl_transition_behaviour.specs.declared.step.Action.TheVariants as action
use Rattle.sdl_transition_behaviour.specs.declared.step.Dest.TheVariants as dest
use Rattle.sdl_transition_behaviour.specs.Offers.{Conforms, IsActionOf, IsLegalValue}
use Rattle.sdl_agents.specs.Tables.{EchoMay}
use Rattle.sdl_instances_log.specs.declared.event.Event.TheVariants as event
use Rattle.sdl_instances_processes.specs.Record.{Record}
use Rattle.sdl_instances.specs.Machine.{System, next_any}
use Rattle.sdl_instances.specs.Run.{IsRun}
use Rattle.sdl_run_outcome.specs.Plan.{system_at}
use Rattle.sdl_run_outcome.specs.Outcome.{IsLawful}
use Rattle.sdl_run_outcome.specs.Ring.{block}
use Rattle.sdl_run_laws.specs.Echo.{to_e, to_line, plan, idle, start_offer, ping_offer}
use Rattle.sdl_run_laws.specs.EchoRun.{go_idle, answer, signal, e, ping, pong, instance, with, final, starts, answers, log_of, leaves}

abbrev system : System
system = system_at plan 0

abbrev fresh : Record
fresh = instance None [] pid.Null

abbrev waits : Record
waits = instance (Some idle) [] pid.Null

abbrev asked : Record
asked = instance (Some idle) (ping 7 ∷ []) pid.Null

abbrev heard : Record
heard = instance (Some idle) [] pid.Env

goes_idle : Conforms start_offer go_idle
goes_idle = record { actions = All-nil (IsActionOf start_offer); sorts = refl; values = All-nil (IsLegalValue 1); next = ∣ (0, lit< tt, refl) ∣₁ }

conforms : Conforms ping_offer (answer 7)
conforms =
    record {
      actions = All-cons (IsActionOf ping_offer) (action.Output (signal 1 7) dest.Anywhere via.Any) []
          (∣ (0, lit< tt, λ d. (refl, refl, refl)) ∣₁, All-cons (IsLegalValue 1) _ [] tt (All-nil (IsLegalValue 1)), tt)
          (All-nil (IsActionOf ping_offer));
      sorts = refl;
      values = All-nil (IsLegalValue 1);
      next = ∣ (0, lit< tt, refl) ∣₁;
    }

e_starts : next_any EchoMay system (with fresh) starts (with waits)
e_starts = (
  fresh,
  _,
  (0, refl),
  refl,
  refl,
  refl,
  record {
    allowed = record { actions = refl; vars = refl; next = refl };
    conforms = ∣ goes_idle ∣₁;
    acted = with fresh;
    actions = refl;
    finish = (fresh, record { place = 0; was = refl; living = refl; last = refl });
  },
)

ping_enters : next_any EchoMay system (with waits) (event.Entered (ping 7) e) (with asked)
ping_enters =
    ((record { 0 = 0 }, (to_e, refl, refl), (1, refl), λ q h. absurd (true≢false (sym (ap is_some h)))), (waits, record { place = 0; was = refl; living = refl; last = refl }))

e_answers : next_any EchoMay system (with asked) (answers (pong 1 7)) final
e_answers = (
  asked,
  [],
  idle,
  _,
  _,
  with heard,
  refl,
  record { before = []; behind = []; items_are = refl; rest_is = refl; all_saved = tt; not_saved = refl },
  refl,
  refl,
  record { place = 0; was = refl; living = refl; last = refl },
  refl,
  record {
    allowed = record { actions = refl; vars = refl; next = refl };
    conforms = ∣ conforms ∣₁;
    acted = with heard;
    actions = (
      with heard,
      (
        record { 0 = 0 },
        refl,
        heard,
        (0, refl),
        record { signal_kept = refl; sender = refl; to = refl; route = (to_line, refl, record { signal = refl; start = refl; end = tt; via = tt }) },
        refl,
      ),
      refl,
    );
    finish = (heard, record { place = 0; was = refl; living = refl; last = refl });
  },
)

run : IsRun EchoMay system (block 0) (log_of (pong 1 7)) final
run =
    record {
      leads = (with waits, e_starts, (with asked, ping_enters, (final, e_answers, refl)));
      numbered = (refl, refl, tt);
      stamped = (tt, (tt, ((refl, tt), tt)));
    }

pub lawful : IsLawful EchoMay plan leaves (final ∷ [])
lawful = record { runs = (run, tt); environment = (refl, refl, tt) }
