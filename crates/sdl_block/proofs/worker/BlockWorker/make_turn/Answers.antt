use Rattle.std.proofs.Common.{refl, subst, arith, ◌≡◌}
use Rattle.sdl_instances_log.specs.declared.event.Turn.{Turn}
use Rattle.sdl_instances.specs.Calls.{TurnAnswers, turned_of, IsTurnOf}
use Rattle.sdl_instances.specs.Run.{turn_in}
use Rattle.sdl_instances_log.specs.declared.event.Event.{Event}
use Rattle.sdl_instances_log.specs.declared.event.Event.TheVariants as event
use Rattle.sdl_signal.specs.declared.values.Pid.{Pid}
use Rattle.sdl_instances.specs.CoreOf.{core_of, system_in}
use Rattle.sdl_block.proofs.worker.BlockWorker.make_turn.Goals as goal

-- a turn of p is one turn
one_turn : (p : Pid) (e : Event) → IsTurnOf p e → turn_in e ≡ 1
one_turn p (event.Turn q t f s d x) h = refl
one_turn p (event.Entered i q) h = absurd h
one_turn p (event.Discarded i cause) h = absurd h

pub returns-in-Ok-Fired-clause-turn : goal.returns-in-Ok-Fired-clause-turn
returns-in-Ok-Fired-clause-turn g c =
    let old = c.args.self.now.core in
    let fired = subst (λ (t : Turn). TurnAnswers g.S.Agents.may (system_in old c.args.routes.now) c.args.pick (core_of old) (turned_of t c.turn_into.new.hand) (core_of c.turn_into.new.self)) c.in-Ok-Fired.field-0-is c.in-Ok-Fired.ensures.answers in
    record {
      event = fired.2.0;
      turn = one_turn c.in-Ok-Fired.field-0-0 fired.2.0 fired.2.1;
      within = λ used. (let lt = fired.0 in omega (arith, lt, used));
      log = fired.2.3;
      hand = fired.2.4;
      kept = refl;
      sound = c.in-Ok-Fired.ensures.sound;
      rest = fired.3;
      legal = c.turn_into.ensures.legal;
      few = c.turn_into.ensures.few;
    }
