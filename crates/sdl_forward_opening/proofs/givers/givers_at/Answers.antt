use Rattle.std.proofs.Common.{rules, append-nil, sym, ap, ◌∙◌, ◌++◌, List}
use Rattle.std.specs.Option.{option_to_list}
use Rattle.sdl_forward_opening.specs.declared.worker.Worker.{Worker}
use Rattle.sdl_forward_opening.proofs.Giving.{givers_more}
use Rattle.sdl_forward_opening.proofs.givers.givers_at.Goals as goal
use Rattle.sdl_forward_opening.proofs.givers.givers_at.Goals.{in-Some-giver+in_ok-push, in_default-giver}

pub loop-number-preserved : goal.loop-number-preserved
loop-number-preserved c =
    givers_more c.args.structure.now c.args.routes.now c.args.station c.loop-number.number c.in-Some.route.now c.starter-first.result c.loop-number.givers.items c.match-giver.givers.items c.giver.result c.as_slice.result.now
    c.requires.sound c.in-Some.ensures.value c.starter-first.ensures c.as_slice.ensures.value c.giver.ensures c.loop-number.invariant
    (elim c.match-giver.branch [
      | in-Some-giver+in_ok-push w ↦ search rules
      | in_default-giver w ↦ search rules
    ])
