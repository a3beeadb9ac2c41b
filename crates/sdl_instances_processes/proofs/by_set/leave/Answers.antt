use Rattle.std.proofs.Common.{rules, nat_eq, not, map, ap, ◌∙◌}
use Rattle.std.proofs.lemmas.Fn.{filter_same}
use Rattle.sdl_instances_processes.specs.Places.{lowered}
use Rattle.sdl_instances_processes.proofs.by_set.leave.Goals as goal

pub returns-clause-items : goal.returns-clause-items
returns-clause-items c =
    c.lower.ensures.items
    ∙ ap (map (lowered c.args.gone)) (filter_same _ (λ n. not (nat_eq n c.args.gone)) _ (λ x b f' k. search rules) _ _ c.retain.ensures.filtered)
