use Rattle.sdl_structure_parts.specs.Rules.{IsWellFormed}
use Rattle.sdl_structure_parts.specs.EachRule.{IsKept, IsFirstOf}
use Rattle.sdl_structure_parts.proofs.Whole.{all_kept, if_none}
use Rattle.sdl_structure_parts.proofs.checking.first_fault.Goals as goal

pub returns-clause-none : goal.returns-clause-none
returns-clause-none c =
    let s = c.args.structure.now in
    if_none c.first_initial_over_max.result (IsKept s 6) (IsWellFormed s) (IsFirstOf s 6) c.first_initial_over_max.ensures
    (all_kept s c.in_default.ensures c.in_default-first_empty_channel.ensures c.in_default-first_not_in_gate.ensures
    c.in_default-first_unjoined.ensures c.in_default-first_leads_nowhere.ensures)
