use Rattle.std.proofs.Common.{sym, subst, is_ok}
use Rattle.std.specs.List.{All}
use Rattle.sdl_stepper_block_calls.specs.Stored.{IsStored}
use Rattle.sdl_stepper_block_calls.proofs.Kept.{kept_either}
use Rattle.sdl_stepper_block_calls.proofs.at_rest.put_back.Goals as goal

pub returns : goal.returns
returns g c =
    let may = g.S.Agents.may in
    subst (λ l. All (IsStored may c.args.checked.now) l) (sym c.push.ensures.items)
    (kept_either (IsStored may c.args.checked.now) (is_ok c.push.result) _ _ c.requires.stored c.requires.parts)
