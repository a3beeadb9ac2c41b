use Rattle.std.proofs.Common.{suc, sym, subst}
use Rattle.std.specs.List.{All}
use Rattle.std.proofs.lemmas.List.Elements.{All-append, All-take, All-drop}
use Rattle.sdl_stepper_block_calls.specs.Stored.{IsStored}
use Rattle.sdl_stepper_block_calls.proofs.at_rest.take_at.Goals as goal

pub returns-clause-taken : goal.returns-clause-taken
returns-clause-taken g c =
    subst (λ p. IsStored g.S.Agents.may c.args.checked.now p) (sym c.remove.ensures.value) (c.requires.stored c.args.place c.remove.result c.requires.within)

pub returns-clause-rest : goal.returns-clause-rest
returns-clause-rest g c =
    let may = g.S.Agents.may in
    subst (λ l. All (IsStored may c.args.checked.now) l) (sym c.remove.ensures.items)
    (All-append (IsStored may c.args.checked.now) _ _
    (All-take (IsStored may c.args.checked.now) c.args.place _ c.requires.stored)
    (All-drop (IsStored may c.args.checked.now) (suc c.args.place) _ c.requires.stored))
