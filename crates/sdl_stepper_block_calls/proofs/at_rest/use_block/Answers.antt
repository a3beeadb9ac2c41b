use Rattle.std.proofs.Common.{sym, subst}
use Rattle.sdl_stepper_block_calls.specs.Stored.{IsStored}
use Rattle.sdl_stepper_block_calls.proofs.at_rest.use_block.Goals as goal

pub put_back-kept-requires-clause-parts : goal.put_back-kept-requires-clause-parts
put_back-kept-requires-clause-parts g c =
    subst (λ p. IsStored g.S.Agents.may c.args.site.now.checked.now p) (sym c.use_parts-parts.ensures.parts) c.take_at-parts.ensures.taken
