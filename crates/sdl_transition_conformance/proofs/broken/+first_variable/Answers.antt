use Rattle.std.proofs.Common.{rules}
use Rattle.sdl_transition_conformance.proofs.Breaches.{variable_behind_first}
use Rattle.sdl_transition_conformance.proofs.broken.+first_variable.Goals as goal

-- the first variable that is not as offered is one of the rest
pub returns-in_ok-place-in-len1-up-len1-up-clause-some : goal.returns-in_ok-place-in-len1-up-len1-up-clause-some
returns-in_ok-place-in-len1-up-len1-up-clause-some t c =
    variable_behind_first c.args.sets c.args.values.now _ c.args.sorts.now _ c.in_ok-place-in-len1-up-len1-up.place (search rules) (search rules)
    (c.fits.ensures.0 c.if-fits.true) c.in_ok-place-in-len1-up-len1-up.ensures.some
