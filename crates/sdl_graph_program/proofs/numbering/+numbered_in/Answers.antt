use Rattle.std.proofs.Common.{arith}
use Rattle.std.proofs.lemmas.Bool.Decides.{nat_tests}
use Rattle.sdl_graph_program.proofs.Numbers.{numbered_behind}
use Rattle.sdl_graph_program.proofs.numbering.+numbered_in.Goals as goal

-- the transition is of a set behind the first
pub returns-in_ok-place-in-len1-up-2-clause-found : goal.returns-in_ok-place-in-len1-up-2-clause-found
returns-in_ok-place-in-len1-up-2-clause-found t c =
    numbered_behind c.args.sets.now _ c.args.number c.in_ok-place-in-len1-up-2.place c.in_ok-place-in-len1-up-2.own
    c.in-len1-up.len_at_least (grind (arith, nat_tests, c.if-number-set.false)) c.in_ok-place-in-len1-up-2.ensures.found
