use Rattle.std.proofs.Common.{sym}
use Rattle.sdl_listing_body_text.proofs.RowLemmas.{assigned_at, assigned_past}
use Rattle.sdl_listing_body_text.proofs.rows.place_assigned.Goals as goal

pub returns-in-Some : goal.returns-in-Some
returns-in-Some c =
    assigned_at c.args.meanings.now c.as_slice-variables.result.now c.args.parameter c.in-Some.name.now c.place_of_variable.result
    c.as_slice-variables.ensures.value c.in-Some.ensures.lookup.3.0 c.in-Some.ensures.lookup.1 c.place_of_variable.ensures.place

pub returns-in-None : goal.returns-in-None
returns-in-None c = sym (assigned_past c.args.meanings.now c.args.parameter c.in-None.ensures.lookup.3)
