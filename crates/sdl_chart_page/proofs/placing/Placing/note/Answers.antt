use Rattle.std.proofs.Common.{Option, refl, sym, subst}
use Rattle.std.specs.Prelude.{IsSome}
use Rattle.sdl_chart_page.specs.declared.page.Spot.{Spot}
use Rattle.sdl_chart_page.proofs.Noting.{notes_none}
use Rattle.sdl_chart_page.proofs.placing.Placing.note.Goals as goal

pub returns-in-Some-clause-noted : goal.returns-in-Some-clause-noted
returns-in-Some-clause-noted c = notes_none c.args.self.now.places _ c.args.origin c.args.spot refl (subst (λ (x : Option Spot). IsSome x) c.in-Some.ensures refl)

pub note_first-requires : goal.note_first-requires
note_first-requires c = sym c.in-None.ensures
