use Rattle.std.proofs.Common.{◌∙◌}
use Rattle.sdl_chart_page.specs.Pages.{IsNoted}
use Rattle.sdl_chart_page.proofs.Noting.{notes_one}
use Rattle.sdl_chart_page.proofs.Texts.{ok_of}
use Rattle.sdl_chart_page.proofs.placing.Placing.note_first.Goals as goal

pub returns-clause-noted : goal.returns-clause-noted
returns-clause-noted c =
    let old = c.args.self.now.places in
    ok_of c.wake.result (IsNoted c.args.origin c.args.spot old c.wake.new.self.places)
    (notes_one old c.reach.new.self c.wake.new.self.places c.args.origin c.args.spot c.requires c.reach.ensures.grown c.in_ok-reach.ensures.room (c.wake.ensures.places ∙ c.put.ensures))
