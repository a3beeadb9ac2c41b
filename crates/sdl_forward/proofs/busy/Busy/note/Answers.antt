use Rattle.std.proofs.Common.{ap, ◌∙◌, sym}
use Rattle.sdl_routes.specs.declared.route.Station.TheVariants.{Line}
use Rattle.sdl_forward.proofs.Marks.{same_line}
use Rattle.sdl_forward.proofs.busy.Busy.note.Goals as goal

pub returns-then-some : goal.returns-then-some
returns-then-some c h clear = (
  λ same. absurd ((c.mark.ensures h clear).1 (same_line h c.in-Line.hop (same ∙ c.in-Line.is))),
  λ other. (c.mark.ensures h clear).0,
)

pub returns-else-some : goal.returns-else-some
returns-else-some c h clear = (λ same. c.if-some.false, λ other. c.clear.ensures h (λ e. other (ap Line e ∙ sym c.in-Line.is)) clear)
