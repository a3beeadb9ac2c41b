use Rattle.std.proofs.Common.{ℕ, List, ◌++◌, codes, subst}
use Rattle.std.specs.Io.KnownBytes.{Appends}
use Rattle.sdl_chart_msc.specs.Names.{name_text}
use Rattle.sdl_chart_msc.proofs.Written.{on_ok}
use Rattle.sdl_chart_msc.proofs.lines.Scene.write_outward.Goals as goal

pub returns : goal.returns
returns g c =
    on_ok c.write_between.result _ _
    (λ h. subst (λ (n : List ℕ). Appends (g.W.Write.contents c.args.output.now) (g.W.Write.contents c.write_between.new.output) (codes " to env via " ++ name_text n ++ codes ";\n")) c.end_name-gate.ensures h)
    c.write_between.ensures
