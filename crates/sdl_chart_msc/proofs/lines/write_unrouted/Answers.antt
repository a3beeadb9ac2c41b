use Rattle.std.proofs.Common.{ℕ, List, ◌++◌, codes, subst}
use Rattle.std.specs.Io.KnownBytes.{Appends}
use Rattle.sdl_chart_msc.proofs.Written.{on_ok}
use Rattle.sdl_chart_msc.proofs.lines.write_unrouted.Goals as goal

pub returns : goal.returns
returns g c =
    on_ok c.write.result _ _
    (λ h. subst (λ (n : List ℕ). Appends (g.W.Write.contents c.args.output.now) (g.W.Write.contents c.write.new.self) (codes "    action 'no route for " ++ n ++ codes "';\n")) c.signal_name-name.ensures h)
    c.write.ensures.bytes
