use Rattle.std.proofs.Common.{refl}
use Rattle.sdl_svg.proofs.Texts.{on_ok}
use Rattle.sdl_drawing_text.proofs.EdgeLemmas.{list_more}
use Rattle.sdl_drawing_text.proofs.edges.+write_list.Goals as goal

pub returns-in_ok-write_row : goal.returns-in_ok-write_row
returns-in_ok-write_row g t c =
    on_ok c.write_list.result _ _
    (λ rest. list_more c.args.structure.now c.args.signals.now c.args.before.now _ c.args.from c.row_end-end.result _ _ _ refl
    (c.row_end-end.ensures.some c.if-from-signals.true) c.in_ok-write_row.ensures rest)
    c.write_list.ensures
