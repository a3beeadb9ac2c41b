use Rattle.std.proofs.lemmas.Result.{IfOk-weaker}
use Rattle.sdl_graph_binding.proofs.Lists.{rows_on}
use Rattle.sdl_graph_binding.proofs.set_behaviour.+with_rows.Goals as goal

pub returns-clause-taken : goal.returns-clause-taken
returns-clause-taken g t c =
    IfOk-weaker c.with_rows.result _ _
    (λ b more. rows_on b c.in_ok-longer.longer c.args.behaviour c.in_ok-row.row c.with_rows.new.left.items c.next_row.new.left.items c.args.left.now.items
    more c.in_ok-longer.ensures.same c.in_ok-longer.ensures.added c.in_ok-row.ensures.taken)
    c.with_rows.ensures.taken
