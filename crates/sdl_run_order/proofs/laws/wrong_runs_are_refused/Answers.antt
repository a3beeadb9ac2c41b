use Rattle.sdl_run_order.proofs.Rows.{lost, unused_named, not_the_least, unsettled, not_quiet, unread, unwritten, misnumbered, no_loop}
use Rattle.sdl_run_order.proofs.laws.wrong_runs_are_refused.Goals as goal

pub returns : goal.returns
returns c = record { lost = lost; unused = unused_named; not_least = not_the_least; unsettled = unsettled; not_quiet = not_quiet; unread = unread; unwritten = unwritten; misnumbered = misnumbered; no_loop = no_loop }
