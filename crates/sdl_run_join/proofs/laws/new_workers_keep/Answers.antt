use Rattle.std.proofs.Common.{ℕ, map}
use Rattle.sdl_routes.specs.declared.route.Station.{Station}
use Rattle.sdl_forward_opening.proofs.Using.{unused}
use Rattle.sdl_run_join.proofs.Begun.{all_begun}
use Rattle.sdl_run_join.proofs.Unused.{rejoined_all}
use Rattle.sdl_run_join.proofs.laws.new_workers_keep.Goals as goal

pub returns-clause-keep : goal.returns-clause-keep
returns-clause-keep g c = all_begun g.S.Agents.may

pub returns-clause-used : goal.returns-clause-used
returns-clause-used g c = unused

pub returns-clause-rests : goal.returns-clause-rests
returns-clause-rests g c structure routes all shelf opened = rejoined_all all (map (λ (x : Station × ℕ). x.0) shelf) opened.fresh opened.whole
