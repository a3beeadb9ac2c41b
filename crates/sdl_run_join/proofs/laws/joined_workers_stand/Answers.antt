use Rattle.sdl_run_outcome.specs.Plan.{workers_of}
use Rattle.sdl_forward_opening.specs.Opens.{ends_of}
use Rattle.sdl_run_join.specs.Lanes.{account_at}
use Rattle.sdl_run_join.proofs.Stands.{at_work, none_astray}
use Rattle.sdl_run_join.proofs.Comes.{all_joined}
use Rattle.sdl_run_join.proofs.laws.joined_workers_stand.Goals as goal

pub returns-clause-work : goal.returns-clause-work
returns-clause-work g c plan site astray all now shelf rests ok opened used rejoined board back =
    at_work g.S.Agents.may plan site astray (ends_of (workers_of plan) now) (account_at rests) ok (all_joined g.S.Agents.may plan site astray all now shelf rests ok opened used rejoined board back)

pub returns-clause-none : goal.returns-clause-none
returns-clause-none g c plan site astray all now shelf rests ok opened used rejoined board back =
    none_astray g.S.Agents.may plan site astray (ends_of (workers_of plan) now) (account_at rests) ok (all_joined g.S.Agents.may plan site astray all now shelf rests ok opened used rejoined board back)
