use Rattle.sdl_run.proofs.Together.{came_back}
use Rattle.sdl_run.proofs.beside.run_until_told.Goals as goal

pub returns-clause-keeps : goal.returns-clause-keeps
returns-clause-keeps g c =
    let back = came_back _ _ _ c.run_workers-done.result.1 c.split_returned-environment.result.0 c.split_returned-environment.ensures.worker c.run_workers-done.ensures.environment in
    back.0

pub returns-clause-environment : goal.returns-clause-environment
returns-clause-environment g c =
    let back = came_back _ _ _ c.run_workers-done.result.1 c.split_returned-environment.result.0 c.split_returned-environment.ensures.worker c.run_workers-done.ensures.environment in
    back.1.0

pub returns-clause-input : goal.returns-clause-input
returns-clause-input g c =
    let back = came_back _ _ _ c.run_workers-done.result.1 c.split_returned-environment.result.0 c.split_returned-environment.ensures.worker c.run_workers-done.ensures.environment in
    back.1.1

pub returns-clause-output : goal.returns-clause-output
returns-clause-output g c =
    let back = came_back _ _ _ c.run_workers-done.result.1 c.split_returned-environment.result.0 c.split_returned-environment.ensures.worker c.run_workers-done.ensures.environment in
    back.1.2

pub returns-clause-started_input : goal.returns-clause-started_input
returns-clause-started_input g c =
    let back = came_back _ _ _ c.run_workers-done.result.1 c.split_returned-environment.result.0 c.split_returned-environment.ensures.worker c.run_workers-done.ensures.environment in
    back.1.3

pub returns-clause-started_output : goal.returns-clause-started_output
returns-clause-started_output g c =
    let back = came_back _ _ _ c.run_workers-done.result.1 c.split_returned-environment.result.0 c.split_returned-environment.ensures.worker c.run_workers-done.ensures.environment in
    back.1.4

pub returns-clause-ends : goal.returns-clause-ends
returns-clause-ends g c =
    let back = came_back _ _ _ c.run_workers-done.result.1 c.split_returned-environment.result.0 c.split_returned-environment.ensures.worker c.run_workers-done.ensures.environment in
    back.1.5
