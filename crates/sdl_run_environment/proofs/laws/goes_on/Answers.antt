use Rattle.sdl_run_outcome.proofs.Environment.{fresh_sound}
use Rattle.sdl_run_environment.proofs.EnvAgain.{fresh_read, fresh_written, sound_after, outlet_after}
use Rattle.sdl_run_environment.proofs.laws.goes_on.Goals as goal

pub returns-clause-read : goal.returns-clause-read
returns-clause-read c = fresh_read

pub returns-clause-written : goal.returns-clause-written
returns-clause-written c = fresh_written

pub returns-clause-sound : goal.returns-clause-sound
returns-clause-sound c = fresh_sound

pub returns-clause-again : goal.returns-clause-again
returns-clause-again c = λ structure routes worker old before answer new after. sound_after structure routes worker old before new after answer

pub returns-clause-outlet : goal.returns-clause-outlet
returns-clause-outlet c = λ structure routes worker old before answer new after. outlet_after structure routes worker old before new after answer
