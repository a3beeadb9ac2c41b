use Rattle.sdl_run_environment.proofs.EnvReading.{read_so_far_is_all}
use Rattle.sdl_run_environment.proofs.laws.stops_reading.Goals as goal

pub returns : goal.returns
returns c = λ structure routes worker start now w sound. read_so_far_is_all structure routes worker start now w sound.few
