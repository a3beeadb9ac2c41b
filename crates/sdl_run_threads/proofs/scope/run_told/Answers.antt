use denote.Param.Send.{sendable}
use Rattle.sdl_run_threads.proofs.scope.run_told.Goals as goal

pub scoped-requires : goal.scoped-requires
scoped-requires g c =
    record { at = λ a. ((c.requires.sound, c.requires.sound_environment, c.requires.few, c.requires.empty, c.requires.room), search sendable depth 60 fits 20000) }
