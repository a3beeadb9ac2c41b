use Rattle.std.proofs.Common.{length}
use Rattle.sdl_app_command.proofs.arguments.+has_word.Given as goal

abbrev pub decreases-has_word : goal.decreases-has_word
decreases-has_word l = length l.words.now
