use Rattle.std.proofs.Common.{◌≡◌, map, take, string_bytes}
use Rattle.sdl_app_file_commands.proofs.words.shown_words.Given as goal

abbrev pub invariant-loop-word : goal.invariant-loop-word
invariant-loop-word l = map (λ w. w.now) l.shown.items ≡ map string_bytes (take l.word-index l.words)
