use denote.Text.{Utf8}
use denote.Shadow.{shadow}
use Rattle.sdl_explaining_places.proofs.reading.Reader.read.Given as goal

abbrev pub invariant-statements : goal.invariant-statements
invariant-statements l = shadow (Utf8 l.rest)
