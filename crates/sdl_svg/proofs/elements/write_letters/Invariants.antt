use Rattle.std.proofs.Common.{take}
use Rattle.std.specs.Io.KnownBytes.{Appends}
use Rattle.sdl_svg.specs.Elements.{letters_text}
use Rattle.sdl_svg.proofs.elements.write_letters.Given as goal

abbrev pub invariant-loop-letter : goal.invariant-loop-letter
invariant-loop-letter g l = Appends (g.W.Write.contents l.fn.output) (g.W.Write.contents l.output) (letters_text (take l.letter-index l.letters))
