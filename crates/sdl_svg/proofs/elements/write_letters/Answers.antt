use Rattle.sdl_svg.specs.Elements.{letter_text}
use Rattle.sdl_svg.proofs.Texts.{loop_next}
use Rattle.sdl_svg.proofs.elements.write_letters.Goals as goal

pub loop-letter-preserved : goal.loop-letter-preserved
loop-letter-preserved g c =
    loop_next letter_text c.args.letters.now c.loop-letter.letter-index _ _ _ _
    c.loop-letter-test.true c.loop-letter.invariant c.in_ok-write_letter.ensures
