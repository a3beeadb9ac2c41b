use Rattle.std.proofs.Common.{arith}
use Rattle.sdl_listing_body_text.proofs.Reading.{reads_nothing}
use Rattle.sdl_listing_body_text.proofs.BodyLemmas.{reads_semicolon}
use Rattle.sdl_listing_body_text.specs.Statements.{AreSemicolons}
use Rattle.sdl_listing_body_text.proofs.bodies.past_semicolons.Goals as goal

pub loop-rest-init : goal.loop-rest-init
loop-rest-init c = record {
  shorter = omega arith;
  spelled = λ last r. r;
}

pub loop-rest-preserved : goal.loop-rest-preserved
loop-rest-preserved c = record {
  shorter = omega (arith, c.in-Ok.ensures.shorter, c.loop-rest.invariant.shorter);
  spelled = λ last r. c.loop-rest.invariant.spelled last (reads_semicolon c.in-Ok.ensures.read r);
}

pub returns-clause-shorter : goal.returns-clause-shorter
returns-clause-shorter c = c.loop-rest.invariant.shorter

pub returns-clause-spelled : goal.returns-clause-spelled
returns-clause-spelled c = c.loop-rest.invariant.spelled c.loop-rest.here.tokens.now (reads_nothing AreSemicolons c.loop-rest.here.tokens.now tt)
