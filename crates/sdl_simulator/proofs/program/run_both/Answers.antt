use Rattle.std.proofs.Common.{ℕ, List, Bor, ap, map}
use Rattle.sdl_simulator.proofs.Done.{done_of}
use Rattle.sdl_simulator.proofs.program.run_both.Goals as goal

pub returns-clause-done : goal.returns-clause-done
returns-clause-done g c =
    done_of (map (λ (w : Bor (List ℕ)). w.now) c.args.chosen.words.now) c.args.chosen.chart c.args.chosen.options c.args.chosen.audit (g.R.Read.remaining c.args.input.now) (g.R.Read.remaining c.run_listing.new.input)
    (g.W.Write.contents c.args.output.now) (g.W.Write.contents c.simulation_of.new.output) (g.W.Write.contents c.run_listing.new.output)
    c.in-Some.simulation.prepared c.in-Some.simulation.listing.items c.run_listing.result
    c.in-Some.ensures.ready c.in-Some.ensures.declared c.in-Some.ensures.described c.in-Some.ensures.asked.0 c.in-Some.ensures.asked.1 c.in-Some.ensures.chart
    (ap g.W.Write.contents c.simulation_of.ensures.unwritten) c.run_listing.ensures.made
