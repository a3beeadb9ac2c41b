use Rattle.std.proofs.Common.{rules, arith, ◌≡◌, [], ◌∷◌, ◌++◌, ◌+◌, ◌≤◌, length, take, filter_map, ap, ◌∙◌, sym}
use Rattle.std.proofs.lemmas.List.{length-append}
use Rattle.sdl_signal.specs.Names.{Lexicon}
use Rattle.sdl_structure_parts.specs.Structure.{system_gate_name}
use Rattle.sdl_structure_parts.proofs.NamesLemmas.{filter_map_more, filter_map_length}
use Rattle.sdl_structure_parts.proofs.structure.add_gates.Goals as goal

pub add_gate-requires-clause-few : goal.add_gate-requires-clause-few
add_gate-requires-clause-few c =
    let few = filter_map_length system_gate_name c.args.gates.now c.loop-gate.gate-index in
    let now = ap (λ (x : Lexicon). length x.gates) c.loop-gate.invariant ∙ length-append c.args.names.now.gates (filter_map system_gate_name (take c.loop-gate.gate-index c.args.gates.now)) in
    omega (arith, few, now, c.requires.few)

pub loop-gate-preserved : goal.loop-gate-preserved
loop-gate-preserved c =
    let more = filter_map_more system_gate_name c.args.gates.now c.loop-gate.gate-index c.gate-item.result c.args.names.now.gates c.loop-gate-test.true c.gate-item.is in
    c.in_ok-add_gate.ensures.ok ∙ ap (λ (x : Lexicon). record x { gates = x.gates ++ filter_map system_gate_name (c.gate-item.result ∷ []) }) c.loop-gate.invariant ∙ ap (λ gs. record c.args.names.now { gates = gs }) (sym more)
