use Rattle.std.proofs.Common.{◌≡◌, map, subst}
use Rattle.std.proofs.lemmas.Result.{IfOk-weaker}
use Rattle.sdl_graph_binding.specs.Transitions.{meant, made_as}
use Rattle.sdl_graph_binding.proofs.binding.bind_graph.Goals as goal

pub returns-clause-behaviours : goal.returns-clause-behaviours
returns-clause-behaviours g c =
    let all = c.in_ok-behaviours.behaviours.items in
    let designs = c.args.design.now.sets.now in
    let uses = c.args.design.now.uses.now in
    IfOk-weaker c.bound_of.result _ _
    (λ bound blocks. ∣ (
      all,
      subst (λ s. map (made_as s) all ≡ map (meant uses) designs) c.structure-structure.ensures.structure c.in_ok-behaviours.ensures.sets,
      c.in_ok-behaviours.ensures.taken,
      blocks,
    ) ∣₁)
    c.bound_of.ensures.behaviours
