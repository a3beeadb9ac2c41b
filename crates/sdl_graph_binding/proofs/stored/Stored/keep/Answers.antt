use Rattle.std.proofs.Common.{not, Result, Ok, Err, IfOk, ap, ◌∙◌}
use Rattle.std.proofs.lemmas.Result.{IfOk-from_err}
use Rattle.sdl_graph_binding.proofs.Lists.{pushed, number_last}
use Rattle.sdl_graph_binding.proofs.stored.Stored.keep.Goals.{else-is_err-via-then-is_err+else-is_ok, else-is_err-via-else-is_err}
use Rattle.sdl_graph_binding.proofs.stored.Stored.keep.Goals as goal

-- what holds in any case
always : {T E P : Type 0} (r : Result T E) → P → IfOk r (λ _. P)
always (Ok _) p = p
always (Err _) p = tt

-- where the push took place, the list has the transition that was stored; where it did not, there is a fault
pub returns-clause-last : goal.returns-clause-last
returns-clause-last g c =
    let old = c.args.self.now.transitions.items in
    let new = c.push-pushed.new.self.items in
    let t = c.store_for_agents-stored.result in
    elim c.else-is_err.branch [
      | else-is_err-via-then-is_err+else-is_ok w ↦ IfOk-from_err c.args.self.now.breaches _ (w.is_ok.ensures.negation ∙ ap not w.if-is_ok.false)
      | else-is_err-via-else-is_err w ↦ always c.args.self.now.breaches (
        t,
        pushed c.push-pushed.result c.is_err.result old new t c.push-pushed.ensures.items c.is_err.ensures.negation w.if-is_err.false,
        c.store_for_agents-stored.ensures.number,
        c.store_for_agents-stored.ensures.offer,
      )
    ]

-- and its number behind the others
pub returns-clause-kept : goal.returns-clause-kept
returns-clause-kept g c =
    let old = c.args.self.now.transitions.items in
    let new = c.push-pushed.new.self.items in
    let t = c.store_for_agents-stored.result in
    elim c.else-is_err.branch [
      | else-is_err-via-then-is_err+else-is_ok w ↦ IfOk-from_err c.args.self.now.breaches _ (w.is_ok.ensures.negation ∙ ap not w.if-is_ok.false)
      | else-is_err-via-else-is_err w ↦ always c.args.self.now.breaches (number_last
          new
          old
          t
          c.args.number
          (pushed c.push-pushed.result c.is_err.result old new t c.push-pushed.ensures.items c.is_err.ensures.negation w.if-is_err.false)
          c.store_for_agents-stored.ensures.number)
    ]
