use Rattle.std.proofs.Common.{get_or}
use Rattle.std.proofs.lemmas.Result.{IfOk-weaker}
use Rattle.sdl_graph_binding.specs.Transitions.{save_made}
use Rattle.sdl_graph_binding.proofs.Lists.{first_and_rest, saves_on}
use Rattle.sdl_graph_binding.proofs.set_behaviour.+with_saves.Goals as goal

pub returns-in_ok-with_save-in-len1-up-clause-saves : goal.returns-in_ok-with_save-in-len1-up-clause-saves
returns-in_ok-with_save-in-len1-up-clause-saves g t c =
    let saves = c.args.saves.now in
    IfOk-weaker c.with_saves.result _ _
    (λ b more. saves_on save_made b.saves.items c.in_ok-with_save-in-len1-up.field-0.saves.items c.args.behaviour.saves.items (get_or saves 0 _) saves _
    more c.in_ok-with_save-in-len1-up.ensures.added (first_and_rest saves _ c.in-len1-up.len_at_least))
    c.with_saves.ensures.saves
