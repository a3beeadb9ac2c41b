use Rattle.std.proofs.Common.{Option, Some, None, IfSome, get_or}
use Rattle.sdl_graph_binding.proofs.Lists.{first_and_rest, states_on}
use Rattle.sdl_graph_binding.proofs.set_behaviour.+with_states.Goals as goal

-- what a fact of the value implies holds of it too
some_weaker : {X : Type 0} (o : Option X) (P Q : X → Type 0) → ((x : X) → P x → Q x) → IfSome o P → IfSome o Q
some_weaker None P Q implies p = tt
some_weaker (Some x) P Q implies p = implies x p

pub returns-in-Ok : goal.returns-in-Ok
returns-in-Ok t c =
    let texts = c.args.texts.now in
    some_weaker c.with_states.result _ _
    (λ names more. states_on (λ n. n.bytes) (λ s. s.now) names.items c.try_push.new.self.items c.args.states.items c.in_ok-name-in-len1-up.field-0 texts _ (get_or texts 0 _)
    more c.in-Ok.ensures.ok c.in_ok-name-in-len1-up.ensures.found.0 (first_and_rest texts _ c.in-len1-up.len_at_least))
    c.with_states.ensures
