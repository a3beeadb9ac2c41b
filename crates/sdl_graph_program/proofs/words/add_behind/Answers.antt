use Rattle.std.proofs.Common.{map, codes, Bor, ℕ, List, sym, ap, ◌∙◌}
use Rattle.sdl_app_command.specs.Arguments.{has}
use Rattle.sdl_graph_program.proofs.Behind.{before, both_added}
use Rattle.sdl_graph_program.proofs.words.add_behind.Goals as goal

pub returns-in_ok-push-in-Some-clause-words : goal.returns-in_ok-push-in-Some-clause-words
returns-in_ok-push-in-Some-clause-words c =
    ap (map (λ (w : Bor (List ℕ)). w.now)) c.in_ok-push-in-Some.ensures.items
    ∙ both_added c.args.words.now c.in-Some.options.now c.args.plain.now.items c.add_options.new.plain.items c.in-Some.file.now c.in-Some.ensures.cases.0 c.in_ok-audit-in-Some.ensures.words

pub returns-in_ok-push-in-Some-clause-audit : goal.returns-in_ok-push-in-Some-clause-audit
returns-in_ok-push-in-Some-clause-audit c =
    c.in_ok-audit-in-Some.ensures.audit ∙ ap (has (codes "--audit")) (sym (before c.args.words.now c.in-Some.options.now c.in-Some.file.now c.in-Some.ensures.cases.0))
