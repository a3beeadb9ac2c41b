-- What is asked for with options is a run.
use Rattle.std.proofs.Common.{◌≡◌, ℕ, Bool, true, false, ◌||◌, if◌then◌else◌, List, [], ◌∷◌, Option, Some, None, option_map, refl, subst, codes, bytes_eq}
use Rattle.std.specs.List.{list_all}
use Rattle.sdl_app_command.specs.declared.arguments.Command.TheVariants as command
use Rattle.sdl_app_command.specs.declared.arguments.Options.{Options}
use Rattle.sdl_app_command.specs.Arguments.{is_option, has, last_word, words_before, options_in}
use Rattle.sdl_drawing_text.specs.declared.commands.Form.{Form}
use Rattle.sdl_drawing_text.specs.Words.{form_of}
use Rattle.sdl_chart_words.specs.declared.asked.Request.{Request}
use Rattle.sdl_chart_words.specs.Words.{request_of}
use Rattle.sdl_simulator.specs.declared.words.Asked.{Asked}
use Rattle.sdl_simulator.specs.declared.words.Asked.TheVariants as asked
use Rattle.sdl_simulator.specs.Words.{check_of, routes_of, structure_of, is_choice, chosen_of, run_with, run_of, chart_with, chart_of, asked_of}

abbrev Runs : Option Asked → Type 0
Runs None = Unit {0}
Runs (Some (asked.File c)) = Unit {0}
Runs (Some (asked.Structure f)) = Unit {0}
Runs (Some asked.Check) = Unit {0}
Runs (Some (asked.Run options audit)) = options.command ≡ command.Run
Runs (Some (asked.Chart r)) = Unit {0}

either : (b : Bool) (x y : Option Asked) → Runs x → Runs y → Runs (if b then x else y)
either true x y h k = h
either false x y h k = k

of_check : (words : List (List ℕ)) → Runs (check_of words)
of_check [] = tt
of_check (file ∷ []) = either (is_option file) None (Some (asked.File command.Check)) tt tt
of_check (file ∷ agents ∷ []) = either (is_option file || is_option agents) None (Some asked.Check) tt tt
of_check (file ∷ agents ∷ word ∷ words) = tt

of_routes : (words : List (List ℕ)) → Runs (routes_of words)
of_routes [] = tt
of_routes (file ∷ []) = either (is_option file) None (Some (asked.File command.Routes)) tt tt
of_routes (file ∷ agents ∷ words) = tt

of_form : (f : Option Form) → Runs (option_map asked.Structure f)
of_form None = tt
of_form (Some f) = tt

of_chosen : (chosen : List (List ℕ)) (file agents : List ℕ) → Runs (chosen_of chosen file agents)
of_chosen chosen file agents =
    let run : Option Asked = Some (asked.Run (options_in chosen) (has (codes "--audit") chosen)) in
    either (is_option file || is_option agents) None (if list_all is_choice chosen then run else None) tt
    (either (list_all is_choice chosen) run None refl tt)

of_with : (chosen : List (List ℕ)) (file agents : Option (List ℕ)) → Runs (run_with chosen file agents)
of_with chosen (Some file) (Some agents) = of_chosen chosen file agents
of_with chosen (Some file) None = tt
of_with chosen None agents = tt

of_run : (words : List (List ℕ)) → Runs (run_of words)
of_run words = of_with (words_before (words_before words)) (last_word (words_before words)) (last_word words)

of_request : (r : Option Request) → Runs (option_map asked.Chart r)
of_request None = tt
of_request (Some r) = tt

of_charted : (chosen : List (List ℕ)) (file agents : Option (List ℕ)) → Runs (chart_with chosen file agents)
of_charted chosen (Some file) (Some agents) = either (is_option file || is_option agents) None (option_map asked.Chart (request_of chosen)) tt (of_request (request_of chosen))
of_charted chosen (Some file) None = tt
of_charted chosen None agents = tt

of_chart : (words : List (List ℕ)) → Runs (chart_of words)
of_chart words = of_charted (words_before (words_before words)) (last_word (words_before words)) (last_word words)

of_asked : (words : List (List ℕ)) → Runs (asked_of words)
of_asked [] = tt
of_asked (word ∷ words) =
    let charts : Option Asked = if bytes_eq word (codes "chart") then chart_of words else None in
    let runs : Option Asked = if bytes_eq word (codes "run") then run_of words else charts in
    let pictures : Option Asked = if bytes_eq word (codes "structure") then structure_of words else runs in
    let routes : Option Asked = if bytes_eq word (codes "routes") then routes_of words else pictures in
    either (bytes_eq word (codes "check")) (check_of words) routes (of_check words)
    (either (bytes_eq word (codes "routes")) (routes_of words) pictures (of_routes words)
    (either (bytes_eq word (codes "structure")) (structure_of words) runs (of_form (form_of words))
    (either (bytes_eq word (codes "run")) (run_of words) charts (of_run words)
    (either (bytes_eq word (codes "chart")) (chart_of words) None (of_chart words) tt))))

pub run_asked : (words : List (List ℕ)) (options : Options) (audit : Bool) → asked_of words ≡ Some (asked.Run options audit) → options.command ≡ command.Run
run_asked words options audit is = subst Runs is (of_asked words)
