use Rattle.std.proofs.Common.{◌≡◌, ◌≤◌, ◌+◌, ◌++◌, List, ℕ, length, take, drop, subst, ap, ◌∙◌}
use Rattle.sdl_signal_lines.specs.Bytes.{HasNoNewline, BeginsTooLong, ended_line}
use Rattle.sdl_signal_lines.proofs.Waiting.{first_line, no_line_yet, too_long_line}
use Rattle.sdl_signal_lines.proofs.sources.LineSource.waiting.Goals as goal

pub returns-in-None : goal.returns-in-None
returns-in-None c =
    let e : c.as_slice-waiting.result.now ≡ c.args.self.now.ahead = c.as_slice-waiting.ensures ∙ ap (λ s. s.ahead) c.self.view_is in
    subst BeginsTooLong e (too_long_line _ _ c.min-shown.ensures c.if-shown-gt-LONGEST_LINE.true c.in-None.ensures.none)

pub returns-in-None-2 : goal.returns-in-None-2
returns-in-None-2 c =
    let e : c.as_slice-waiting.result.now ≡ c.args.self.now.ahead = c.as_slice-waiting.ensures ∙ ap (λ s. s.ahead) c.self.view_is in
    let P : List ℕ → Type 0 = λ w. HasNoNewline w × (length w ≤ 320) in
    subst P e (no_line_yet _ _ c.min-shown.ensures c.if-shown-gt-LONGEST_LINE.false c.in-None.ensures.none)

pub returns-in-Some : goal.returns-in-Some
returns-in-Some c =
    let place = c.in-Some.place in
    let e : c.as_slice-waiting.result.now ≡ c.args.self.now.ahead = c.as_slice-waiting.ensures ∙ ap (λ s. s.ahead) c.self.view_is in
    let P : List ℕ → Type 0 = λ w. (w ≡ ended_line (take place w) ++ drop (place + 1) w) × HasNoNewline (take place w) × (place ≤ 320) × (place + 1 ≤ length w) in
    subst P e (first_line _ _ _ c.min-shown.ensures c.in-Some.ensures.found c.in-Some.ensures.newline c.in-Some.ensures.before)
