use Rattle.std.proofs.Common.{◌≡◌, sym, ◌∙◌}
use Rattle.sdl_signal.proofs.Numbers.{integer_is_text, integer_parses, printed_integer}
use Rattle.std.proofs.lemmas.Bool.{false≢true}
use Rattle.sdl_signal.proofs.Named.{bytes_eq-same}
use Rattle.sdl_signal.proofs.reading.values.read_integer.Goals as goal

pub returns-in_default-clause-none : goal.returns-in_default-clause-none
returns-in_default-clause-none c = λ n fits e. c.in_default.ensures.cases.0 (integer_is_text n c.args.field.now fits e)

pub returns-in_default-parse-clause-none : goal.returns-in_default-parse-clause-none
returns-in_default-parse-clause-none c = λ n fits e.
    let r = integer_parses n c.in-Ok.text.now c.parse.result fits (e ∙ sym c.in-Ok.ensures.cases.0) c.parse.ensures.value.0 in
    cc

pub returns-else-eq-clause-none : goal.returns-else-eq-clause-none
returns-else-eq-clause-none c = λ n fits e.
    let r = integer_parses n c.in-Ok.text.now c.parse.result fits (e ∙ sym c.in-Ok.ensures.cases.0) c.parse.ensures.value.0 in
    let same : c.in-Ok-parse.number ≡ n = cc in
    let text : c.format.result.now ≡ c.in-Ok.text.now = c.format.ensures.text ∙ printed_integer c.in-Ok-parse.number n same fits ∙ e ∙ sym c.in-Ok.ensures.cases.0 in
    false≢true (sym c.if-eq.false ∙ c.eq.ensures ∙ bytes_eq-same c.format.result.now c.in-Ok.text.now text)
