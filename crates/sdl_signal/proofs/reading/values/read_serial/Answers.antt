use Rattle.std.proofs.Common.{◌≡◌, sym, ap, ◌∙◌, decimal, arith}
use Rattle.sdl_signal.proofs.Numbers.{serial_is_text, serial_parses}
use Rattle.std.proofs.lemmas.Bool.{false≢true}
use Rattle.sdl_signal.proofs.Named.{bytes_eq-same}
use Rattle.sdl_signal.proofs.reading.values.read_serial.Goals as goal
use Rattle.sdl_signal.proofs.reading.values.read_serial.Goals.{else-number-gt0-via-then-number-gt0+else-eq, else-number-gt0-via-else-number-gt0}

pub returns-in_default-clause-none : goal.returns-in_default-clause-none
returns-in_default-clause-none c = λ n low fits e. c.in_default.ensures.cases.0 (serial_is_text n c.args.field.now fits e)

pub returns-in_default-parse-clause-none : goal.returns-in_default-parse-clause-none
returns-in_default-parse-clause-none c = λ n low fits e.
    let r = serial_parses n c.in-Ok.text.now c.parse.result fits (e ∙ sym c.in-Ok.ensures.cases.0) c.parse.ensures.value.0 in
    cc

pub returns-else-number-gt0-clause-none : goal.returns-else-number-gt0-clause-none
returns-else-number-gt0-clause-none c = λ n low fits e.
    let r = serial_parses n c.in-Ok.text.now c.parse.result fits (e ∙ sym c.in-Ok.ensures.cases.0) c.parse.ensures.value.0 in
    let same : c.in-Ok-parse.number ≡ n = cc in
    elim c.else-number-gt0.branch [
      | else-number-gt0-via-then-number-gt0+else-eq w ↦
          let text : w.format.result.now ≡ c.in-Ok.text.now = w.format.ensures.text ∙ ap decimal same ∙ e ∙ sym c.in-Ok.ensures.cases.0 in
          false≢true (sym w.if-eq.false ∙ w.eq.ensures ∙ bytes_eq-same w.format.result.now c.in-Ok.text.now text)
      | else-number-gt0-via-else-number-gt0 w ↦ omega (arith, same)
    ]
