use Rattle.std.proofs.Common.{◌≢◌, ◌+◌, codes, sym, ◌∙◌, rules}
use Rattle.std.proofs.lemmas.List.{take_rest}
use Rattle.sdl_signal.proofs.Texts.{no_pid_without_colon, no_pid_without_set, no_pid_without_serial, inst_from_parts}
use Rattle.sdl_signal.proofs.reading.values.read_pid.Goals as goal

pub returns-in_default-clause-none : goal.returns-in_default-clause-none
returns-in_default-clause-none c =
    let n : c.args.field.now ≢ codes "null" = search rules in
    let e : c.args.field.now ≢ codes "env" = search rules in
    no_pid_without_colon c.args.names.now c.args.field.now c.keep_rules.ensures n e (sym c.colon_of.ensures.place ∙ c.in_default.is)

pub returns-in_default-set_named-clause-none : goal.returns-in_default-set_named-clause-none
returns-in_default-set_named-clause-none c =
    let n : c.args.field.now ≢ codes "null" = search rules in
    let e : c.args.field.now ≢ codes "env" = search rules in
    no_pid_without_set c.args.names.now c.args.field.now c.in-Some.place c.keep_rules.ensures n e (sym c.colon_of.ensures.place ∙ c.in-Some.is) c.in_default-set_named.ensures.absent

pub returns-in_default-read_serial-clause-none : goal.returns-in_default-read_serial-clause-none
returns-in_default-read_serial-clause-none c =
    let n : c.args.field.now ≢ codes "null" = search rules in
    let e : c.args.field.now ≢ codes "env" = search rules in
    let t = c.args.field.now in
    let rest = take_rest t (c.in-Some.place + 1) in
    no_pid_without_serial c.args.names.now t c.in-Some.place c.keep_rules.ensures n e (sym c.colon_of.ensures.place ∙ c.in-Some.is)
    (λ k low fits is. c.in_default-read_serial.ensures.none k low fits (is ∙ sym rest))

pub returns-clause-some : goal.returns-clause-some
returns-clause-some c =
    let t = c.args.field.now in
    inst_from_parts c.args.names.now c.in-Some-set_named.set c.in-Some-read_serial.serial c.in-Some.place t (sym c.colon_of.ensures.place ∙ c.in-Some.is) c.in-Some-set_named.ensures.found.0 (c.in-Some-read_serial.ensures.some ∙ take_rest t (c.in-Some.place + 1)) c.in-Some-read_serial.ensures.fits.0
