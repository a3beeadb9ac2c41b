use Rattle.std.proofs.Common.{Ok, Err}
use Rattle.sdl_signal.proofs.OneLine.{only_line, names_are_first, all_without_to}
use Rattle.sdl_signal.proofs.reading.read_line.Goals as goal

pub returns-in-Ok-clause-only : goal.returns-in-Ok-clause-only
returns-in-Ok-clause-only c =
    let r = c.in-Ok.ensures in
    only_line c.args.names.now c.args.line.now (Ok c.read_into.new.line) c.keep_rules.ensures r.read r.first_named r.fits tt

pub returns-in-Ok-clause-distinct : goal.returns-in-Ok-clause-distinct
returns-in-Ok-clause-distinct c = λ h l fits e.
    let r = c.in-Ok.ensures in
    only_line c.args.names.now c.args.line.now (Ok c.read_into.new.line) c.keep_rules.ensures r.read r.first_named r.fits tt l fits (names_are_first c.args.names.now h l c.args.line.now e) e

pub returns-in-Ok-clause-writable : goal.returns-in-Ok-clause-writable
returns-in-Ok-clause-writable c = all_without_to c.args.names.now c.args.line.now (Ok c.read_into.new.line) c.in-Ok.ensures.read

pub returns-in-Err-clause-only : goal.returns-in-Err-clause-only
returns-in-Err-clause-only c = only_line c.args.names.now c.args.line.now (Err c.in-Err.fault) c.keep_rules.ensures tt tt tt c.in-Err.ensures.fault

pub returns-in-Err-clause-distinct : goal.returns-in-Err-clause-distinct
returns-in-Err-clause-distinct c = λ h l fits e.
    only_line c.args.names.now c.args.line.now (Err c.in-Err.fault) c.keep_rules.ensures tt tt tt c.in-Err.ensures.fault l fits (names_are_first c.args.names.now h l c.args.line.now e) e
