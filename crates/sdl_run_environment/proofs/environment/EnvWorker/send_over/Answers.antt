use Rattle.std.proofs.Common.{Ok, Err, ap, subst, refl}
use Rattle.sdl_signal.specs.Names.{Lexicon}
use Rattle.sdl_structure_parts.specs.Structure.{lexicon_of}
use Rattle.sdl_block_hand.specs.Work.{beginning_at}
use Rattle.sdl_run_outcome.specs.EnvironmentWork.{EnvWorking}
use Rattle.sdl_run_environment.specs.EnvPhases.{Reads}
use Rattle.sdl_run_environment.proofs.EnvSending.{put_part, sends_at_put, sends_at_read, sends_at_last, sends_whole, sent_on, sends_refused, refused_none, read_sound, ways_of, ways_put}
use Rattle.sdl_run_environment.proofs.EnvStepping.{read_after_put, read_then}
use Rattle.sdl_run_environment.proofs.environment.EnvWorker.send_over.Goals as goal

pub put_out-requires-clause-ways : goal.put_out-requires-clause-ways
put_out-requires-clause-ways g c =
    ways_of g.Q.Queues.relations c.args.routes.now c.args.queues.now c.requires.ways c.args.self.now.outgoing c.requires.sound.coming

pub put_out-requires-2-clause-routed : goal.put_out-requires-2-clause-routed
put_out-requires-2-clause-routed g c =
    let q = g.Q.Queues.relations in
    let s = c.args.structure.now in
    let rows = c.args.routes.now in
    let old = c.args.self.now in
    let e0 = c.args.queues.now in
    let w1 = c.put_out.new.self in
    let e1 = c.put_out.new.queues in
    let p1 = put_part q s rows old.number (Ok c.in_ok-put.put) old e0 w1 e1 c.in_ok-put.ensures.put c.in_ok-put.ensures.rest c.requires.sound in
    let reads = subst (λ (x : Lexicon). Reads x rows w1 (Ok c.in_ok-read.read) c.read_one.new.self) c.names-names.ensures c.in_ok-read.ensures.read in
    let sound = read_sound q s rows old.number old e0 (Ok c.in_ok-put.put) w1 e1 p1 (p1.empty c.in_ok-put.put refl) (Ok c.in_ok-read.read) c.read_one.new.self reads in
    λ k d within. let legal = sound.legal k d within in (legal.carried.0, legal.carried.1)

pub put_out-requires-2-clause-ways : goal.put_out-requires-2-clause-ways
put_out-requires-2-clause-ways g c =
    let q = g.Q.Queues.relations in
    let s = c.args.structure.now in
    let rows = c.args.routes.now in
    let old = c.args.self.now in
    let e0 = c.args.queues.now in
    let w1 = c.put_out.new.self in
    let e1 = c.put_out.new.queues in
    let p1 = put_part q s rows old.number (Ok c.in_ok-put.put) old e0 w1 e1 c.in_ok-put.ensures.put c.in_ok-put.ensures.rest c.requires.sound in
    let reads = subst (λ (x : Lexicon). Reads x rows w1 (Ok c.in_ok-read.read) c.read_one.new.self) c.names-names.ensures c.in_ok-read.ensures.read in
    let sound = read_sound q s rows old.number old e0 (Ok c.in_ok-put.put) w1 e1 p1 (p1.empty c.in_ok-put.put refl) (Ok c.in_ok-read.read) c.read_one.new.self reads in
    ways_of q rows e1 (ways_put q rows (λ t. beginning_at rows t p1.put) e0 e1 p1.sending.puts c.requires.ways) c.read_one.new.self.outgoing sound.coming

pub returns-in_err-put-clause-sends : goal.returns-in_err-put-clause-sends
returns-in_err-put-clause-sends g c =
    let q = g.Q.Queues.relations in
    let s = c.args.structure.now in
    let rows = c.args.routes.now in
    let old = c.args.self.now in
    let e0 = c.args.queues.now in
    let w1 = c.put_out.new.self in
    let e1 = c.put_out.new.queues in
    let p1 = put_part q s rows old.number (Err c.in_err-put.field-0.0) old e0 w1 e1 c.in_err-put.ensures.put c.in_err-put.ensures.rest c.requires.sound in
    sends_refused q s rows old.number c.from_residual.result c.from_residual.ensures.0 old e0 w1 e1 (sends_at_put q s rows old.number c.in_err-put.field-0.0 old e0 w1 e1 p1)

pub returns-in_err-read-clause-sends : goal.returns-in_err-read-clause-sends
returns-in_err-read-clause-sends g c =
    let q = g.Q.Queues.relations in
    let s = c.args.structure.now in
    let rows = c.args.routes.now in
    let old = c.args.self.now in
    let e0 = c.args.queues.now in
    let w1 = c.put_out.new.self in
    let e1 = c.put_out.new.queues in
    let p1 = put_part q s rows old.number (Ok c.in_ok-put.put) old e0 w1 e1 c.in_ok-put.ensures.put c.in_ok-put.ensures.rest c.requires.sound in
    let reads = subst (λ (x : Lexicon). Reads x rows w1 (Err c.in_err-read.field-0.0) c.read_one.new.self) c.names-names.ensures c.in_err-read.ensures.read in
    sends_refused q s rows old.number c.from_residual-in_err-read.result c.from_residual-in_err-read.ensures.0 old e0 c.read_one.new.self e1 (sends_at_read q s rows old.number old e0 (Ok c.in_ok-put.put) w1 e1 p1 (p1.empty c.in_ok-put.put refl) (Err c.in_err-read.field-0.0) c.read_one.new.self reads)

pub returns-in_err-put_out-clause-sends : goal.returns-in_err-put_out-clause-sends
returns-in_err-put_out-clause-sends g c =
    let q = g.Q.Queues.relations in
    let s = c.args.structure.now in
    let rows = c.args.routes.now in
    let old = c.args.self.now in
    let e0 = c.args.queues.now in
    let w1 = c.put_out.new.self in
    let e1 = c.put_out.new.queues in
    let p1 = put_part q s rows old.number (Ok c.in_ok-put.put) old e0 w1 e1 c.in_ok-put.ensures.put c.in_ok-put.ensures.rest c.requires.sound in
    let reads = subst (λ (x : Lexicon). Reads x rows w1 (Ok c.in_ok-read.read) c.read_one.new.self) c.names-names.ensures c.in_ok-read.ensures.read in
    let sound = read_sound q s rows old.number old e0 (Ok c.in_ok-put.put) w1 e1 p1 (p1.empty c.in_ok-put.put refl) (Ok c.in_ok-read.read) c.read_one.new.self reads in
    let p3 = put_part q s rows old.number (Err c.in_err-put_out.field-0.0) c.read_one.new.self e1 c.put_out-2.new.self c.put_out-2.new.queues c.in_err-put_out.ensures.put c.in_err-put_out.ensures.rest sound in
    sends_refused q s rows old.number c.from_residual-in_err-put_out.result c.from_residual-in_err-put_out.ensures.0 old e0 c.put_out-2.new.self c.put_out-2.new.queues
    (sends_at_last q s rows old.number old e0 (Ok c.in_ok-put.put) w1 e1 p1 (p1.empty c.in_ok-put.put refl) (Ok c.in_ok-read.read) c.read_one.new.self reads (Err c.in_err-put_out.field-0.0) c.put_out-2.new.self c.put_out-2.new.queues p3)

pub returns-clause-sends : goal.returns-clause-sends
returns-clause-sends g c =
    let q = g.Q.Queues.relations in
    let s = c.args.structure.now in
    let rows = c.args.routes.now in
    let old = c.args.self.now in
    let e0 = c.args.queues.now in
    let w1 = c.put_out.new.self in
    let e1 = c.put_out.new.queues in
    let p1 = put_part q s rows old.number (Ok c.in_ok-put.put) old e0 w1 e1 c.in_ok-put.ensures.put c.in_ok-put.ensures.rest c.requires.sound in
    let reads = subst (λ (x : Lexicon). Reads x rows w1 (Ok c.in_ok-read.read) c.read_one.new.self) c.names-names.ensures c.in_ok-read.ensures.read in
    let sound = read_sound q s rows old.number old e0 (Ok c.in_ok-put.put) w1 e1 p1 (p1.empty c.in_ok-put.put refl) (Ok c.in_ok-read.read) c.read_one.new.self reads in
    let p3 = put_part q s rows old.number (Ok c.in_ok-put_out.field-0) c.read_one.new.self e1 c.put_out-2.new.self c.put_out-2.new.queues c.in_ok-put_out.ensures.put c.in_ok-put_out.ensures.rest sound in
    sends_whole q s rows old.number old e0 (Ok c.in_ok-put.put) w1 e1 p1 (p1.empty c.in_ok-put.put refl) (Ok c.in_ok-read.read) c.read_one.new.self reads (Ok c.in_ok-put_out.field-0) c.put_out-2.new.self c.put_out-2.new.queues p3 c.in_ok-put.put c.in_ok-read.read c.in_ok-put_out.field-0 refl refl refl

pub returns-clause-on : goal.returns-clause-on
returns-clause-on g c =
    let q = g.Q.Queues.relations in
    let s = c.args.structure.now in
    let rows = c.args.routes.now in
    let old = c.args.self.now in
    let e0 = c.args.queues.now in
    let w1 = c.put_out.new.self in
    let e1 = c.put_out.new.queues in
    let p1 = put_part q s rows old.number (Ok c.in_ok-put.put) old e0 w1 e1 c.in_ok-put.ensures.put c.in_ok-put.ensures.rest c.requires.sound in
    let reads = subst (λ (x : Lexicon). Reads x rows w1 (Ok c.in_ok-read.read) c.read_one.new.self) c.names-names.ensures c.in_ok-read.ensures.read in
    let sound = read_sound q s rows old.number old e0 (Ok c.in_ok-put.put) w1 e1 p1 (p1.empty c.in_ok-put.put refl) (Ok c.in_ok-read.read) c.read_one.new.self reads in
    let p3 = put_part q s rows old.number (Ok c.in_ok-put_out.field-0) c.read_one.new.self e1 c.put_out-2.new.self c.put_out-2.new.queues c.in_ok-put_out.ensures.put c.in_ok-put_out.ensures.rest sound in
    sent_on q s rows old.number old e0 (Ok c.in_ok-put.put) w1 e1 p1 (p1.empty c.in_ok-put.put refl) (Ok c.in_ok-read.read) c.read_one.new.self reads (Ok c.in_ok-put_out.field-0) c.put_out-2.new.self c.put_out-2.new.queues p3 c.in_ok-read.read c.in_ok-put_out.field-0 refl refl

pub returns-in_err-put-clause-on : goal.returns-in_err-put-clause-on
returns-in_err-put-clause-on g c =
    refused_none _ c.from_residual.result c.from_residual.ensures.0

pub returns-in_err-read-clause-on : goal.returns-in_err-read-clause-on
returns-in_err-read-clause-on g c =
    refused_none _ c.from_residual-in_err-read.result c.from_residual-in_err-read.ensures.0

pub returns-in_err-put_out-clause-on : goal.returns-in_err-put_out-clause-on
returns-in_err-put_out-clause-on g c =
    refused_none _ c.from_residual-in_err-put_out.result c.from_residual-in_err-put_out.ensures.0

pub returns-in_err-read-clause-reading : goal.returns-in_err-read-clause-reading
returns-in_err-read-clause-reading g c =
    λ start read.
    let q = g.Q.Queues.relations in
    let s = c.args.structure.now in
    let rows = c.args.routes.now in
    let old = c.args.self.now in
    let e0 = c.args.queues.now in
    let w1 = c.put_out.new.self in
    let e1 = c.put_out.new.queues in
    let before = g.R.Read.remaining c.args.input.now in
    let after = g.R.Read.remaining c.read_one.new.input in
    let known = lexicon_of s in
    let put = read_after_put known rows old.number start before old w1 c.in_ok-put.ensures.rest read in
    let number = ap (λ (w : EnvWorking). w.number) c.in_ok-put.ensures.rest in
    let more = read_then c.names-names.result.now known rows w1.number old.number start before after w1 c.read_one.new.self c.names-names.ensures number (c.in_err-read.ensures.reading start) put in
    more

pub returns-in_err-put_out-clause-reading : goal.returns-in_err-put_out-clause-reading
returns-in_err-put_out-clause-reading g c =
    λ start read.
    let q = g.Q.Queues.relations in
    let s = c.args.structure.now in
    let rows = c.args.routes.now in
    let old = c.args.self.now in
    let e0 = c.args.queues.now in
    let w1 = c.put_out.new.self in
    let e1 = c.put_out.new.queues in
    let before = g.R.Read.remaining c.args.input.now in
    let after = g.R.Read.remaining c.read_one.new.input in
    let known = lexicon_of s in
    let put = read_after_put known rows old.number start before old w1 c.in_ok-put.ensures.rest read in
    let number = ap (λ (w : EnvWorking). w.number) c.in_ok-put.ensures.rest in
    let more = read_then c.names-names.result.now known rows w1.number old.number start before after w1 c.read_one.new.self c.names-names.ensures number (c.in_ok-read.ensures.reading start) put in
    read_after_put known rows old.number start after c.read_one.new.self c.put_out-2.new.self c.in_err-put_out.ensures.rest more

pub returns-clause-reading : goal.returns-clause-reading
returns-clause-reading g c =
    λ start read.
    let q = g.Q.Queues.relations in
    let s = c.args.structure.now in
    let rows = c.args.routes.now in
    let old = c.args.self.now in
    let e0 = c.args.queues.now in
    let w1 = c.put_out.new.self in
    let e1 = c.put_out.new.queues in
    let before = g.R.Read.remaining c.args.input.now in
    let after = g.R.Read.remaining c.read_one.new.input in
    let known = lexicon_of s in
    let put = read_after_put known rows old.number start before old w1 c.in_ok-put.ensures.rest read in
    let number = ap (λ (w : EnvWorking). w.number) c.in_ok-put.ensures.rest in
    let more = read_then c.names-names.result.now known rows w1.number old.number start before after w1 c.read_one.new.self c.names-names.ensures number (c.in_ok-read.ensures.reading start) put in
    read_after_put known rows old.number start after c.read_one.new.self c.put_out-2.new.self c.in_ok-put_out.ensures.rest more
