use Rattle.std.proofs.Common.{◌≡◌, ◌<◌, Some, take, ap, sym, subst, ◌∙◌, arith}
use Rattle.sdl_signal_lines.specs.Bytes.{HasNoNewline}
use Rattle.sdl_signal_lines.specs.Source.{Source, HandsOut, to_come}
use Rattle.sdl_signal.specs.Reading.{IsFirstFault}
use Rattle.sdl_signal.specs.Environment.{Reading, HasCarried, most_lines}
use Rattle.sdl_signal.proofs.Carried.{carried_more, read_whole, read_fault, read_over, too_much_over, read_bad, too_much_line}
use Rattle.sdl_signal.proofs.environment.EnvReader.next.Goals as goal

pub returns-in-Ok-clause-reading : goal.returns-in-Ok-clause-reading
returns-in-Ok-clause-reading g c start carried h =
    let a = c.self.inside in
    let line = take c.in-Line.count c.see.new.self.ahead in
    let Next : Source → Type 0 = λ s. HasNoNewline line × HandsOut (to_come a.source (g.R.Read.remaining c.args.input.now)) (to_come s (g.R.Read.remaining c.see.new.input)) line s.ended in
    let P : Reading → Type 0 = λ r. HasCarried c.args.names.now start (g.R.Read.remaining c.args.input.now) r carried in
    carried_more _ start (g.R.Read.remaining c.args.input.now) (g.R.Read.remaining c.see.new.input) (record { source = a.source; carried = a.carried }) c.pass.new.self carried line _
    (λ e. let same = (c.in-Line.ensures.ended _ e).0 in cc) (λ e. let n = c.in-Line.ensures.next e in subst Next (sym c.pass.ensures) (n.0, n.2)) (c.in-Ok.ensures.read ∙ ap Some c.line.ensures) c.in-Ok.ensures.first_named
    (subst P (sym c.self.view_is) h)

pub returns-in-Err-clause-reading : goal.returns-in-Err-clause-reading
returns-in-Err-clause-reading g c start carried h =
    let a = c.self.inside in
    let line = take c.in-Line.count c.see.new.self.ahead in
    let Next : Source → Type 0 = λ s. HasNoNewline line × HandsOut (to_come a.source (g.R.Read.remaining c.args.input.now)) (to_come s (g.R.Read.remaining c.see.new.input)) line s.ended in
    let P : Reading → Type 0 = λ r. HasCarried c.args.names.now start (g.R.Read.remaining c.args.input.now) r carried in
    let bad : IsFirstFault c.args.names.now line c.in-Err.fault = rw (← c.line.ensures) c.in-Err.ensures.fault in
    let few : a.carried < most_lines = omega (arith, c.if-full-2.false, c.self.invariant) in
    read_bad _ start (g.R.Read.remaining c.args.input.now) (g.R.Read.remaining c.see.new.input) (record { source = a.source; carried = a.carried }) c.pass.new.self carried line _
    (λ e. let same = (c.in-Line.ensures.ended _ e).0 in cc) (λ e. let n = c.in-Line.ensures.next e in subst Next (sym c.pass.ensures) (n.0, n.2)) bad few
    (subst P (sym c.self.view_is) h)

pub returns-then-full-2-clause-reading : goal.returns-then-full-2-clause-reading
returns-then-full-2-clause-reading g c start carried h =
    let a = c.self.inside in
    let line = take c.in-Line.count c.see.new.self.ahead in
    let Next : Source → Type 0 = λ s. HasNoNewline line × HandsOut (to_come a.source (g.R.Read.remaining c.args.input.now)) (to_come s (g.R.Read.remaining c.see.new.input)) line s.ended in
    let P : Reading → Type 0 = λ r. HasCarried c.args.names.now start (g.R.Read.remaining c.args.input.now) r carried in
    let full : a.carried ≡ most_lines = omega (arith, c.if-full-2.true) in
    too_much_line _ start (g.R.Read.remaining c.args.input.now) (g.R.Read.remaining c.see.new.input) (record { source = a.source; carried = a.carried }) c.pass.new.self carried line
    (λ e. let same = (c.in-Line.ensures.ended _ e).0 in cc) (λ e. let n = c.in-Line.ensures.next e in subst Next (sym c.pass.ensures) (n.0, n.2)) full
    (subst P (sym c.self.view_is) h)

pub returns-then-full-clause-reading : goal.returns-then-full-clause-reading
returns-then-full-clause-reading g c start carried h =
    let a = c.self.inside in
    let P : Reading → Type 0 = λ r. HasCarried c.args.names.now start (g.R.Read.remaining c.args.input.now) r carried in
    let full : a.carried ≡ most_lines = omega (arith, c.if-full.true) in
    too_much_over _ start (g.R.Read.remaining c.args.input.now) (g.R.Read.remaining c.see.new.input) (record { source = a.source; carried = a.carried }) c.see.new.self carried
    (λ e. let same = (c.in-Over.ensures.ended _ e).0 in cc) (λ e. let n = c.in-Over.ensures.next e in (n.0, n.1)) full
    (subst P (sym c.self.view_is) h)

pub returns-else-full-clause-reading : goal.returns-else-full-clause-reading
returns-else-full-clause-reading g c start carried h =
    let a = c.self.inside in
    let P : Reading → Type 0 = λ r. HasCarried c.args.names.now start (g.R.Read.remaining c.args.input.now) r carried in
    let few : a.carried < most_lines = omega (arith, c.if-full.false, c.self.invariant) in
    read_over _ start (g.R.Read.remaining c.args.input.now) (g.R.Read.remaining c.see.new.input) (record { source = a.source; carried = a.carried }) c.see.new.self carried
    (λ e. let same = (c.in-Over.ensures.ended _ e).0 in cc) (λ e. let n = c.in-Over.ensures.next e in (n.0, n.1)) few
    (subst P (sym c.self.view_is) h)

pub returns-in-Done-clause-reading : goal.returns-in-Done-clause-reading
returns-in-Done-clause-reading g c start carried h =
    let a = c.self.inside in
    let P : Reading → Type 0 = λ r. HasCarried c.args.names.now start (g.R.Read.remaining c.args.input.now) r carried in
    read_whole _ start (g.R.Read.remaining c.args.input.now) (g.R.Read.remaining c.see.new.input) (record { source = a.source; carried = a.carried }) c.see.new.self carried
    (λ e. ap g.R.Read.remaining (c.in-Done.ensures.ended _ e).2) (λ e. let n = c.in-Done.ensures.next e in (n.0, n.1)) c.self.invariant
    (subst P (sym c.self.view_is) h)

pub returns-in-Fault-clause-reading : goal.returns-in-Fault-clause-reading
returns-in-Fault-clause-reading g c start carried h =
    let a = c.self.inside in
    let P : Reading → Type 0 = λ r. HasCarried c.args.names.now start (g.R.Read.remaining c.args.input.now) r carried in
    read_fault _ start (g.R.Read.remaining c.args.input.now) (g.R.Read.remaining c.see.new.input) (record { source = a.source; carried = a.carried }) c.see.new.self carried
    (λ e. let same = (c.in-Fault.ensures.ended _ e).0 in cc) (λ e. let n = c.in-Fault.ensures.next e in (n.0, n.1, n.2)) c.self.invariant
    (subst P (sym c.self.view_is) h)

pub returns-in-Ok-clause-past : goal.returns-in-Ok-clause-past
returns-in-Ok-clause-past g c e h = (c.in-Line.ensures.ended e (ap (λ (r : Reading). r.source.ended) c.self.view_is ∙ h)).2

pub returns-in-Err-clause-past : goal.returns-in-Err-clause-past
returns-in-Err-clause-past g c e h = (c.in-Line.ensures.ended e (ap (λ (r : Reading). r.source.ended) c.self.view_is ∙ h)).2

pub returns-then-full-2-clause-past : goal.returns-then-full-2-clause-past
returns-then-full-2-clause-past g c e h = (c.in-Line.ensures.ended e (ap (λ (r : Reading). r.source.ended) c.self.view_is ∙ h)).2

pub returns-then-full-clause-past : goal.returns-then-full-clause-past
returns-then-full-clause-past g c e h = (c.in-Over.ensures.ended e (ap (λ (r : Reading). r.source.ended) c.self.view_is ∙ h)).2

pub returns-else-full-clause-past : goal.returns-else-full-clause-past
returns-else-full-clause-past g c e h = (c.in-Over.ensures.ended e (ap (λ (r : Reading). r.source.ended) c.self.view_is ∙ h)).2

pub returns-in-Done-clause-past : goal.returns-in-Done-clause-past
returns-in-Done-clause-past g c e h = (c.in-Done.ensures.ended e (ap (λ (r : Reading). r.source.ended) c.self.view_is ∙ h)).2

pub returns-in-Fault-clause-past : goal.returns-in-Fault-clause-past
returns-in-Fault-clause-past g c e h = (c.in-Fault.ensures.ended e (ap (λ (r : Reading). r.source.ended) c.self.view_is ∙ h)).2
