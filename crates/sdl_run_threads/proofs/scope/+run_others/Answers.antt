use Rattle.std.proofs.Common.{◌≡◌, ◌+◌, ◌<◌, ◌≤◌, [], length, vec_len, vec_capacity, IfSome, sym, ◌∙◌, subst, arith}
use Rattle.std.proofs.lemmas.List.{nil_from_length}
use Rattle.std.proofs.lemmas.Bool.Decides.{Decides-eqb}
use Rattle.sdl_run_threads.specs.Back.{ComesBackFrom, HaveCome}
use Rattle.sdl_run_threads.specs.Kinds.{KeepsOneOf, SameOneOf}
use Rattle.sdl_run_threads.proofs.Coming.{none_came, last_came, has_room, others}
use Rattle.sdl_run_threads.proofs.scope.+run_others.Goals as goal

pub returns-then-is_empty-clause-workers : goal.returns-then-is_empty-clause-workers
returns-then-is_empty-clause-workers g t c =
    let workers = c.args.workers.now in
    let s = c.args.structure.now in
    let rows = c.args.routes.now in
    let comes = ComesBackFrom (KeepsOneOf (g.B.Work.keeps s rows) (g.F.Work.keeps s rows)) (SameOneOf g.B.Work.same g.F.Work.same) (KeepsOneOf g.B.Work.empty_handed g.F.Work.empty_handed) in
    let none : vec_len workers ≡ 0 = (Decides-eqb (vec_len workers) 0).0 (sym c.is_empty.ensures ∙ c.if-is_empty.true) in
    let o = workers.ok.0 in
    let nil : workers.items ≡ [] = nil_from_length workers.items (omega (arith, none, o)) in
    subst (λ ws. HaveCome comes ws c.args.done.now.items c.args.done.now.items) (sym nil) (none_came comes c.args.done.now.items)

pub run_others-refused-requires-clause-sound : goal.run_others-refused-requires-clause-sound
run_others-refused-requires-clause-sound g t c κs within =
    let starts = c.start_last-thread.ensures.starts in
    let s = c.args.structure.now in
    let rows = c.args.routes.now in
    others (KeepsOneOf (g.B.Work.keeps s rows) (g.F.Work.keeps s rows)) c.args.workers.now.items c.start_last-thread.new.workers.items starts.worker starts.last c.requires.sound

pub come_last-requires-clause-room : goal.come_last-requires-clause-room
come_last-requires-clause-room g t c =
    let started = c.start_last-thread in
    let come = c.run_others-refused in
    let workers = c.args.workers.now in
    let done = c.args.done.now in
    let back = come.new.done in
    let o = workers.ok.0 in
    let p = done.ok.0 in
    let q = back.ok.0 in
    let before : vec_capacity started.new.done ≡ vec_capacity done = started.ensures.room in
    let same : vec_capacity back ≡ vec_capacity started.new.done = come.ensures.room in
    let enough : vec_len workers + vec_len done ≤ vec_capacity done = c.requires.room in
    let fits : length workers.items + length done.items ≤ vec_capacity back = omega (arith, o, p, before, same, enough) in
    let count : length back.items ≡ vec_len back = omega (arith, q) in
    subst (λ n. IfSome started.result (λ t. n < vec_capacity back)) count
    (has_room _ _ workers.items started.new.workers.items done.items started.new.done.items back.items started.result started.ensures.starts come.ensures.workers (vec_capacity back) fits)

pub returns-clause-workers : goal.returns-clause-workers
returns-clause-workers g t c =
    let s = c.args.structure.now in
    let rows = c.args.routes.now in
    let same = SameOneOf g.B.Work.same g.F.Work.same in
    let empty = KeepsOneOf g.B.Work.empty_handed g.F.Work.empty_handed in
    let comes = ComesBackFrom (KeepsOneOf (g.B.Work.keeps s rows) (g.F.Work.keeps s rows)) same empty in
    let started = c.start_last-thread in
    let come = c.run_others-refused in
    let done = c.args.done.now in
    let p = done.ok.0 in
    let count : c.len-place.result ≡ vec_len done = c.len-place.ensures in
    let at : c.len-place.result ≡ length done.items = omega (arith, count, p) in
    last_came comes _ _
    (λ w t b r f.
    subst (λ x. ComesBackFrom (KeepsOneOf (g.B.Work.keeps s rows) (g.F.Work.keeps s rows)) same empty x b) r.0
    (subst (λ y. ComesBackFrom (KeepsOneOf (g.B.Work.keeps s y) (g.F.Work.keeps s y)) same empty t.promise.worker.value b) r.2
    (subst (λ z. ComesBackFrom (KeepsOneOf (g.B.Work.keeps z t.promise.routes.value) (g.F.Work.keeps z t.promise.routes.value)) same empty t.promise.worker.value b) r.1 f)))
    c.args.workers.now.items started.new.workers.items done.items started.new.done.items come.new.done.items c.come_last.new.done.items started.result c.len-place.result at started.ensures.starts come.ensures.workers c.come_last.ensures.joined c.come_last.ensures.moved
