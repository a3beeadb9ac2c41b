use Rattle.std.proofs.Common.{◌≡◌, ◌<◌, ◌++◌, ◌∷◌, [], List, All, length, ap, sym, subst, ◌∙◌, arith}
use Rattle.sdl_signal.specs.declared.values.Pid.{Pid}
use Rattle.sdl_signal.specs.declared.values.Pid.TheVariants as pid
use Rattle.sdl_instances_processes.specs.Record.{Record}
use Rattle.std.specs.Map.{values_of}
use Rattle.sdl_instances_processes.specs.Places.{Listed, AreBySet}
use Rattle.sdl_instances_processes.specs.Ready.{AreReadyCounts, room_of}
use Rattle.sdl_instances_processes.proofs.Entries.{insert_last}
use Rattle.sdl_instances_processes.proofs.ReadyCounts.{entry_fits, entry_is_ready, entry_is_not, entry_long}
use Rattle.sdl_instances_processes.proofs.SetPlaces.{by_set_one_more}
use Rattle.sdl_instances_processes.proofs.living_instances.Instances.add.Goals as goal

pub note-requires : goal.note-requires
note-requires c =
    let es = c.self.inside.map.entries in
    let all = ap (λ (l : Listed). l.entries) c.self.view_is in
    let new : Pid × Record = (pid.Inst c.args.set c.args.serial, c.args.instance) in
    let absent = subst (λ (l : List (Pid × Record)). All (λ (e : Pid × Record). pid.Inst c.args.set c.args.serial ≡ e.0 → ⊥) l) (sym all) c.requires.absent in
    let last = c.in-Ok.ensures.entries ∙ insert_last es (pid.Inst c.args.set c.args.serial) c.args.instance absent in
    let place = c.len-place.result in
    let long = c.len-place.ensures.len in
    let lists = c.self.inside.by_set.lists in
    let within = subst (λ (l : Listed). c.args.set.0 < l.sets) (sym c.self.view_is) c.requires.set in
    let creatable = subst (λ (l : Listed). 0 < l.creatable) (sym c.self.view_is) c.requires.room in
    let room : length es < room_of c.self.inside.ready = omega (arith, creatable) in
    let more = entry_is_ready c.self.inside.ready es new.0 new.1 room c.self.invariant.0 place (omega (arith, long)) (sym c.is_ready-is_ready.ensures ∙ c.if-is_ready.true) in
    let fits = entry_fits c.self.inside.ready es new.0 new.1 room c.self.invariant.0 in
    (values_of es, values_of (es ++ new ∷ []), c.self.invariant.0, more, fits, let longer = entry_long c.self.inside.ready es new.0 new.1 room c.self.invariant.0 in omega (arith, longer, long))

pub invariant_of-self : goal.invariant_of-self
invariant_of-self c =
    let es = c.self.inside.map.entries in
    let all = ap (λ (l : Listed). l.entries) c.self.view_is in
    let new : Pid × Record = (pid.Inst c.args.set c.args.serial, c.args.instance) in
    let absent = subst (λ (l : List (Pid × Record)). All (λ (e : Pid × Record). pid.Inst c.args.set c.args.serial ≡ e.0 → ⊥) l) (sym all) c.requires.absent in
    let last = c.in-Ok.ensures.entries ∙ insert_last es (pid.Inst c.args.set c.args.serial) c.args.instance absent in
    let place = c.len-place.result in
    let long = c.len-place.ensures.len in
    let lists = c.self.inside.by_set.lists in
    let within = subst (λ (l : Listed). c.args.set.0 < l.sets) (sym c.self.view_is) c.requires.set in
    let creatable = subst (λ (l : Listed). 0 < l.creatable) (sym c.self.view_is) c.requires.room in
    let room : length es < room_of c.self.inside.ready = omega (arith, creatable) in
    let more = entry_is_ready c.self.inside.ready es new.0 new.1 room c.self.invariant.0 place (omega (arith, long)) (sym c.is_ready-is_ready.ensures ∙ c.if-is_ready.true) in
    let fits = entry_fits c.self.inside.ready es new.0 new.1 room c.self.invariant.0 in (
      subst (λ (l : List (Pid × Record)). AreReadyCounts c.note.new.self (values_of l)) (sym last) (c.note.ensures.counts (values_of es) (values_of (es ++ new ∷ [])) c.self.invariant.0 more fits),
      subst (AreBySet c.add.new.self.lists) (sym last) (subst (λ l. AreBySet l (es ++ new ∷ [])) (sym c.add.ensures.lists) (by_set_one_more lists es c.args.set c.args.serial place c.args.instance within long c.self.invariant.1)),
    )

pub invariant_of-self-else-is_ready : goal.invariant_of-self-else-is_ready
invariant_of-self-else-is_ready c =
    let es = c.self.inside.map.entries in
    let all = ap (λ (l : Listed). l.entries) c.self.view_is in
    let new : Pid × Record = (pid.Inst c.args.set c.args.serial, c.args.instance) in
    let absent = subst (λ (l : List (Pid × Record)). All (λ (e : Pid × Record). pid.Inst c.args.set c.args.serial ≡ e.0 → ⊥) l) (sym all) c.requires.absent in
    let last = c.in-Ok.ensures.entries ∙ insert_last es (pid.Inst c.args.set c.args.serial) c.args.instance absent in
    let place = c.len-place.result in
    let long = c.len-place.ensures.len in
    let lists = c.self.inside.by_set.lists in
    let within = subst (λ (l : Listed). c.args.set.0 < l.sets) (sym c.self.view_is) c.requires.set in
    let creatable = subst (λ (l : Listed). 0 < l.creatable) (sym c.self.view_is) c.requires.room in
    let room : length es < room_of c.self.inside.ready = omega (arith, creatable) in (
      subst (λ (l : List (Pid × Record)). AreReadyCounts c.self.inside.ready (values_of l)) (sym last) (entry_is_not c.self.inside.ready es new.0 new.1 room c.self.invariant.0 (sym c.is_ready-is_ready.ensures ∙ c.if-is_ready.false)),
      subst (AreBySet c.add.new.self.lists) (sym last) (subst (λ l. AreBySet l (es ++ new ∷ [])) (sym c.add.ensures.lists) (by_set_one_more lists es c.args.set c.args.serial place c.args.instance within long c.self.invariant.1)),
    )

pub returns-then-is_ready-clause-entries : goal.returns-then-is_ready-clause-entries
returns-then-is_ready-clause-entries c =
    let es = c.self.inside.map.entries in
    let all = ap (λ (l : Listed). l.entries) c.self.view_is in
    let new : Pid × Record = (pid.Inst c.args.set c.args.serial, c.args.instance) in
    let absent = subst (λ (l : List (Pid × Record)). All (λ (e : Pid × Record). pid.Inst c.args.set c.args.serial ≡ e.0 → ⊥) l) (sym all) c.requires.absent in
    let last = c.in-Ok.ensures.entries ∙ insert_last es (pid.Inst c.args.set c.args.serial) c.args.instance absent in
    last ∙ ap (λ (l : List (Pid × Record)). l ++ new ∷ []) all

pub returns-else-is_ready-clause-entries : goal.returns-else-is_ready-clause-entries
returns-else-is_ready-clause-entries c =
    let es = c.self.inside.map.entries in
    let all = ap (λ (l : Listed). l.entries) c.self.view_is in
    let new : Pid × Record = (pid.Inst c.args.set c.args.serial, c.args.instance) in
    let absent = subst (λ (l : List (Pid × Record)). All (λ (e : Pid × Record). pid.Inst c.args.set c.args.serial ≡ e.0 → ⊥) l) (sym all) c.requires.absent in
    let last = c.in-Ok.ensures.entries ∙ insert_last es (pid.Inst c.args.set c.args.serial) c.args.instance absent in
    last ∙ ap (λ (l : List (Pid × Record)). l ++ new ∷ []) all
