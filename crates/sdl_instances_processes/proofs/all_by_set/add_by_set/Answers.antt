use Rattle.std.proofs.Common.{ℕ, List, ◌++◌, ◌∷◌, [], ap, sym, subst, arith}
use Rattle.sdl_signal.specs.declared.values.Pid.{Pid}
use Rattle.sdl_signal.specs.declared.values.Pid.TheVariants as pid
use Rattle.sdl_instances_processes.specs.Record.{Record}
use Rattle.sdl_instances_processes.specs.Places.{is_of, AreBySet}
use Rattle.sdl_instances_processes.proofs.SetPlaces.{by_set_none, by_set_one_more, by_set_same}
use Rattle.sdl_instances_processes.proofs.all_by_set.add_by_set.Goals as goal

pub returns-in_ok-make_room-in-Inst : goal.returns-in_ok-make_room-in-Inst
returns-in_ok-make_room-in-Inst c es r is are =
    let lists = c.make_room.new.self.lists in
    let sets = c.in_ok-make_room-in-Inst.ensures.sets in
    let kept = by_set_same c.args.by_set.now.lists lists es c.in_ok-make_room-in-Inst.ensures.same are in
    let more = by_set_one_more lists es c.in-Inst.set c.in-Inst.field-1 c.args.place r (omega (arith, sets)) is kept in
    let e : Pid × Record = (pid.Inst c.in-Inst.set c.in-Inst.field-1, r) in
    subst (λ (p : Pid). AreBySet c.add.new.self.lists (es ++ (p, r) ∷ [])) (sym c.in-Inst.is)
    (subst (λ (l : List (List ℕ)). AreBySet l (es ++ e ∷ [])) (sym c.add.ensures.lists) more)

pub returns-in-Null : goal.returns-in-Null
returns-in-Null c es r is are = by_set_none c.args.by_set.now.lists es (c.args.pid, r) (λ set. ap (is_of set) c.in-Null.is) are

pub returns-in-Env : goal.returns-in-Env
returns-in-Env c es r is are = by_set_none c.args.by_set.now.lists es (c.args.pid, r) (λ set. ap (is_of set) c.in-Env.is) are
