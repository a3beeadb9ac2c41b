use Rattle.std.proofs.Common.{◌≡◌, ℕ, [], None, length, vec_len, refl, ap, sym, ◌∙◌, subst, arith}
use Rattle.sdl_run_environment.specs.EnvApart.{IsEnvPuttingOut}
use Rattle.sdl_run_settling.specs.Coming.{ends_back, blocks_back, forwarders_back, NamesFirst}
use Rattle.sdl_run_settling.proofs.Rooms.{room_of}
use Rattle.sdl_run.proofs.Together.{read_on, written_on, named_next, some_none, environment_as, blocks_known, ends_enough, few_workers, workers_keep, environment_keeps, workers_number, done_number, blocks_number, lines_number, used_now, none, behaviours_same, workers_are, parked}
use Rattle.sdl_run.proofs.Marks.{marks_once}
use Rattle.sdl_run.proofs.joining.run_apart.Goals as goal

pub give_out-workers-requires-clause-count : goal.give_out-workers-requires-clause-count
give_out-workers-requires-clause-count g c =
    ends_enough g.S.Agents.may c.args.system c.args.opened c.requires.ready c.new_workers_keep.ensures.keep

pub give_out-workers-requires-clause-room : goal.give_out-workers-requires-clause-room
give_out-workers-requires-clause-room g c =
    let a = blocks_known g.S.Agents.may c.args.system c.args.opened c.requires.ready c.new_workers_keep.ensures.keep in
    let b = c.requires.ready.opened.workers in
    omega (arith, a, b)

pub run_beside-done-requires-clause-few : goal.run_beside-done-requires-clause-few
run_beside-done-requires-clause-few g c =
    let a = few_workers g.S.Agents.may c.args.system c.args.opened c.requires.ready c.new_workers_keep.ensures.keep in
    let b = workers_number g.S.Agents.may c.args.system c.args.opened c.requires.ready c.new_workers_keep.ensures.keep
    c.give_out-workers.result.0.items c.give_out-workers.result.1 c.give_out-workers.ensures in
    let d = c.give_out-workers.result.0.ok.0 in
    omega (arith, a, b, d)

pub run_beside-done-requires-clause-sound : goal.run_beside-done-requires-clause-sound
run_beside-done-requires-clause-sound g c κs outlives =
    workers_keep g.S.Agents.may c.args.system c.args.opened c.requires.ready c.new_workers_keep.ensures.keep
    c.give_out-workers.result.0.items c.give_out-workers.result.1 c.give_out-workers.ensures

pub run_beside-done-requires-clause-sound_environment : goal.run_beside-done-requires-clause-sound_environment
run_beside-done-requires-clause-sound_environment g c κs outlives =
    environment_as c.structure-structure.result.now c.args.system.checked c.args.system.routes c.args.system.routes c.new.result.worker c.args.opened.environment c.new.result.astray None c.give_out-workers.result.1
    (g.R.Read.remaining c.args.input.now) (g.R.Read.remaining c.args.input.now) (g.W.Write.contents c.args.output.now) (g.W.Write.contents c.args.output.now)
    c.structure-structure.ensures.structure refl c.new.ensures.worker c.new.ensures.astray refl refl
    (environment_keeps g.S.Agents.may c.args.system c.args.opened c.requires.ready c.new_workers_keep.ensures.keep
    c.give_out-workers.result.0.items c.give_out-workers.result.1 c.give_out-workers.ensures (g.R.Read.remaining c.args.input.now) (g.W.Write.contents c.args.output.now))

pub run_beside-done-requires-clause-room : goal.run_beside-done-requires-clause-room
run_beside-done-requires-clause-room g c =
    let a = blocks_known g.S.Agents.may c.args.system c.args.opened c.requires.ready c.new_workers_keep.ensures.keep in
    let b = workers_number g.S.Agents.may c.args.system c.args.opened c.requires.ready c.new_workers_keep.ensures.keep
    c.give_out-workers.result.0.items c.give_out-workers.result.1 c.give_out-workers.ensures in
    let d = c.give_out-workers.result.0.ok.0 in
    let e = c.requires.ready.opened.done in
    omega (arith, a, b, d, e)

pub run_beside-done-requires-clause-marks : goal.run_beside-done-requires-clause-marks
run_beside-done-requires-clause-marks g c κs outlives =
    marks_once g.S.Agents.may c.args.system c.args.opened c.requires.ready c.no_two_workers_have_one_mark.ensures
    c.give_out-workers.result.0.items c.give_out-workers.result.1 c.give_out-workers.ensures

pub name_refused-refused-requires-clause-few : goal.name_refused-refused-requires-clause-few
name_refused-refused-requires-clause-few g c =
    let putting = subst (λ s. IsEnvPuttingOut s c.args.system.routes (length s.blocks) c.run_beside-done.result.1.worker c.run_beside-done.result.1.astray c.run_beside-done.result.2) c.structure-structure.ensures.structure c.run_beside-done.ensures.keeps.putting in
    let a = few_workers g.S.Agents.may c.args.system c.args.opened c.requires.ready c.new_workers_keep.ensures.keep in
    let b = done_number g.S.Agents.may c.args.system c.args.opened c.requires.ready c.new_workers_keep.ensures.keep
    c.give_out-workers.result.0.items c.give_out-workers.result.1 c.give_out-workers.ensures
    c.run_beside-done.result.0.items c.run_beside-done.ensures.workers c.run_beside-done.result.1.worker c.run_beside-done.result.1.astray c.run_beside-done.result.2 putting c.run_beside-done.ensures.ends in
    let d = ap length c.as_slice.ensures.value in
    omega (arith, a, b, d)

pub name_refused-refused-requires-clause-number : goal.name_refused-refused-requires-clause-number
name_refused-refused-requires-clause-number g c =
    let putting = subst (λ s. IsEnvPuttingOut s c.args.system.routes (length s.blocks) c.run_beside-done.result.1.worker c.run_beside-done.result.1.astray c.run_beside-done.result.2) c.structure-structure.ensures.structure c.run_beside-done.ensures.keeps.putting in
    let a = few_workers g.S.Agents.may c.args.system c.args.opened c.requires.ready c.new_workers_keep.ensures.keep in
    let b = done_number g.S.Agents.may c.args.system c.args.opened c.requires.ready c.new_workers_keep.ensures.keep
    c.give_out-workers.result.0.items c.give_out-workers.result.1 c.give_out-workers.ensures
    c.run_beside-done.result.0.items c.run_beside-done.ensures.workers c.run_beside-done.result.1.worker c.run_beside-done.result.1.astray c.run_beside-done.result.2 putting c.run_beside-done.ensures.ends in
    let d = ap length c.as_slice.ensures.value in
    let e = c.len-number.ensures in
    omega (arith, b, d, e)

pub join_ends-blocks-requires-clause-room : goal.join_ends-blocks-requires-clause-room
join_ends-blocks-requires-clause-room g c =
    let putting = subst (λ s. IsEnvPuttingOut s c.args.system.routes (length s.blocks) c.run_beside-done.result.1.worker c.run_beside-done.result.1.astray c.run_beside-done.result.2) c.structure-structure.ensures.structure c.run_beside-done.ensures.keeps.putting in
    let a = blocks_known g.S.Agents.may c.args.system c.args.opened c.requires.ready c.new_workers_keep.ensures.keep in
    let b = blocks_number g.S.Agents.may c.args.system c.args.opened c.requires.ready c.new_workers_keep.ensures.keep
    c.give_out-workers.result.0.items c.give_out-workers.result.1 c.give_out-workers.ensures
    c.run_beside-done.result.0.items c.run_beside-done.ensures.workers c.run_beside-done.result.1.worker c.run_beside-done.result.1.astray c.run_beside-done.result.2 putting c.run_beside-done.ensures.ends in
    let d = lines_number g.S.Agents.may c.args.system c.args.opened c.requires.ready c.new_workers_keep.ensures.keep
    c.give_out-workers.result.0.items c.give_out-workers.result.1 c.give_out-workers.ensures
    c.run_beside-done.result.0.items c.run_beside-done.ensures.workers c.run_beside-done.result.1.worker c.run_beside-done.result.1.astray c.run_beside-done.result.2 putting c.run_beside-done.ensures.ends in
    room_of c.args.opened.apart (length c.args.system.checked.blocks) (length c.args.opened.forwarders.items) (length (blocks_back c.run_beside-done.result.0.items)) (length (forwarders_back c.run_beside-done.result.0.items)) (sym (b ∙ a)) (sym d) c.requires.ready.opened.apart

pub join_ends-blocks-requires-clause-once : goal.join_ends-blocks-requires-clause-once
join_ends-blocks-requires-clause-once g c =
    c.used_ends_come_back.ensures.once c.args.system.checked c.args.system.routes c.args.opened.ends.items c.args.opened.shelf c.requires.ready.opened.opening

pub join_ends-blocks-requires-clause-all : goal.join_ends-blocks-requires-clause-all
join_ends-blocks-requires-clause-all g c =
    let putting = subst (λ s. IsEnvPuttingOut s c.args.system.routes (length s.blocks) c.run_beside-done.result.1.worker c.run_beside-done.result.1.astray c.run_beside-done.result.2) c.structure-structure.ensures.structure c.run_beside-done.ensures.keeps.putting in
    c.used_ends_come_back.ensures.whole c.args.system.checked c.args.system.routes c.args.opened.ends.items (ends_back c.run_beside-done.result.2 c.run_beside-done.result.0.items) c.args.opened.shelf c.requires.ready.opened.opening
    (used_now g.S.Agents.may c.args.system c.args.opened c.requires.ready c.new_workers_keep.ensures.keep
    c.give_out-workers.result.0.items c.give_out-workers.result.1 c.give_out-workers.ensures
    c.run_beside-done.result.0.items c.run_beside-done.ensures.workers c.run_beside-done.result.1.worker c.run_beside-done.result.1.astray c.run_beside-done.result.2 putting c.run_beside-done.ensures.ends)

pub join_ends-blocks-requires-clause-enough : goal.join_ends-blocks-requires-clause-enough
join_ends-blocks-requires-clause-enough g c =
    let putting = subst (λ s. IsEnvPuttingOut s c.args.system.routes (length s.blocks) c.run_beside-done.result.1.worker c.run_beside-done.result.1.astray c.run_beside-done.result.2) c.structure-structure.ensures.structure c.run_beside-done.ensures.keeps.putting in
    c.used_ends_come_back.ensures.room c.args.system.checked c.args.system.routes c.args.opened.ends.items (ends_back c.run_beside-done.result.2 c.run_beside-done.result.0.items) c.args.opened.shelf c.requires.ready.opened.opening
    (used_now g.S.Agents.may c.args.system c.args.opened c.requires.ready c.new_workers_keep.ensures.keep
    c.give_out-workers.result.0.items c.give_out-workers.result.1 c.give_out-workers.ensures
    c.run_beside-done.result.0.items c.run_beside-done.ensures.workers c.run_beside-done.result.1.worker c.run_beside-done.result.1.astray c.run_beside-done.result.2 putting c.run_beside-done.ensures.ends)

pub unreachable-requires : goal.unreachable-requires
unreachable-requires g c =
    let putting = subst (λ s. IsEnvPuttingOut s c.args.system.routes (length s.blocks) c.run_beside-done.result.1.worker c.run_beside-done.result.1.astray c.run_beside-done.result.2) c.structure-structure.ensures.structure c.run_beside-done.ensures.keeps.putting in
    let gone = none g.S.Agents.may c.args.system c.args.opened c.requires.ready c.new_workers_keep.ensures.keep
    c.give_out-workers.result.0.items c.give_out-workers.result.1 c.give_out-workers.ensures
    c.run_beside-done.result.0.items c.run_beside-done.ensures.workers c.run_beside-done.result.1.worker c.run_beside-done.result.1.astray c.run_beside-done.result.2 putting c.run_beside-done.ensures.ends
    c.join_ends-blocks.result.2.items c.join_ends-blocks.ensures.rests c.joined_workers_stand.ensures.none in
    some_none c.into_parts-environment.result.1 c.is_some.result (c.into_parts-environment.ensures.astray ∙ gone) c.is_some.ensures c.if-is_some.true

pub returns-clause-parked : goal.returns-clause-parked
returns-clause-parked g c =
    let putting = subst (λ s. IsEnvPuttingOut s c.args.system.routes (length s.blocks) c.run_beside-done.result.1.worker c.run_beside-done.result.1.astray c.run_beside-done.result.2) c.structure-structure.ensures.structure c.run_beside-done.ensures.keeps.putting in
    parked g.S.Agents.may c.args.system c.args.opened c.requires.ready c.new_workers_keep.ensures.keep
    c.give_out-workers.result.0.items c.give_out-workers.result.1 c.give_out-workers.ensures
    c.run_beside-done.result.0.items c.run_beside-done.ensures.workers c.run_beside-done.result.1.worker c.run_beside-done.result.1.astray c.run_beside-done.result.2 putting c.run_beside-done.ensures.ends
    c.join_ends-blocks.result.2.items c.join_ends-blocks.ensures.rests
    (record { system = record { checked = c.args.system.checked; routes = c.args.system.routes; blocks = c.join_ends-blocks.result.0; budget = c.args.system.budget }; environment = c.into_parts-environment.result.0; forwarders = c.join_ends-blocks.result.1; rests = c.join_ends-blocks.result.2 }) refl refl refl c.join_ends-blocks.ensures.blocks c.join_ends-blocks.ensures.forwarders c.into_parts-environment.ensures.worker refl c.joined_workers_stand.ensures.work

pub returns-clause-same : goal.returns-clause-same
returns-clause-same g c =
    let putting = subst (λ s. IsEnvPuttingOut s c.args.system.routes (length s.blocks) c.run_beside-done.result.1.worker c.run_beside-done.result.1.astray c.run_beside-done.result.2) c.structure-structure.ensures.structure c.run_beside-done.ensures.keeps.putting in
    record {
      checked = refl;
      routes = refl;
      budget = refl;
      behaviours = behaviours_same g.S.Agents.may c.args.system c.args.opened c.requires.ready c.new_workers_keep.ensures.keep
          c.give_out-workers.result.0.items c.give_out-workers.result.1 c.give_out-workers.ensures
          c.run_beside-done.result.0.items c.run_beside-done.ensures.workers c.run_beside-done.result.1.worker c.run_beside-done.result.1.astray c.run_beside-done.result.2 putting c.run_beside-done.ensures.ends
          c.join_ends-blocks.result.2.items c.join_ends-blocks.ensures.rests
          (record { system = record { checked = c.args.system.checked; routes = c.args.system.routes; blocks = c.join_ends-blocks.result.0; budget = c.args.system.budget }; environment = c.into_parts-environment.result.0; forwarders = c.join_ends-blocks.result.1; rests = c.join_ends-blocks.result.2 }) refl refl refl c.join_ends-blocks.ensures.blocks c.join_ends-blocks.ensures.forwarders c.into_parts-environment.ensures.worker refl;
    }

pub returns-clause-refused : goal.returns-clause-refused
returns-clause-refused g c =
    let putting = subst (λ s. IsEnvPuttingOut s c.args.system.routes (length s.blocks) c.run_beside-done.result.1.worker c.run_beside-done.result.1.astray c.run_beside-done.result.2) c.structure-structure.ensures.structure c.run_beside-done.ensures.keeps.putting in
    let number = workers_are g.S.Agents.may c.args.system c.args.opened c.requires.ready c.new_workers_keep.ensures.keep
    c.give_out-workers.result.0.items c.give_out-workers.result.1 c.give_out-workers.ensures
    c.run_beside-done.result.0.items c.run_beside-done.ensures.workers c.run_beside-done.result.1.worker c.run_beside-done.result.1.astray c.run_beside-done.result.2 putting c.run_beside-done.ensures.ends
    c.join_ends-blocks.result.2.items c.join_ends-blocks.ensures.rests
    (record { system = record { checked = c.args.system.checked; routes = c.args.system.routes; blocks = c.join_ends-blocks.result.0; budget = c.args.system.budget }; environment = c.into_parts-environment.result.0; forwarders = c.join_ends-blocks.result.1; rests = c.join_ends-blocks.result.2 }) refl refl refl c.join_ends-blocks.ensures.blocks c.join_ends-blocks.ensures.forwarders c.into_parts-environment.ensures.worker refl in
    let few = few_workers g.S.Agents.may c.args.system c.args.opened c.requires.ready c.new_workers_keep.ensures.keep in
    let count = done_number g.S.Agents.may c.args.system c.args.opened c.requires.ready c.new_workers_keep.ensures.keep
    c.give_out-workers.result.0.items c.give_out-workers.result.1 c.give_out-workers.ensures
    c.run_beside-done.result.0.items c.run_beside-done.ensures.workers c.run_beside-done.result.1.worker c.run_beside-done.result.1.astray c.run_beside-done.result.2 putting c.run_beside-done.ensures.ends in
    named_next _ _ _ c.name_refused-refused.result _ refl c.name_refused-refused.ensures.bound (omega (arith, number, count, ap length c.as_slice.ensures.value))

pub returns-clause-reading : goal.returns-clause-reading
returns-clause-reading g c =
    read_on c.structure-structure.result.now c.args.system.checked c.args.system.routes c.run_beside-done.result.1.worker c.into_parts-environment.result.0 (g.R.Read.remaining c.args.input.now) (g.R.Read.remaining c.args.input.now) (g.R.Read.remaining c.run_beside-done.new.input) (g.R.Read.remaining c.run_beside-done.new.input)
    c.structure-structure.ensures.structure (sym c.into_parts-environment.ensures.worker) refl refl c.run_beside-done.ensures.keeps.reading

pub returns-clause-writing : goal.returns-clause-writing
returns-clause-writing g c =
    written_on c.structure-structure.result.now c.args.system.checked c.args.system.routes c.run_beside-done.result.1.worker c.into_parts-environment.result.0 (g.W.Write.contents c.args.output.now) (g.W.Write.contents c.args.output.now) (g.W.Write.contents c.run_beside-done.new.output) (g.W.Write.contents c.run_beside-done.new.output)
    c.structure-structure.ensures.structure (sym c.into_parts-environment.ensures.worker) refl refl c.run_beside-done.ensures.keeps.writing

pub returns-clause-named : goal.returns-clause-named
returns-clause-named g c =
    let own : vec_len c.args.system.blocks ≡ length c.args.system.blocks.items = let o = c.args.system.blocks.ok.0 in omega (arith, o) in
    subst (λ rs. NamesFirst rs c.run_beside-done.result.3 (length c.args.system.blocks.items) c.name_refused-refused.result) (c.as_slice.ensures.value ∙ ap (λ v. v.items) (sym c.of-came.ensures))
    (subst (λ (n : ℕ). NamesFirst c.as_slice.result.now c.run_beside-done.result.3 n c.name_refused-refused.result) (c.len-number.ensures ∙ own) c.name_refused-refused.ensures.named)
