use Rattle.std.proofs.Common.{rules, arith, ◌≡◌, [], true, All, ◌∙◌, refl, subst, sym}
use Rattle.toml.specs.Data.{Members}
use Rattle.sdl_listing_file.specs.declared.place.AgentsKey.TheVariants as key
use Rattle.sdl_listing_file.specs.declared.place.AgentsPart.TheVariants as part
use Rattle.sdl_listing_file.specs.Keys.{keys_of}
use Rattle.sdl_listing_file.specs.Heads.{AreOnce}
use Rattle.sdl_listing_file.specs.Tables.{table_in, has_only}
use Rattle.sdl_listing_file.specs.File.{for_states, IsSaveOf, IsInputOf}
use Rattle.sdl_listing_file.specs.Walks.{own}
use Rattle.sdl_listing_file.proofs.TableLemmas.{element}
use Rattle.sdl_listing_file.proofs.ListLemmas.{take_map_all, all_map_more, appends_flat, appends_flat_all, appends_all}
use Rattle.sdl_listing_file.proofs.behaviours.transitions_of.Goals as goal

pub group-requires : goal.group-requires
group-requires c =
    let e = element key.State (own c.args.walk.now) c.args.groups.now c.loop-number.number c.index-groups-number.result c.requires.tables c.requires.each c.loop-number-test.true c.index-groups-number.is in
    record { here = c.requires.here; part = c.requires.part; table = e.table; there = e.there; within = e.within; few = omega arith }

pub loop-number-init : goal.loop-number-init
loop-number-init c =
    let saves = c.no_transitions-all.ensures.saves in
    let rows = c.no_transitions-all.ensures.rows in
    record {
      saves = ([], saves, tt);
      rows = ([], rows, tt);
      once = subst (λ l. AreOnce l c.no_transitions-all.result.rows.items) (sym saves) (subst (λ l. AreOnce [] l) (sym rows) tt);
      keys = λ k d h. absurd (omega arith);
    }

pub loop-number-preserved : goal.loop-number-preserved
loop-number-preserved c =
    let s = c.args.setting.now in
    let vs = c.args.groups.now in
    let v = c.index-groups-number.result in
    let P = λ (g : Members). has_only (keys_of part.State) g ≡ true in
    record {
      saves = appends_flat (IsSaveOf s) (for_states s key.Save) table_in vs c.loop-number.number v (own c.group.result) [] c.loop-number.all.saves.items c.add_group.new.all.saves.items c.loop-number-test.true c.index-groups-number.is c.group.ensures.table c.loop-number.invariant.saves c.in_ok-add_group.ensures.saves;
      rows = appends_flat (IsInputOf s) (for_states s key.Input) table_in vs c.loop-number.number v (own c.group.result) [] c.loop-number.all.rows.items c.add_group.new.all.rows.items c.loop-number-test.true c.index-groups-number.is c.group.ensures.table c.loop-number.invariant.rows c.in_ok-add_group.ensures.rows;
      once = c.in_ok-add_group.ensures.once;
      keys = all_map_more P table_in vs c.loop-number.number v c.loop-number-test.true c.index-groups-number.is c.loop-number.invariant.keys (subst P c.group.ensures.table c.in_ok-add_group.ensures.keys);
    }

pub returns-clause-saves : goal.returns-clause-saves
returns-clause-saves c = appends_all (IsSaveOf c.args.setting.now) _ [] c.loop-number.all.saves.items refl (appends_flat_all (IsSaveOf c.args.setting.now) (for_states c.args.setting.now key.Save) table_in c.args.groups.now _ c.loop-number.number [] c.loop-number.all.saves.items c.requires.tables c.loop-number-test.false c.loop-number.invariant.saves)

pub returns-clause-rows : goal.returns-clause-rows
returns-clause-rows c = appends_all (IsInputOf c.args.setting.now) _ [] c.loop-number.all.rows.items refl (appends_flat_all (IsInputOf c.args.setting.now) (for_states c.args.setting.now key.Input) table_in c.args.groups.now _ c.loop-number.number [] c.loop-number.all.rows.items c.requires.tables c.loop-number-test.false c.loop-number.invariant.rows)

pub returns-clause-keys : goal.returns-clause-keys
returns-clause-keys c = subst (λ ts. All (λ (g : Members). has_only (keys_of part.State) g ≡ true) ts) (take_map_all table_in c.args.groups.now c.loop-number.number c.loop-number-test.false ∙ sym c.requires.tables) c.loop-number.invariant.keys

pub returns-in_err-add_group-clause-fault : goal.returns-in_err-add_group-clause-fault
returns-in_err-add_group-clause-fault c = rw (← c.group.ensures.file) (search rules)
