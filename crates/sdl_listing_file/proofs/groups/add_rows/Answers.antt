use Rattle.std.proofs.Common.{◌≡◌, List, get_or, refl, ◌∙◌}
use Rattle.std.proofs.lemmas.List.{get_or_default}
use Rattle.sdl_signal.specs.declared.ids.StateId.{StateId}
use Rattle.sdl_listing_file.specs.File.{IsInputOf}
use Rattle.sdl_listing_file.proofs.ListLemmas.{appends_nothing, appends_map, appends_map_all}
use Rattle.sdl_listing_file.proofs.groups.add_rows.Goals as goal

pub loop-state-init : goal.loop-state-init
loop-state-init c = record { rows = appends_nothing (IsInputOf c.args.setting.now) c.args.all.now.rows.items; saves = refl; once = c.requires }

pub loop-state-preserved : goal.loop-state-preserved
loop-state-preserved c =
    let zero : StateId = record { 0 = 0 } in
    let states : List StateId = c.args.states.now in
    let i = c.loop-state.state-index in
    let state : StateId = get_or states i zero in
    let is : state ≡ get_or states i state = get_or_default states i zero state c.loop-state-test.true in
    record {
      rows = appends_map (IsInputOf c.args.setting.now) (λ (state : StateId). (state, c.args.source.now.text.now)) states i state c.args.all.now.rows.items c.loop-state.all.rows.items c.add_row.new.all.rows.items c.loop-state-test.true is c.loop-state.invariant.rows c.in_ok-add_row.ensures.rows;
      saves = c.in_ok-add_row.ensures.saves ∙ c.loop-state.invariant.saves;
      once = c.in_ok-add_row.ensures.once;
    }

pub returns-clause-rows : goal.returns-clause-rows
returns-clause-rows c = appends_map_all (IsInputOf c.args.setting.now) (λ (state : StateId). (state, c.args.source.now.text.now)) c.args.states.now c.loop-state.state-index c.args.all.now.rows.items c.loop-state.all.rows.items c.loop-state-test.false c.loop-state.invariant.rows
