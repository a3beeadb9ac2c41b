use Rattle.std.proofs.Common.{◌≡◌, false, ℕ, List, Some, get_or, refl, sym, ap, ◌∙◌}
use Rattle.std.proofs.lemmas.List.{get_or_default}
use Rattle.sdl_signal.specs.declared.ids.StateId.{StateId}
use Rattle.sdl_transition_saves.specs.declared.save.Save.{Save}
use Rattle.sdl_listing_expression_text.specs.Meanings.{signal_named}
use Rattle.sdl_listing_file.specs.Heads.{is_taken}
use Rattle.sdl_listing_file.specs.File.{IsSaveOf}
use Rattle.sdl_listing_file.proofs.ListLemmas.{appends_nothing, appends_one, appends_map, appends_map_all}
use Rattle.sdl_listing_file.proofs.HeadLemmas.{save_once}
use Rattle.sdl_listing_file.proofs.groups.add_save.Goals as goal

pub loop-state-init : goal.loop-state-init
loop-state-init c = record { saves = appends_nothing (IsSaveOf c.args.setting.now) c.args.all.now.saves.items; rows = refl; once = c.requires.once }

pub loop-state-preserved : goal.loop-state-preserved
loop-state-preserved c =
    let zero : StateId = record { 0 = 0 } in
    let states : List StateId = c.args.states.now in
    let i = c.loop-state.state-index in
    let state : StateId = get_or states i zero in
    let is : state ≡ get_or states i state = get_or_default states i zero state c.loop-state-test.true in
    let R = IsSaveOf c.args.setting.now in
    let f : StateId → StateId × List ℕ = λ x. (x, c.args.text.now) in
    let save : Save = record { state = state; signal = c.in-Some.signal } in
    let old = c.loop-state.all.saves.items in
    let new = c.push.new.self.items in
    let rows = c.loop-state.all.rows.items in
    let found : signal_named c.args.setting.now c.args.text.now ≡ Some c.in-Some.signal = ap (λ t. signal_named c.args.setting.now t) (sym c.as_bytes.ensures.value) ∙ sym c.in-Some.ensures in
    let free : is_taken state c.in-Some.signal old rows ≡ false = sym c.is_taken.ensures ∙ c.if-is_taken.false in
    record {
      saves = appends_map R f states i state c.args.all.now.saves.items old new c.loop-state-test.true is c.loop-state.invariant.saves (appends_one R (f state) old new save c.in_ok-push.ensures.items (refl, found));
      rows = c.loop-state.invariant.rows;
      once = save_once old new rows rows save c.loop-state.invariant.once free c.in_ok-push.ensures.items refl;
    }

pub returns-clause-saves : goal.returns-clause-saves
returns-clause-saves c = appends_map_all (IsSaveOf c.args.setting.now) (λ (state : StateId). (state, c.args.text.now)) c.args.states.now c.loop-state.state-index c.args.all.now.saves.items c.loop-state.all.saves.items c.loop-state-test.false c.loop-state.invariant.saves
