use Rattle.std.proofs.Common.{List, refl, subst, ◌∙◌}
use Rattle.std.specs.Prelude.{flat_map}
use Rattle.std.proofs.lemmas.Result.{err_from_is_err_and}
use Rattle.sdl_signal.specs.declared.ids.StateId.{StateId}
use Rattle.sdl_listing_file.specs.declared.place.AgentsKey.TheVariants as key
use Rattle.sdl_listing_file.specs.Tables.{texts_at, text_of}
use Rattle.sdl_listing_file.specs.File.{in_each, IsInputOf, Appends}
use Rattle.sdl_listing_file.specs.Walks.{own}
use Rattle.sdl_listing_file.proofs.ListLemmas.{appends_nothing, appends_flat, appends_flat_all}
use Rattle.sdl_listing_file.proofs.FaultLemmas.{placed_in_list}
use Rattle.sdl_listing_file.proofs.groups.add_inputs.Goals as goal

pub loop-item-init : goal.loop-item-init
loop-item-init c = record { rows = appends_nothing (IsInputOf c.args.setting.now) c.args.all.now.rows.items; saves = refl; once = c.requires.once }

pub loop-item-preserved : goal.loop-item-preserved
loop-item-preserved c = record {
  rows = appends_flat (IsInputOf c.args.setting.now) (in_each c.args.states.now) text_of c.in_ok-texts.texts.now c.loop-item.item c.index-texts-item.result c.text_of.result.now c.args.all.now.rows.items c.loop-item.all.rows.items c.add_rows.new.all.rows.items c.loop-item-test.true c.index-texts-item.is c.text_of.ensures c.loop-item.invariant.rows c.in_ok-add_rows.ensures.rows;
  saves = c.in_ok-add_rows.ensures.saves ∙ c.loop-item.invariant.saves;
  once = c.in_ok-add_rows.ensures.once;
}

pub returns-in_err-add_rows-clause-fault : goal.returns-in_err-add_rows-clause-fault
returns-in_err-add_rows-clause-fault c =
    let p = err_from_is_err_and c.from_residual-in_err-add_rows.result c.from_residual-in_err-add_rows.ensures.1 in
    rw (p.1, p.2) (placed_in_list c.args.group.now c.at-place.result key.Input c.in_ok-texts.texts.now c.loop-item.item c.index-texts-item.result c.text_of.result.now _ c.requires.here c.at-place.ensures.value c.at-place.ensures.place (λ ms. refl) c.in_ok-texts.ensures.texts c.loop-item-test.true c.index-texts-item.is c.text_of.ensures c.in_err-add_rows.ensures.fault)

pub returns-clause-rows : goal.returns-clause-rows
returns-clause-rows c =
    let R = IsInputOf c.args.setting.now in
    let texts = texts_at key.Input (own c.args.group.now) in
    let all : Appends R (flat_map (in_each c.args.states.now) texts) c.args.all.now.rows.items c.loop-item.all.rows.items =
    appends_flat_all R (in_each c.args.states.now) text_of c.in_ok-texts.texts.now texts c.loop-item.item c.args.all.now.rows.items c.loop-item.all.rows.items c.in_ok-texts.ensures.texts c.loop-item-test.false c.loop-item.invariant.rows in
    subst (λ (states : List StateId). Appends R (flat_map (in_each states) texts) c.args.all.now.rows.items c.loop-item.all.rows.items) c.requires.states all
