use Rattle.std.proofs.Common.{List, refl, subst, ◌∙◌}
use Rattle.std.specs.Prelude.{flat_map}
use Rattle.sdl_signal.specs.declared.ids.StateId.{StateId}
use Rattle.sdl_listing_file.specs.declared.place.AgentsKey.TheVariants as key
use Rattle.sdl_listing_file.specs.Tables.{texts_at, text_of}
use Rattle.sdl_listing_file.specs.File.{in_each, IsSaveOf, Appends}
use Rattle.sdl_listing_file.specs.Walks.{own}
use Rattle.sdl_listing_file.proofs.ListLemmas.{appends_nothing, appends_flat, appends_flat_all}
use Rattle.sdl_listing_file.proofs.groups.add_saves.Goals as goal

pub loop-value-init : goal.loop-value-init
loop-value-init c = record { saves = appends_nothing (IsSaveOf c.args.setting.now) c.args.all.now.saves.items; rows = refl; once = c.requires.once }

pub loop-value-preserved : goal.loop-value-preserved
loop-value-preserved c = record {
  saves = appends_flat (IsSaveOf c.args.setting.now) (in_each c.args.states.now) text_of c.in_ok-texts.texts.now c.loop-value.value-index c.value-item.result c.text_of.result.now c.args.all.now.saves.items c.loop-value.all.saves.items c.add_save.new.all.saves.items c.loop-value-test.true c.value-item.is c.text_of.ensures c.loop-value.invariant.saves c.in_ok-add_save.ensures.saves;
  rows = c.in_ok-add_save.ensures.rows ∙ c.loop-value.invariant.rows;
  once = c.in_ok-add_save.ensures.once;
}

pub returns-clause-saves : goal.returns-clause-saves
returns-clause-saves c =
    let R = IsSaveOf c.args.setting.now in
    let texts = texts_at key.Save (own c.args.group.now) in
    let all : Appends R (flat_map (in_each c.args.states.now) texts) c.args.all.now.saves.items c.loop-value.all.saves.items =
    appends_flat_all R (in_each c.args.states.now) text_of c.in_ok-texts.texts.now texts c.loop-value.value-index c.args.all.now.saves.items c.loop-value.all.saves.items c.in_ok-texts.ensures.texts c.loop-value-test.false c.loop-value.invariant.saves in
    subst (λ (states : List StateId). Appends R (flat_map (in_each states) texts) c.args.all.now.saves.items c.loop-value.all.saves.items) c.requires.states all
