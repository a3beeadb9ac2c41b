use Rattle.std.proofs.Common.{rules, arith, ◌≡◌, ◌≢◌, ◌<◌, Some, length, take, sym, ap, ◌∙◌}
use Rattle.std.proofs.lemmas.List.Quantifiers.{all_pairs_push}
use Rattle.toml.specs.View.{view}
use Rattle.sdl_signal.specs.declared.ids.SignalId.{SignalId}
use Rattle.sdl_structure_parts.specs.declared.parts.SignalDecl.{SignalDecl}
use Rattle.sdl_structure_tables.specs.Names.{NamesSignal}
use Rattle.sdl_structure_tables.specs.Walks.{own}
use Rattle.sdl_structure_tables.proofs.SignalLemmas.{zip_more, lists_all, unknown_signal, repeated_signal, has_room, slice_get_at}
use Rattle.sdl_structure_tables.proofs.signals.read_signal_list.Goals as goal

pub returns-in-None-clause-fault : goal.returns-in-None-clause-fault
returns-in-None-clause-fault c = unknown_signal _ _ c.args.key c.in_ok-texts.texts.now c.args.signals.now c.loop-value.value-index c.value-item.result c.text_of.result.now c.requires.here c.requires.listed c.at-in-None.ensures c.requires.kind c.in_ok-texts.ensures.held c.loop-value-test.true c.value-item.is c.text_of.ensures c.requires.signals c.in-None.ensures.none

pub returns-in-Some-id_number-clause-fault : goal.returns-in-Some-id_number-clause-fault
returns-in-Some-id_number-clause-fault c =
    let found = rw c.as_slice.ensures.value at c.in-Some-id_number.ensures.found in
    repeated_signal _ _ c.args.key c.in_ok-texts.texts.now c.args.signals.now c.loop-value.ids.items c.loop-value.value-index c.in-Some-id_number.field-0 c.in-Some.number c.value-item.result c.text_of.result.now c.requires.here c.requires.listed c.at.ensures c.requires.kind c.in_ok-texts.ensures.held c.loop-value-test.true c.value-item.is c.text_of.ensures c.in-Some.ensures.found.0 c.in-Some.ensures.found.1 c.loop-value.invariant.named found.0 found.1

pub push-requires : goal.push-requires
push-requires c =
    let others = rw c.as_slice.ensures.value at c.in_default.ensures.none in
    let room = has_room c.args.signals.now (take c.loop-value.value-index c.in_ok-texts.texts.now) c.loop-value.ids.items c.in-Some.number c.loop-value.invariant.named c.loop-value.invariant.once c.in-Some.ensures.found.0 others in
    omega (arith, room, c.requires.few)

pub loop-value-preserved : goal.loop-value-preserved
loop-value-preserved c =
    let number : SignalId = record { 0 = c.in-Some.number } in
    let others = rw c.as_slice.ensures.value at c.in_default.ensures.none in
    record {
      named = rw c.push.ensures.items (zip_more (λ v id. NamesSignal c.args.signals.now (view v) id) c.in_ok-texts.texts.now c.loop-value.ids.items c.loop-value.value-index c.value-item.result number c.loop-value-test.true c.value-item.is c.loop-value.invariant.named
          (slice_get_at c.args.signals.now c.in-Some.number _ c.in-Some.ensures.found.0 (λ s. c.text_of.ensures ∙ ap Some (sym (c.in-Some.ensures.found.1 s)))));
      once = rw c.push.ensures.items (all_pairs_push (λ (x y : SignalId). x.0 ≢ y.0) c.loop-value.ids.items number c.loop-value.invariant.once others);
    }

pub returns-clause-read : goal.returns-clause-read
returns-clause-read c = record {
  named = lists_all (NamesSignal c.args.signals.now) c.args.key (own c.args.walk.now) c.in_ok-texts.texts.now _ c.loop-value.value-index c.in_ok-texts.ensures.held c.loop-value-test.false c.loop-value.invariant.named;
  once = c.loop-value.invariant.once;
}
