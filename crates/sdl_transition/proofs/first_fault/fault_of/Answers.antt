use Rattle.std.proofs.Common.{refl}
use Rattle.sdl_transition_behaviour.specs.Declarations.{declared_behaviour}
use Rattle.sdl_transition.proofs.Either.{fails}
use Rattle.sdl_transition.proofs.Firsts.{NoneBelow, none_below_3, none_below_4, none_below_5, none_below_6, none_below_7, none_below_8, none_below_9, none_below_10, faultless}
use Rattle.sdl_transition.proofs.first_fault.fault_of.Goals as goal

-- Each fault: its test holds, and no test before it does.
pub returns-then-has_wrong_name-clause-some : goal.returns-then-has_wrong_name-clause-some
returns-then-has_wrong_name-clause-some g c =
    let s = c.args.structure.now in
    let b = declared_behaviour c.args.behaviour.now in
    record { applies = (refl, c.has_wrong_name.ensures.0 c.if-has_wrong_name.true); first = none_below_3 s b }

pub returns-then-offers_undeclared-clause-some : goal.returns-then-offers_undeclared-clause-some
returns-then-offers_undeclared-clause-some g c =
    let s = c.args.structure.now in
    let b = declared_behaviour c.args.behaviour.now in
    let start : NoneBelow s b 3 = none_below_3 s b in
    let names : NoneBelow s b 4 = none_below_4 s b (fails c.has_wrong_name.ensures c.if-has_wrong_name.false) start in
    record { applies = (refl, c.offers_undeclared.ensures.0 c.if-offers_undeclared.true); first = names }

pub returns-then-offers_bad_gate-clause-some : goal.returns-then-offers_bad_gate-clause-some
returns-then-offers_bad_gate-clause-some g c =
    let s = c.args.structure.now in
    let b = declared_behaviour c.args.behaviour.now in
    let start : NoneBelow s b 3 = none_below_3 s b in
    let names : NoneBelow s b 4 = none_below_4 s b (fails c.has_wrong_name.ensures c.if-has_wrong_name.false) start in
    let outputs : NoneBelow s b 5 = none_below_5 s b (fails c.offers_undeclared.ensures c.if-offers_undeclared.false) names in
    record { applies = (refl, c.offers_bad_gate.ensures.0 c.if-offers_bad_gate.true); first = outputs }

pub returns-then-has_unknown_state-clause-some : goal.returns-then-has_unknown_state-clause-some
returns-then-has_unknown_state-clause-some g c =
    let s = c.args.structure.now in
    let b = declared_behaviour c.args.behaviour.now in
    let start : NoneBelow s b 3 = none_below_3 s b in
    let names : NoneBelow s b 4 = none_below_4 s b (fails c.has_wrong_name.ensures c.if-has_wrong_name.false) start in
    let outputs : NoneBelow s b 5 = none_below_5 s b (fails c.offers_undeclared.ensures c.if-offers_undeclared.false) names in
    let gates : NoneBelow s b 6 = none_below_6 s b (fails c.offers_bad_gate.ensures c.if-offers_bad_gate.false) outputs in
    record { applies = (refl, c.has_unknown_state.ensures.0 c.if-has_unknown_state.true); first = gates }

pub returns-then-has_wrong_sorts-clause-some : goal.returns-then-has_wrong_sorts-clause-some
returns-then-has_wrong_sorts-clause-some g c =
    let s = c.args.structure.now in
    let b = declared_behaviour c.args.behaviour.now in
    let start : NoneBelow s b 3 = none_below_3 s b in
    let names : NoneBelow s b 4 = none_below_4 s b (fails c.has_wrong_name.ensures c.if-has_wrong_name.false) start in
    let outputs : NoneBelow s b 5 = none_below_5 s b (fails c.offers_undeclared.ensures c.if-offers_undeclared.false) names in
    let gates : NoneBelow s b 6 = none_below_6 s b (fails c.offers_bad_gate.ensures c.if-offers_bad_gate.false) outputs in
    let states : NoneBelow s b 7 = none_below_7 s b (fails c.has_unknown_state.ensures c.if-has_unknown_state.false) gates in
    record { applies = (refl, c.has_wrong_sorts.ensures.0 c.if-has_wrong_sorts.true); first = states }

pub returns-then-offers_create_elsewhere-clause-some : goal.returns-then-offers_create_elsewhere-clause-some
returns-then-offers_create_elsewhere-clause-some g c =
    let s = c.args.structure.now in
    let b = declared_behaviour c.args.behaviour.now in
    let start : NoneBelow s b 3 = none_below_3 s b in
    let names : NoneBelow s b 4 = none_below_4 s b (fails c.has_wrong_name.ensures c.if-has_wrong_name.false) start in
    let outputs : NoneBelow s b 5 = none_below_5 s b (fails c.offers_undeclared.ensures c.if-offers_undeclared.false) names in
    let gates : NoneBelow s b 6 = none_below_6 s b (fails c.offers_bad_gate.ensures c.if-offers_bad_gate.false) outputs in
    let states : NoneBelow s b 7 = none_below_7 s b (fails c.has_unknown_state.ensures c.if-has_unknown_state.false) gates in
    let sorts : NoneBelow s b 8 = none_below_8 s b (fails c.has_wrong_sorts.ensures c.if-has_wrong_sorts.false) states in
    record { applies = (refl, c.offers_create_elsewhere.ensures.0 c.if-offers_create_elsewhere.true); first = sorts }

pub returns-then-has_same_rows-clause-some : goal.returns-then-has_same_rows-clause-some
returns-then-has_same_rows-clause-some g c =
    let s = c.args.structure.now in
    let b = declared_behaviour c.args.behaviour.now in
    let start : NoneBelow s b 3 = none_below_3 s b in
    let names : NoneBelow s b 4 = none_below_4 s b (fails c.has_wrong_name.ensures c.if-has_wrong_name.false) start in
    let outputs : NoneBelow s b 5 = none_below_5 s b (fails c.offers_undeclared.ensures c.if-offers_undeclared.false) names in
    let gates : NoneBelow s b 6 = none_below_6 s b (fails c.offers_bad_gate.ensures c.if-offers_bad_gate.false) outputs in
    let states : NoneBelow s b 7 = none_below_7 s b (fails c.has_unknown_state.ensures c.if-has_unknown_state.false) gates in
    let sorts : NoneBelow s b 8 = none_below_8 s b (fails c.has_wrong_sorts.ensures c.if-has_wrong_sorts.false) states in
    let creates : NoneBelow s b 9 = none_below_9 s b (fails c.offers_create_elsewhere.ensures c.if-offers_create_elsewhere.false) sorts in
    record { applies = (refl, c.has_same_rows.ensures.0 c.if-has_same_rows.true); first = creates }

pub returns-clause-none : goal.returns-clause-none
returns-clause-none g c =
    let s = c.args.structure.now in
    let b = declared_behaviour c.args.behaviour.now in
    let start : NoneBelow s b 3 = none_below_3 s b in
    let names : NoneBelow s b 4 = none_below_4 s b (fails c.has_wrong_name.ensures c.if-has_wrong_name.false) start in
    let outputs : NoneBelow s b 5 = none_below_5 s b (fails c.offers_undeclared.ensures c.if-offers_undeclared.false) names in
    let gates : NoneBelow s b 6 = none_below_6 s b (fails c.offers_bad_gate.ensures c.if-offers_bad_gate.false) outputs in
    let states : NoneBelow s b 7 = none_below_7 s b (fails c.has_unknown_state.ensures c.if-has_unknown_state.false) gates in
    let sorts : NoneBelow s b 8 = none_below_8 s b (fails c.has_wrong_sorts.ensures c.if-has_wrong_sorts.false) states in
    let creates : NoneBelow s b 9 = none_below_9 s b (fails c.offers_create_elsewhere.ensures c.if-offers_create_elsewhere.false) sorts in
    let rows : NoneBelow s b 10 = none_below_10 s b (fails c.has_same_rows.ensures c.if-has_same_rows.false) creates in
    faultless s b rows
