use Rattle.std.proofs.Common.{◌≡◌, ℕ, suc, ◌≤◌, List, [], ◌∷◌, length, Some, slice_get, get_or, ap, sym, ◌∙◌, arith, add-one}
use Rattle.std.proofs.lemmas.Option.{slice_get-get_or}
use Rattle.sdl_signal.specs.declared.ids.SignalId.{SignalId}
use Rattle.sdl_signal.specs.declared.ids.GateId.{GateId}
use Rattle.sdl_structure_parts.specs.Structure.{Structure, Path, path_of, path_at}
use Rattle.sdl_structure_parts.specs.Rules.{direction_rank}
use Rattle.sdl_structure_parts.proofs.Paths.{end_place, Admitted, to_admitted, from_admitted, admitted_first, path_here, next_signal, enter_path, leave_path}
use Rattle.sdl_structure_parts.proofs.checking.each_rule.first_not_in_gate_of.Goals as goal

pub loop-signal-init : goal.loop-signal-init
loop-signal-init c =
    let s : Structure = c.args.structure.now in
    let n : ℕ = c.args.number in
    let r : ℕ = direction_rank c.args.direction in
    from_admitted s (n ∷ r ∷ 0 ∷ []) (enter_path s GateId end_place (Admitted s) n r (to_admitted s (n ∷ r ∷ []) c.requires.before))

pub returns-in-Some : goal.returns-in-Some
returns-in-Some c =
    let s : Structure = c.args.structure.now in
    let p : Path = path_of c.index-channels-number.result c.args.direction in
    let k : ℕ = c.loop-signal.signal-index in
    let xs : List SignalId = c.signals-signal-items.result.now in
    let x : SignalId = get_or xs k (record { 0 = 0 }) in
    let is : path_at s (record { 0 = c.args.number }) c.args.direction ≡ Some p =
    path_here s c.channels.result.now c.args.number c.index-channels-number.result c.args.direction c.channels.ensures c.requires.number c.index-channels-number.is in
    let at : slice_get p.signals k ≡ Some x = ap (λ (ys : List SignalId). slice_get ys k) (sym c.signals-signal-items.ensures) ∙ slice_get-get_or xs k (record { 0 = 0 }) c.loop-signal-test.true in
    admitted_first s c.args.number c.args.direction p k x c.in-Some.gate is at c.in-Some.ensures.0 c.in-Some.ensures.1 c.loop-signal.invariant

pub loop-signal-preserved : goal.loop-signal-preserved
loop-signal-preserved c =
    let s : Structure = c.args.structure.now in
    let n : ℕ = c.args.number in
    let p : Path = path_of c.index-channels-number.result c.args.direction in
    let k : ℕ = c.loop-signal.signal-index in
    let xs : List SignalId = c.signals-signal-items.result.now in
    let x : SignalId = get_or xs k (record { 0 = 0 }) in
    let is : path_at s (record { 0 = n }) c.args.direction ≡ Some p =
    path_here s c.channels.result.now c.args.number c.index-channels-number.result c.args.direction c.channels.ensures c.requires.number c.index-channels-number.is in
    let at : slice_get p.signals k ≡ Some x = ap (λ (ys : List SignalId). slice_get ys k) (sym c.signals-signal-items.ensures) ∙ slice_get-get_or xs k (record { 0 = 0 }) c.loop-signal-test.true in
    rw add-one (from_admitted s (n ∷ direction_rank c.args.direction ∷ suc k ∷ [])
    (next_signal s GateId end_place (Admitted s) n c.args.direction p k x is at c.in_default.ensures
    (to_admitted s (n ∷ direction_rank c.args.direction ∷ k ∷ []) c.loop-signal.invariant)))

pub returns : goal.returns
returns c =
    let s : Structure = c.args.structure.now in
    let n : ℕ = c.args.number in
    let p : Path = path_of c.index-channels-number.result c.args.direction in
    let k : ℕ = c.loop-signal.signal-index in
    let is : path_at s (record { 0 = n }) c.args.direction ≡ Some p =
    path_here s c.channels.result.now c.args.number c.index-channels-number.result c.args.direction c.channels.ensures c.requires.number c.index-channels-number.is in
    let same : length c.signals-signal-items.result.now ≡ length p.signals = ap length c.signals-signal-items.ensures in
    let past : length c.signals-signal-items.result.now ≤ k = c.loop-signal-test.false in
    from_admitted s (n ∷ suc (direction_rank c.args.direction) ∷ [])
    (leave_path s GateId end_place (Admitted s) n c.args.direction p k is (omega arith)
    (to_admitted s (n ∷ direction_rank c.args.direction ∷ k ∷ []) c.loop-signal.invariant))
