use Rattle.std.proofs.Common.{◌≡◌, ℕ, ◌≤◌, List, length, Some, true, false, slice_get, refl, ap, sym, ◌∙◌, arith, add-one}
use Rattle.std.proofs.lemmas.Option.{slice_get_read}
use Rattle.sdl_structure_parts.specs.declared.parts.Channel.{Channel}
use Rattle.sdl_structure_parts.proofs.Numbers.{below_more_at}
use Rattle.sdl_structure_parts.specs.Rules.{CarriesSome}
use Rattle.sdl_structure_parts.proofs.Simple.{signals_first, signals_kept}
use Rattle.sdl_structure_parts.proofs.checking.each_rule.first_empty_channel.Goals as goal

pub returns-then-not-carries_some : goal.returns-then-not-carries_some
returns-then-not-carries_some c =
    let xs : List Channel = c.channels-channel-items.result.now in
    let i : ℕ = c.loop-number.number in
    let at : slice_get xs i ≡ Some c.channel-item.result = slice_get_read xs (length xs) i c.channel-item.result refl c.loop-number-test.true c.channel-item.is in
    signals_first c.args.structure.now i c.channel-item.result c.loop-number.invariant
    (ap (λ (ys : List Channel). slice_get ys i) (sym c.channels-channel-items.ensures) ∙ at)
    (λ h. let e : false ≡ true = c.if-not-carries_some.ensures.1 h in cc)

pub loop-number-preserved : goal.loop-number-preserved
loop-number-preserved c =
    let xs : List Channel = c.channels-channel-items.result.now in
    let i : ℕ = c.loop-number.number in
    let at : slice_get xs i ≡ Some c.channel-item.result = slice_get_read xs (length xs) i c.channel-item.result refl c.loop-number-test.true c.channel-item.is in
    rw add-one (below_more_at CarriesSome c.args.structure.now.channels i c.channel-item.result
    (ap (λ (ys : List Channel). slice_get ys i) (sym c.channels-channel-items.ensures) ∙ at)
    (c.if-not-carries_some.ensures.0 refl) c.loop-number.invariant)

pub returns : goal.returns
returns c =
    let same : length c.channels-channel-items.result.now ≡ length c.args.structure.now.channels = ap length c.channels-channel-items.ensures in
    let past : length c.channels-channel-items.result.now ≤ c.loop-number.number = c.loop-number-test.false in
    signals_kept c.args.structure.now (λ n lt. c.loop-number.invariant n (omega arith))
