use Rattle.std.proofs.Common.{rules, ◌≡◌, ◌<◌, ◌^◌, false, nat_lt, sym, ◌∙◌, arith}
use Rattle.sdl_transition_saves.proofs.Bits.{none_above}
use Rattle.sdl_transition_saves.proofs.signal_set.SignalSet.has.Goals as goal

pub returns-else-signal-lt64 : goal.returns-else-signal-lt64
returns-else-signal-lt64 c =
    let small : c.args.self.now.bits < 2 ^ 64 = search rules in
    let past = c.if-signal-lt64.false in
    let no : nat_lt c.args.signal.0 64 ≡ false = search rules in
    no ∙ sym (none_above c.args.self.now.bits c.args.signal.0 small (λ h. omega (arith, h, past)))
