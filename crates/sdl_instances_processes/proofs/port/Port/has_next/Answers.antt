use Rattle.std.proofs.Common.{◌≡◌, false, List, is_some, nat_lt, ap, sym, ◌∙◌, deque_len}
use Rattle.std.proofs.lemmas.Bool.{cond-false}
use Rattle.sdl_signal.specs.declared.ids.SignalId.{SignalId}
use Rattle.sdl_signal.specs.declared.values.Item.{Item}
use Rattle.sdl_transition_saves.specs.declared.signal_set.SignalSet.{SignalSet}
use Rattle.sdl_transition_saves.specs.Saves.{holds}
use Rattle.sdl_transition_saves.proofs.Bits.{none_holds}
use Rattle.sdl_instances_processes.specs.Ports.{Held, next_in}
use Rattle.sdl_instances_processes.proofs.Ports.{first_next, has_some}
use Rattle.sdl_instances_processes.proofs.port.Port.has_next.Goals as goal

pub returns-else-self : goal.returns-else-self
returns-else-self c =
    let p = c.self.inside in
    let may : p.may_save ≡ false = c.if-self.false in
    let none : (signal : SignalId) → holds p.current signal ≡ false = λ signal. ap (λ (s : SignalSet). holds s signal) (c.self.invariant may) ∙ none_holds signal.0 in
    let here = has_some p.queue.items (deque_len p.queue) (sym p.queue.ok.0) in
    ap (λ n. nat_lt 0 n) c.len.ensures ∙ here
    ∙ sym (ap is_some (first_next (holds p.current) none p.queue.items))
    ∙ sym (ap (λ (l : List Item). is_some (next_in (holds p.current) l)) (cond-false p.may_save p.by_signal p.queue.items may))
    ∙ ap (λ (h : Held). is_some (next_in (holds h.current) h.items)) c.self.view_is
