use Rattle.std.proofs.Common.{◌≡◌, Some, None, sym, ap, ◌∙◌, subst, position, bytes_eq}
use Rattle.sdl_signal.specs.declared.naming.SignalEntry.{SignalEntry}
use Rattle.sdl_signal.specs.Names.{DeclaredSignal}
use Rattle.sdl_signal.specs.Reading.{IsNamedAt, IsNowhere}
use Rattle.sdl_signal.proofs.Named.{named_from_position, nowhere_from_position, named_in_map, nowhere_in_map}
use Rattle.sdl_signal.proofs.naming.Names.signal_named.Goals as goal

abbrev of_entry : SignalEntry → DeclaredSignal
of_entry s = record { name = s.name.bytes; sorts = s.sorts.items }

pub returns-in_default-clause-absent : goal.returns-in_default-clause-absent
returns-in_default-clause-absent c =
    let text = c.args.text.now in
    let items = c.self.inside.signals.items in
    let bytes = λ (n : SignalEntry). n.name.bytes in
    let e : position (λ n. bytes_eq (bytes n) text) items ≡ None = ap (position (λ n. bytes_eq (bytes n) text)) (sym c.deref.ensures.value) ∙ sym c.place_of_signal.ensures.place ∙ c.in_default.is in
    subst (λ s. IsNowhere (λ s. s.name) s.signals text) c.self.view_is (nowhere_in_map of_entry (λ s. s.name) items text (nowhere_from_position bytes items text e))

pub returns-clause-found : goal.returns-clause-found
returns-clause-found c =
    let text = c.args.text.now in
    let items = c.self.inside.signals.items in
    let place = c.in-Some.place in
    let bytes = λ (n : SignalEntry). n.name.bytes in
    let e : position (λ n. bytes_eq (bytes n) text) items ≡ Some place = ap (position (λ n. bytes_eq (bytes n) text)) (sym c.deref.ensures.value) ∙ sym c.place_of_signal.ensures.place ∙ c.in-Some.is in
    subst (λ s. IsNamedAt (λ s. s.name) s.signals text place) c.self.view_is (named_in_map of_entry (λ s. s.name) items text place (named_from_position bytes items text place e))
