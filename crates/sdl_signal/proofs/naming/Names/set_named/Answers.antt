use Rattle.std.proofs.Common.{◌≡◌, Some, None, sym, ap, ◌∙◌, subst, position, bytes_eq}
use Rattle.arrayvec.specs.declared.array_string.ArrayString.{ArrayString}
use Rattle.sdl_signal.specs.Reading.{IsNamedAt, IsNowhere}
use Rattle.sdl_signal.proofs.Named.{named_from_position, nowhere_from_position, named_in_map, nowhere_in_map}
use Rattle.sdl_signal.proofs.naming.Names.set_named.Goals as goal

pub returns-in_default-clause-absent : goal.returns-in_default-clause-absent
returns-in_default-clause-absent c =
    let text = c.args.text.now in
    let items = c.self.inside.sets.items in
    let bytes = λ (n : ArrayString 32). n.bytes in
    let e : position (λ n. bytes_eq (bytes n) text) items ≡ None = ap (position (λ n. bytes_eq (bytes n) text)) (sym c.deref.ensures.value) ∙ sym c.place_of_name.ensures.place ∙ c.in_default.is in
    subst (λ s. IsNowhere (λ n. n) s.sets text) c.self.view_is (nowhere_in_map bytes (λ n. n) items text (nowhere_from_position bytes items text e))

pub returns-clause-found : goal.returns-clause-found
returns-clause-found c =
    let text = c.args.text.now in
    let items = c.self.inside.sets.items in
    let place = c.in-Some.place in
    let bytes = λ (n : ArrayString 32). n.bytes in
    let e : position (λ n. bytes_eq (bytes n) text) items ≡ Some place = ap (position (λ n. bytes_eq (bytes n) text)) (sym c.deref.ensures.value) ∙ sym c.place_of_name.ensures.place ∙ c.in-Some.is in
    subst (λ s. IsNamedAt (λ n. n) s.sets text place) c.self.view_is (named_in_map bytes (λ n. n) items text place (named_from_position bytes items text place e))
