use Rattle.std.proofs.Common.{IfSome, ap, sym, subst, true, ◌≡◌, ◌∙◌, arith}
use Rattle.sdl_instances_processes.specs.Places.{is_of, Listed, set_places}
use Rattle.sdl_instances_processes.proofs.SetPlaces.{among, chosen}
use Rattle.sdl_instances_processes.proofs.living_instances.Instances.place_of.Goals as goal

pub bounds-of_set-k : goal.bounds-of_set-k
bounds-of_set-k c =
    let es = c.args.self.now.entries in
    let ns = c.of_set.result.now in
    let are = c.of_set.ensures ∙ c.self.invariant.1 c.args.set ∙ ap (λ (l : Listed). set_places c.args.set l.entries) c.self.view_is in
    among c.args.set es ns c.args.k are c.requires

pub offset_bounds-of_set-k : goal.offset_bounds-of_set-k
offset_bounds-of_set-k c =
    let es = c.args.self.now.entries in
    let ns = c.of_set.result.now in
    let are = c.of_set.ensures ∙ c.self.invariant.1 c.args.set ∙ ap (λ (l : Listed). set_places c.args.set l.entries) c.self.view_is in
    let within = among c.args.set es ns c.args.k are c.requires in
    let small = c.of_set.type_inv.1 in
    omega (arith, within, small)

pub returns-clause-within : goal.returns-clause-within
returns-clause-within c =
    let es = c.args.self.now.entries in
    let ns = c.of_set.result.now in
    let are = c.of_set.ensures ∙ c.self.invariant.1 c.args.set ∙ ap (λ (l : Listed). set_places c.args.set l.entries) c.self.view_is in
    let (p, within, at, of, others) = chosen c.args.set es ns c.args.k are c.requires in
    within

pub returns-clause-member : goal.returns-clause-member
returns-clause-member c =
    let es = c.args.self.now.entries in
    let ns = c.of_set.result.now in
    let are = c.of_set.ensures ∙ c.self.invariant.1 c.args.set ∙ ap (λ (l : Listed). set_places c.args.set l.entries) c.self.view_is in
    let (p, within, at, of, others) = chosen c.args.set es ns c.args.k are c.requires in
    subst (λ o. IfSome o (λ q. is_of c.args.set q ≡ true)) (sym at) of

pub returns-clause-others : goal.returns-clause-others
returns-clause-others c =
    let es = c.args.self.now.entries in
    let ns = c.of_set.result.now in
    let are = c.of_set.ensures ∙ c.self.invariant.1 c.args.set ∙ ap (λ (l : Listed). set_places c.args.set l.entries) c.self.view_is in
    let (p, within, at, of, others) = chosen c.args.set es ns c.args.k are c.requires in
    others
