-- What a take does to what was taken.
use Rattle.std.proofs.Common.{◌≡◌, List, [], ◌∷◌, ◌++◌, Option, Some, None, MatchOption, ap, sym, ◌∙◌, subst}
use Rattle.std.proofs.lemmas.List.{map-append}
use Rattle.sdl_signal.specs.declared.values.Item.{Item}
use Rattle.sdl_routes.specs.declared.route.Station.{Station}
use Rattle.sdl_queue.specs.declared.rule.Tagged.{Tagged}
use Rattle.sdl_queue.specs.Ends.{TapEnd, items_of}

abbrev pub taken_of : Option (Station × TapEnd) → List Item
taken_of o = elim o [ None ↦ [] | Some t ↦ items_of t.1.taken ]

took_one : (s : Station) (t u : TapEnd) (r : Option Item) → MatchOption r (u.taken ≡ t.taken) (λ x. (y : Tagged) × (y.item ≡ x) × (u.taken ≡ t.taken ++ y ∷ []))
    → MatchOption r (items_of u.taken ≡ items_of t.taken) (λ x. items_of u.taken ≡ items_of t.taken ++ x ∷ [])
took_one s t u None h = ap items_of h
took_one s t u (Some x) (y, same, e) =
    ap items_of e ∙ (map-append (λ (z : Tagged). z.item) t.taken (y ∷ []) ∙ ap (λ (i : Item). items_of t.taken ++ i ∷ []) same)

pub took : (s : Station) (t u : TapEnd) (before after : Option (Station × TapEnd)) (r : Option Item) → before ≡ Some (s, t) → after ≡ Some (s, u)
    → MatchOption r (u.taken ≡ t.taken) (λ x. (y : Tagged) × (y.item ≡ x) × (u.taken ≡ t.taken ++ y ∷ []))
    → MatchOption r (taken_of after ≡ taken_of before) (λ x. taken_of after ≡ taken_of before ++ x ∷ [])
took s t u before after r e f h =
    subst (λ (o : Option (Station × TapEnd)). MatchOption r (taken_of after ≡ taken_of o) (λ x. taken_of after ≡ taken_of o ++ x ∷ [])) (sym e)
    (subst (λ (o : Option (Station × TapEnd)). MatchOption r (taken_of o ≡ items_of t.taken) (λ x. taken_of o ≡ items_of t.taken ++ x ∷ [])) (sym f) (took_one s t u r h))

pub took_none : (before after : Option (Station × TapEnd)) (r : Option Item) → after ≡ before → r ≡ None
    → MatchOption r (taken_of after ≡ taken_of before) (λ x. taken_of after ≡ taken_of before ++ x ∷ [])
took_none before after r e h = subst (λ (o : Option Item). MatchOption o (taken_of after ≡ taken_of before) (λ x. taken_of after ≡ taken_of before ++ x ∷ [])) (sym h) (ap taken_of e)
