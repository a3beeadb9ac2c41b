use Rattle.std.proofs.Common.{◌≡◌, [], ◌∷◌, ◌++◌, Option, MatchOption, ap, sym, ◌∙◌, subst}
use Rattle.sdl_signal.specs.declared.values.Item.{Item}
use Rattle.sdl_forward_ends.specs.Ends.{WorkerEnds, taken_by}
use Rattle.sdl_forward_ends.proofs.Taps.{taken_of, took, took_none}
use Rattle.sdl_forward_ends.proofs.ends.Ends.take_into.Goals.{in-Some, in-None}
use Rattle.sdl_forward_ends.proofs.ends.Ends.take_into.Goals as goal

pub returns-clause-taken : goal.returns-clause-taken
returns-clause-taken g c = let now = taken_of c.match-self.self-inside.tap in
    subst (λ (e : WorkerEnds). MatchOption c.match-self.slot (now ≡ taken_by e) (λ (x : Item). now ≡ taken_by e ++ x ∷ [])) c.self.view_is
    (elim c.match-self.branch [
      | in-Some w ↦ took w.in-Some.field-0-0 w.in-Some.tap w.take_into.new.self c.self.inside.tap c.match-self.self-inside.tap c.match-self.slot w.in-Some.is (ap (λ x. x.tap) w.self-inside-is)
          (subst (λ (o : Option Item). MatchOption o (w.take_into.new.self.taken ≡ w.in-Some.tap.taken) (λ (x : Item). (y : _) × (y.item ≡ x) × (w.take_into.new.self.taken ≡ w.in-Some.tap.taken ++ y ∷ []))) (sym w.slot-is) w.take_into.ensures.taken)
      | in-None w ↦ took_none c.self.inside.tap c.match-self.self-inside.tap c.match-self.slot (ap (λ x. x.tap) w.self-inside-is) (w.slot-is ∙ c.requires.none)
    ])
