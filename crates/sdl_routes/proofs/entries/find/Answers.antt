use Rattle.std.proofs.Common.{◌≡◌, ℕ, List, true, false, map, get_or, inl, inr, ap, sym, ◌∙◌, arith}
use Rattle.std.proofs.lemmas.Bool.{cases_eq}
use Rattle.std.proofs.lemmas.List.{get_or-map}
use Rattle.sdl_routes.specs.declared.route.Wish.{Wish}
use Rattle.sdl_routes.specs.declared.entries.Entry.{Entry}
use Rattle.sdl_routes.proofs.entries.find.Goals as goal

pub loop-place-preserved : goal.loop-place-preserved
loop-place-preserved c = λ k lt is. elim (cases_eq k c.loop-place.place) [
  | inl e ↦
      let entry : Entry = c.index-entries-place.result in
      let wishes : List Wish = map (λ (x : Entry). x.wish) c.args.entries.now in
      let at : get_or wishes c.loop-place.place c.args.wish.now ≡ entry.wish =
      get_or-map (λ (x : Entry). x.wish) c.args.entries.now c.loop-place.place entry c.args.wish.now c.loop-place-test.true
      ∙ ap (λ (x : Entry). x.wish) (sym c.index-entries-place.is) in
      let same : entry.wish ≡ c.args.wish.now = sym at ∙ ap (λ (n : ℕ). get_or wishes n c.args.wish.now) (sym e) ∙ is in
      let f : false ≡ true = c.if-is_of.ensures.1 same in
      cc
  | inr not ↦ c.loop-place.invariant k (omega arith) is
]
