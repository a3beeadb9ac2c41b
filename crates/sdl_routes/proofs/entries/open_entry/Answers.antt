use Rattle.std.proofs.Common.{subst, sym}
use Rattle.sdl_routes.specs.declared.entries.Entry.{Entry}
use Rattle.std.proofs.Common.{List}
use Rattle.sdl_routes.specs.Index.{AreEntries, HasEntry}
use Rattle.sdl_routes.proofs.Indexed.{opened, has_more, has_new}
use Rattle.sdl_routes.proofs.entries.open_entry.Goals as goal

pub returns-in_ok-push-in-None-clause-kept : goal.returns-in_ok-push-in-None-clause-kept
returns-in_ok-push-in-None-clause-kept c rows n p g stands are =
    let e : Entry = record { wish = c.args.wish; numbers = c.new.result } in
    let none : HasEntry c.args.entries.now.items c.args.wish → ⊥ = λ has. c.in-None.ensures.none (subst (λ (l : List Entry). HasEntry l c.args.wish) (sym c.as_slice.ensures.value) has) in
    subst (λ (l : List Entry). AreEntries rows n p g l) (sym c.in_ok-push-in-None.ensures.items)
    (opened rows n p g c.args.entries.now.items e stands c.new.ensures.items none are)

pub returns-in_ok-push-in-None-clause-there : goal.returns-in_ok-push-in-None-clause-there
returns-in_ok-push-in-None-clause-there c =
    let e : Entry = record { wish = c.args.wish; numbers = c.new.result } in
    subst (λ (l : List Entry). HasEntry l c.args.wish) (sym c.in_ok-push-in-None.ensures.items) (has_new c.args.entries.now.items e)

pub returns-in_ok-push-in-None-clause-others : goal.returns-in_ok-push-in-None-clause-others
returns-in_ok-push-in-None-clause-others c w has =
    let e : Entry = record { wish = c.args.wish; numbers = c.new.result } in
    subst (λ (l : List Entry). HasEntry l w) (sym c.in_ok-push-in-None.ensures.items) (has_more c.args.entries.now.items e w has)
