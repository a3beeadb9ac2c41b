use Rattle.std.proofs.Common.{List, sym, subst}
use Rattle.sdl_routes.specs.declared.route.Station.{Station}
use Rattle.sdl_forward_ends.specs.Index.{IsIndexOf}
use Rattle.sdl_forward_ends.proofs.Flushed.{stations_kept, puts_stay, ends_stay, held_clear, clear_held}
use Rattle.sdl_forward_ends.proofs.ends.Ends.flush.Goals as goal

pub invariant_of-self : goal.invariant_of-self
invariant_of-self c =
    subst (λ (ss : List Station). IsIndexOf c.self.inside.index ss) (sym (stations_kept c.self.inside.feeds.items c.flush_all-empty.new.feeds.items c.flush_all-empty.ensures.flushed)) c.self.invariant

pub returns-clause-put : goal.returns-clause-put
returns-clause-put c = puts_stay c.self.inside.tap c.self.inside.feeds.items c.flush_all-empty.new.feeds.items c.args.self.now c.self.view_is c.flush_all-empty.ensures.flushed

pub returns-clause-empty : goal.returns-clause-empty
returns-clause-empty c =
    let e = c.flush_all-empty.ensures.empty in
    ((λ t. held_clear c.flush_all-empty.new.feeds.items (e.0 t)), λ h. e.1 (clear_held c.flush_all-empty.new.feeds.items h))

pub returns-clause-same : goal.returns-clause-same
returns-clause-same c = ends_stay c.self.inside.tap c.self.inside.feeds.items c.flush_all-empty.new.feeds.items c.args.self.now c.self.view_is c.flush_all-empty.ensures.flushed
