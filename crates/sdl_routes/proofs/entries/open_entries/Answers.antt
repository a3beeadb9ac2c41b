use Rattle.std.proofs.Common.{◌≡◌, ℕ, false, List, get_or, inl, inr, ap, sym, ◌∙◌, subst, arith}
use Rattle.std.proofs.lemmas.Bool.{cases_eq}
use Rattle.std.proofs.lemmas.List.{get_or_default}
use Rattle.sdl_routes.specs.declared.route.Hop.{Hop}
use Rattle.sdl_routes.specs.declared.route.Via.TheVariants as via
use Rattle.sdl_routes.specs.Index.{HasEntry}
use Rattle.sdl_routes.proofs.entries.open_entries.Goals as goal

-- what a read past the end of a list of hops gives in a goal
abbrev unread : Hop
unread = record { channel = record { 0 = 0 }; back = false }

pub loop-hop-init : goal.loop-hop-init
loop-hop-init c =
    let row = c.args.row.now in
    record {
      kept = λ rows n p g at are. c.in_ok-open_entry-2.ensures.kept rows n p g (at (via.Gate row.route.start)) (c.in_ok-open_entry.ensures.kept rows n p g (at via.Any) are);
      any = c.in_ok-open_entry-2.ensures.others (record { source = row.source; signal = row.route.signal; goal = c.args.goal; via = via.Any }) c.in_ok-open_entry.ensures.there;
      gate = c.in_ok-open_entry-2.ensures.there;
      channels = λ k h lt. absurd (omega arith);
    }

pub loop-hop-preserved : goal.loop-hop-preserved
loop-hop-preserved c =
    let row = c.args.row.now in
    let hops : List Hop = c.as_slice-hop-items.result.now in
    let i = c.loop-hop.hop-index in
    let hop : Hop = get_or hops i unread in
    let more = c.in_ok-open_entry-3.ensures in
    record {
      kept = λ rows n p g at are. more.kept rows n p g (at (via.Channel hop.channel)) (c.loop-hop.invariant.kept rows n p g at are);
      any = more.others (record { source = row.source; signal = row.route.signal; goal = c.args.goal; via = via.Any }) c.loop-hop.invariant.any;
      gate = more.others (record { source = row.source; signal = row.route.signal; goal = c.args.goal; via = via.Gate row.route.start }) c.loop-hop.invariant.gate;
      channels = λ k h lt is. elim (cases_eq k i) [
        | inl e ↦
            let same : hop ≡ h = get_or_default hops i unread h c.loop-hop-test.true ∙ ap (λ (m : ℕ). get_or hops m h) (sym e) ∙ is in
            subst (λ (x : Hop). HasEntry c.open_entry-in-loop-hop.new.entries.items (record { source = row.source; signal = row.route.signal; goal = c.args.goal; via = via.Channel x.channel })) same more.there
        | inr not ↦ more.others (record { source = row.source; signal = row.route.signal; goal = c.args.goal; via = via.Channel h.channel }) (c.loop-hop.invariant.channels k h (omega arith) is)
      ];
    }
