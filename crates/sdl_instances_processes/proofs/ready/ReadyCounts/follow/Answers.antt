use Rattle.std.proofs.Common.{rules, ◌≡◌, Bool, true, false, List, length, slice_set, sym, ◌∙◌}
use Rattle.sdl_instances_processes.specs.Record.{Record, is_ready}
use Rattle.sdl_instances_processes.proofs.ReadyCounts.{one_is_ready, one_was_ready, set_within, set_fits, was_within, set_alike}
use Rattle.sdl_instances_processes.proofs.ready.ReadyCounts.follow.Goals as goal

pub note-requires : goal.note-requires
note-requires c =
    let (old, r, t, are, at, was, is) = c.requires in
    let not : c.args.was ≡ false = search rules in
    let now : c.args.is ≡ true = search rules in
    (old, slice_set old c.args.place t, are, one_is_ready old c.args.place r t at (was ∙ not) (is ∙ now), set_fits c.args.self.now old c.args.place r t at are, set_within c.args.self.now old c.args.place r t at are)

pub forget-requires : goal.forget-requires
forget-requires c =
    let (old, r, t, are, at, was, is) = c.requires in
    let had : c.args.was ≡ true = search rules in
    let now : c.args.is ≡ false = search rules in
    (old, slice_set old c.args.place t, are, one_was_ready old c.args.place r t at (was ∙ had) (is ∙ now), was_within c.args.self.now old c.args.place r t at are)

pub returns-then-is-clause-counts : goal.returns-then-is-clause-counts
returns-then-is-clause-counts c old r t are at was is =
    let not : c.args.was ≡ false = search rules in
    let now : c.args.is ≡ true = search rules in
    c.note.ensures.counts old (slice_set old c.args.place t) are (one_is_ready old c.args.place r t at (was ∙ not) (is ∙ now)) (set_fits c.args.self.now old c.args.place r t at are)

pub returns-else-is-clause-counts : goal.returns-else-is-clause-counts
returns-else-is-clause-counts c old r t are at was is =
    let had : c.args.was ≡ true = search rules in
    let now : c.args.is ≡ false = search rules in
    c.forget.ensures.counts old (slice_set old c.args.place t) are (one_was_ready old c.args.place r t at (was ∙ had) (is ∙ now)) (set_fits c.args.self.now old c.args.place r t at are)

pub returns-else-was-is-clause-counts : goal.returns-else-was-is-clause-counts
returns-else-was-is-clause-counts c old r t are at was is =
    let same : c.args.was ≡ c.args.is = search rules in
    set_alike c.args.self.now old c.args.place r t at are (is ∙ sym same ∙ sym was)
