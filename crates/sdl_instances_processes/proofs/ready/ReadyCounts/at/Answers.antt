use Rattle.std.proofs.Common.{◌*◌, ◌<◌, List, sum, take, ap, sym, ◌∙◌, subst, get_or, arith}
use Rattle.sdl_instances_processes.proofs.ReadyCounts.{total_places, total_groups, total_ranges, down_groups, down_places, found}
use Rattle.sdl_instances_processes.proofs.ready.ReadyCounts.at.Goals as goal

pub seek-range-requires : goal.seek-range-requires
seek-range-requires c =
    let (rs, are, few) = c.requires in
    let all = ap sum c.as_slice.ensures.value ∙ total_ranges c.args.self.now rs are in
    omega (arith, all, few)

pub seek-group-requires : goal.seek-group-requires
seek-group-requires c =
    let (rs, are, few) = c.requires in
    let range = c.seek-range.result.0 in
    let all = ap sum c.as_slice-2.ensures.value ∙ total_groups c.args.self.now rs are in
    let here = ap (λ (l : List _). sum (take (range * 32) l)) c.as_slice-2.ensures.value ∙ down_groups c.args.self.now range rs are ∙ ap (λ (l : List _). sum (take range l)) (sym c.as_slice.ensures.value) in
    let skipped = c.seek-range.ensures.skipped in
    omega (arith, all, few, here, skipped)

pub seek-place-requires : goal.seek-place-requires
seek-place-requires c =
    let (rs, are, few) = c.requires in
    let range = c.seek-range.result.0 in
    let group = c.seek-group.result.0 in
    let all = ap sum c.as_slice-3.ensures.value ∙ total_places c.args.self.now rs are in
    let wide = ap (λ (l : List _). sum (take (range * 32) l)) c.as_slice-2.ensures.value ∙ down_groups c.args.self.now range rs are ∙ ap (λ (l : List _). sum (take range l)) (sym c.as_slice.ensures.value) in
    let here = ap (λ (l : List _). sum (take (group * 32) l)) c.as_slice-3.ensures.value ∙ down_places c.args.self.now group rs are ∙ ap (λ (l : List _). sum (take group l)) (sym c.as_slice-2.ensures.value) in
    let first = c.seek-range.ensures.skipped in
    let second = c.seek-group.ensures.skipped in
    omega (arith, all, few, wide, here, first, second)

pub returns : goal.returns
returns c rs are =
    let range = c.seek-range.result.0 in
    let group = c.seek-group.result.0 in
    let place = c.seek-place.result.0 in
    let wide = ap (λ (l : List _). sum (take (range * 32) l)) c.as_slice-2.ensures.value ∙ down_groups c.args.self.now range rs are ∙ ap (λ (l : List _). sum (take range l)) (sym c.as_slice.ensures.value) in
    let here = ap (λ (l : List _). sum (take (group * 32) l)) c.as_slice-3.ensures.value ∙ down_places c.args.self.now group rs are ∙ ap (λ (l : List _). sum (take group l)) (sym c.as_slice-2.ensures.value) in
    let first = c.seek-range.ensures.skipped in
    let second = c.seek-group.ensures.skipped in
    let third = c.seek-place.ensures.skipped in
    let own = ap (λ (l : List _). sum (take place l)) (sym c.as_slice-3.ensures.value) in
    found c.args.self.now place c.args.k c.seek-place.result.1 rs are
    (subst (λ (l : List _). c.seek-place.result.1 < get_or l place 0) c.as_slice-3.ensures.value c.seek-place.ensures.here)
    (omega (arith, own, wide, here, first, second, third))
