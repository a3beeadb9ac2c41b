use Rattle.std.proofs.Common.{◌≡◌, suc, ◌-◌, ◌<◌, length, refl, ap, sym, ◌∙◌, arith}
use Rattle.std.proofs.lemmas.Option.{slice_get_read}
use Rattle.sdl_instances_packed_log.specs.Packed.{begins}
use Rattle.sdl_instances_packed_log.proofs.Packing.{begins_after}
use Rattle.sdl_instances_packed_log.proofs.packed.begin_of.Goals as goal

pub returns-else-place-eq0 : goal.returns-else-place-eq0
returns-else-place-eq0 c =
    let hs = c.args.heads.now in
    let n = c.args.place - 1 in
    let is : suc n ≡ c.args.place = omega (arith, c.if-place-eq0.false) in
    let less : n < length hs = omega (arith, c.requires, is) in
    sym (begins_after 0 0 hs n c.index-heads-place.result (slice_get_read hs (length hs) n c.index-heads-place.result refl less c.index-heads-place.is)) ∙ ap (begins 0 0 hs) is
