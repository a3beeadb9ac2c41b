use Rattle.std.proofs.Common.{length, refl}
use Rattle.std.proofs.lemmas.Option.{slice_get_read}
use Rattle.sdl_forward_ends.specs.Stations.{stations_of}
use Rattle.sdl_forward_ends.proofs.Places.{index_more, stations_get}
use Rattle.sdl_forward_ends.proofs.index.Index.of.Goals as goal

pub loop-place-preserved : goal.loop-place-preserved
loop-place-preserved g c =
    let entries = c.args.entries.now in
    let at = slice_get_read entries (length entries) c.loop-place.place c.index-entries-place.result refl c.loop-place-test.true c.index-entries-place.is in
    index_more c.loop-place.index c.set.new.self (stations_of entries) c.loop-place.place c.index-entries-place.result.0 c.requires
    (stations_get entries c.loop-place.place c.index-entries-place.result at) c.loop-place.invariant c.in_ok-set.ensures.ok c.in_ok-set.ensures.others
