use Rattle.std.proofs.Common.{◌+◌, length, take, sym, subst, refl}
use Rattle.std.proofs.lemmas.Option.{slice_get_read}
use Rattle.sdl_queue.specs.Rest.{left_in}
use Rattle.sdl_forward.specs.declared.busy.Busy.{Busy}
use Rattle.sdl_forward.specs.Boards.{lists_of}
use Rattle.sdl_forward.specs.Busy.{ShowsAllBusy}
use Rattle.sdl_forward.proofs.Marks.{marked_more, empty_more, none_here}
use Rattle.sdl_forward.proofs.busy.Busy.of.Goals.{then-len-ne0, else-len-ne0}
use Rattle.sdl_forward.proofs.busy.Busy.of.Goals as goal

pub loop-station-preserved : goal.loop-station-preserved
loop-station-preserved c =
    let rests = c.args.rests.now in
    let k = c.loop-station.station-index in
    let entry = c.loop-station-item.result in
    let at = slice_get_read rests (length rests) k entry refl c.loop-station-test.true c.loop-station-item.is in
    elim c.if-len-ne0.branch [
      | then-len-ne0 w ↦ subst (λ (b : Busy). ShowsAllBusy b (lists_of (take (k + 1) rests))) (sym w.busy-is) (marked_more c.loop-station.busy w.note.new.self rests k entry at c.loop-station.invariant w.note.ensures)
      | else-len-ne0 w ↦ empty_more c.loop-station.busy c.if-len-ne0.busy rests k entry at c.loop-station.invariant w.busy-is (none_here (left_in entry.1) c.len.result c.len.ensures w.if-len-ne0.false)
    ]
