use Rattle.std.proofs.Common.{◌≡◌, ◌+◌, ◌++◌, ◌∷◌, [], ap, ◌∙◌, arith, length, length-append}
use Rattle.sdl_app_command.specs.Pipe.{queued_item, queued_items}
use Rattle.sdl_app_command.proofs.Piped.{queued_items-push, AreWritable-push}
use Rattle.sdl_app_command.proofs.pipe.read_all.Goals as goal

pub loop-end-preserved : goal.loop-end-preserved
loop-end-preserved g c =
    let (same, few, (carried, reading, queue, writable, count)) = c.loop-end.invariant in
    let line = c.in-Line.line in
    let (more, within) = c.in-Line.ensures.count in
    let put : c.put.new.self ≡ c.loop-end.queue ++ c.item_of-item.result ∷ [] = c.in-Ok.ensures in (
      omega (arith, same, more),
      omega (arith, same, more, within),
      (
        carried ++ line ∷ [],
        c.in-Line.ensures.reading _ carried reading,
        put ∙ ap (λ q. q ++ c.item_of-item.result ∷ []) queue
            ∙ ap (λ i. queued_items 0 carried ++ i ∷ []) (c.item_of-item.ensures ∙ ap (λ n. queued_item n line.signal) (let e : c.loop-end.number ≡ 0 + length carried = omega (arith, count) in e))
            ∙ queued_items-push 0 carried line,
        AreWritable-push c.args.names.now carried line writable c.in-Line.ensures.line.2,
        rw length-append (ap (λ n. n + 1) count),
      ),
    )
