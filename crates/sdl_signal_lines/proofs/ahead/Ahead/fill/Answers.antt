use Rattle.std.proofs.Common.{◌≡◌, ◌-◌, ◌++◌, length, take, drop, arith, ap, ◌∙◌}
use Rattle.std.proofs.lemmas.List.{length-take-le}
use Rattle.sdl_signal_lines.proofs.Waiting.{filled}
use Rattle.sdl_signal_lines.proofs.ahead.Ahead.fill.Goals as goal

pub returns-in-Bytes : goal.returns-in-Bytes
returns-in-Bytes g c =
    let a = c.self.inside in
    let waiting = a.end - a.start in
    let (some, fits, consumed) = c.in-Bytes.ensures.read in
    let count : length (take c.in-Bytes.count (drop waiting c.read_behind.new.block)) ≡ c.in-Bytes.count = length-take-le _ _ fits in (
      take c.in-Bytes.count (drop waiting c.read_behind.new.block),
      omega (arith, count, some),
      filled a.block c.move_to_front.new.block c.read_behind.new.block a.start a.end c.in-Bytes.count c.self.invariant.0 c.move_to_front.ensures c.in-Bytes.ensures.kept
          ∙ ap (λ front. front ++ take c.in-Bytes.count (drop waiting c.read_behind.new.block)) c.self.view_is,
      consumed,
    )
