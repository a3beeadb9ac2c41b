use Rattle.std.proofs.Common.{refl}
use Rattle.sdl_drawing.specs.declared.shapes.GateBox.{GateBox}
use Rattle.sdl_drawing.specs.Shown.{gate_of_number}
use Rattle.sdl_drawing.proofs.Numbers.{numbered_next}
use Rattle.sdl_drawing.proofs.boxes.boxes_of.Goals as goal

pub loop-number-preserved : goal.loop-number-preserved
loop-number-preserved c =
    numbered_next gate_of_number (λ (b : GateBox). b.gate) c.loop-number.boxes.items c.push.new.self.items c.loop-number.number _
    c.loop-number.invariant c.in_ok-push.ensures.items refl
