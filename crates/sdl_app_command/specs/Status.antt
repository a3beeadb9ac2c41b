-- The program's exit statuses, by how an input and an output ended.
use Rattle.std.specs.Prelude.{◌≡◌, ℕ, ◌⊎◌, max}
use Rattle.sdl_signal.specs.declared.ends.InputEnd.{InputEnd}
use Rattle.sdl_signal.specs.declared.ends.InputEnd.TheVariants as input
use Rattle.sdl_signal.specs.declared.ends.OutputEnd.{OutputEnd}
use Rattle.sdl_signal.specs.declared.ends.OutputEnd.TheVariants as output

-- 0 where the input was read to its end, or a refusal of memory stopped the reading, which is named elsewhere; 3 at a fault
abbrev pub status_of_input : InputEnd → ℕ
status_of_input input.Whole = 0
status_of_input (input.Stopped _) = 0
status_of_input _ = 3

-- 0 where all was written, and 3 at a fault
abbrev pub status_of_output : OutputEnd → ℕ
status_of_output output.Whole = 0
status_of_output output.WriteFault = 3

-- the status of both
abbrev pub status_of : InputEnd → OutputEnd → ℕ
status_of read written = max (status_of_input read) (status_of_output written)

-- an output was flushed: it ended as it did before, or with a fault
abbrev pub HasFlushed : OutputEnd → OutputEnd → Type 0
HasFlushed written flushed = (flushed ≡ written) ⊎ (flushed ≡ output.WriteFault)
