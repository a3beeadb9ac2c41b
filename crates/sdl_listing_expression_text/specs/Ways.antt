-- What a place of a text knows of the ways that lead there.
use Rattle.std.specs.Prelude.{ℕ, ◌+◌, max, Bool, ◌||◌, nat_lt, if◌then◌else◌, length, Option, Some, None}
use Rattle.sdl_listing_expression_text.specs.declared.fault.Fault.{Fault}
use Rattle.sdl_listing_expression_text.specs.declared.fault.TextFault.{TextFault}
use Rattle.sdl_listing_expression_text.specs.declared.fault.TextFault.TheVariants.{NeverReached, ManyActions}
use Rattle.sdl_listing_expression_text.specs.declared.cursor.Cursor.{Cursor}

abbrev pub first_late : Option Fault → Fault → Option Fault
first_late (Some f) later = Some f
first_late None later = Some later

-- of the late faults the first is kept
abbrev pub with_late : TextFault → Cursor → Cursor
with_late fault c = record c { late = first_late c.late (record { fault = fault; left = length c.tokens.now }) }

abbrev pub reached_by : Option ℕ → Cursor → Cursor
reached_by (Some n) c = c
reached_by None c = with_late NeverReached c

-- an output or a create at the one place, seen behind it: a way has at most 8 of them
abbrev pub acted_by : Option ℕ → Cursor → Cursor → Cursor
acted_by None c behind = behind
acted_by (Some n) c behind = if nat_lt n 8 then record behind { made = Some (n + 1) } else record behind { late = (with_late ManyActions c).late }

abbrev pub from_ways : Cursor → Cursor → Cursor
from_ways c other = record c { made = other.made; has_create = other.has_create }

-- the ways of both places; of their outputs and creates the most count
abbrev pub joined_by : Option ℕ → Option ℕ → Cursor → Cursor → Cursor
joined_by None b c other = from_ways c other
joined_by (Some a) None c other = c
joined_by (Some a) (Some b) c other = record c { made = Some (max a b); has_create = c.has_create || other.has_create }
