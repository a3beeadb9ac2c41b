-- The versions of the structure file. (This project's own.)
use Rattle.std.specs.Prelude.{ℕ, ℤ, pos, negsuc, ◌==◌, if◌then◌else◌}
use Rattle.sdl_structure_tables.specs.declared.version.Version.{Version}
use Rattle.sdl_structure_tables.specs.declared.version.Version.TheVariants.{One, Two}

-- the version that a number says; any other than 2 is read as the first, which then refuses it
abbrev pub version_said : ℤ → Version
version_said (pos n) = if n == 2 then Two else One
version_said (negsuc n) = One

-- the most blocks of a file
abbrev pub most_blocks : Version → ℕ
most_blocks One = 16
most_blocks Two = 64
