-- What a structure file declares. (This project's own.)
use Rattle.std.specs.Prelude.{◌≡◌, ℕ, ◌+◌, ◌≤◌, List, length, take, IsSomeAnd, IsUtf8, ⊤}
use Rattle.toml.specs.Parse.{parse_document}
use Rattle.sdl_structure.specs.File.{IsFileOf}
use Rattle.sdl_structure_parts.specs.Structure.{Structure}
use Rattle.sdl_structure_parts.specs.Rules.{IsWellFormed}
use Rattle.sdl_app_file_commands.specs.declared.files.FileRead.{FileRead}
use Rattle.sdl_app_file_commands.specs.declared.files.FileRead.TheVariants as file

-- the most bytes of a structure file
abbrev pub longest_file : ℕ
longest_file = 1048576

-- The file declares the structure: it is not too long, its text keeps the rules of structure files, and the structure that it
-- describes is well formed.
pub record Declares (file : List ℕ) (s : Structure) : Type 0 where
  pub short : length file ≤ longest_file
  pub utf8 : IsUtf8 file
  pub text : IsSomeAnd (parse_document file) (λ table. IsFileOf table s)
  pub well_formed : IsWellFormed s

-- the bytes that were read are those of the file, up to one more than it may have
abbrev pub IsFrontOf : FileRead → List ℕ → Type 0
IsFrontOf (file.Bytes bytes) known = bytes.items ≡ take (longest_file + 1) known
IsFrontOf file.CannotRead known = ⊤
IsFrontOf file.Memory known = ⊤
