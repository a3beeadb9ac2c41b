-- What an agents file says. (This project's own.)
use Rattle.std.specs.Prelude.{ℕ, ◌≤◌, List, length, IsSomeAnd, IsUtf8}
use Rattle.toml.specs.Parse.{parse_document}
use Rattle.sdl_structure_parts.specs.Structure.{Structure}
use Rattle.sdl_listing_body.specs.declared.listing.ListedSet.{ListedSet}
use Rattle.sdl_listing_file.specs.File.{IsFileOf}
use Rattle.sdl_app_file_commands.specs.Files.{longest_file}

-- The agents file says this of the sets of the structure: it is not too long, and its text keeps the rules of agents files.
pub record Describes (file : List ℕ) (s : Structure) (listing : List ListedSet) : Type 0 where
  pub short : length file ≤ longest_file
  pub utf8 : IsUtf8 file
  pub text : IsSomeAnd (parse_document file) (λ root. IsFileOf s root listing)
