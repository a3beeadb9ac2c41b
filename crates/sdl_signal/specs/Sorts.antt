-- The sorts of values. (Z.101, data types; which there are is this project's own.)
use Rattle.std.specs.Prelude.{◌≡◌, List, map}
use Rattle.sdl_signal.specs.declared.values.Sort.{Sort}
use Rattle.sdl_signal.specs.declared.values.Sort.TheVariants as sort
use Rattle.sdl_signal.specs.declared.values.Value.{Value}
use Rattle.sdl_signal.specs.declared.values.Value.TheVariants as value

-- the sort of a value
abbrev pub sort_of : Value → Sort
sort_of (value.Integer _) = sort.Integer
sort_of (value.Boolean _) = sort.Boolean
sort_of (value.Pid _) = sort.Pid

-- the values are of these sorts, one by one
abbrev pub AreOfSorts : List Value → List Sort → Type 0
AreOfSorts values sorts = map sort_of values ≡ sorts
