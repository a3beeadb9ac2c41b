use Rattle.std.proofs.Common.{◌≢◌, refl}
use Rattle.toml.specs.Data.{Members}
use Rattle.sdl_structure_parts.specs.Structure.{Structure}
use Rattle.sdl_structure_tables.specs.declared.fault.FileFault.{FileFault}
use Rattle.sdl_structure_tables.specs.declared.fault.FileFault.TheVariants as faults
use Rattle.sdl_structure_tables.specs.Faults.{IsBroken}
use Rattle.sdl_structure.specs.File.{IsFileOf}
use Rattle.sdl_structure.proofs.RuleLemmas.{none_missing, none_of_wrong_type, none_unknown}
use Rattle.sdl_structure.proofs.NameRules.{none_of_bad_name}
use Rattle.sdl_structure.proofs.RepeatRules.{none_duplicate}
use Rattle.sdl_structure.proofs.KnownRules.{none_unknown_name}
use Rattle.sdl_structure.proofs.LimitRules.{none_too_many}
use Rattle.sdl_structure.proofs.RangeRules.{none_out_of_range}
use Rattle.sdl_structure.proofs.laws.no_rule_is_broken.Goals as goal

none_broken : (root : Members) (s : Structure) (fault : FileFault) → IsFileOf root s → fault ≢ faults.Memory → ¬ IsBroken root fault
none_broken root s faults.NotToml file other broken = broken
none_broken root s (faults.MissingKey p) file other broken = none_missing root s p file broken
none_broken root s (faults.WrongType p) file other broken = none_of_wrong_type root s p file broken
none_broken root s (faults.UnknownKey p) file other broken = none_unknown root s p file broken
none_broken root s (faults.BadName p) file other broken = none_of_bad_name root s p file broken
none_broken root s (faults.Duplicate p) file other broken = none_duplicate root s p file broken
none_broken root s (faults.UnknownName p) file other broken = none_unknown_name root s p file broken
none_broken root s (faults.TooMany p) file other broken = none_too_many root s p file broken
none_broken root s (faults.OutOfRange p) file other broken = none_out_of_range root s p file broken
none_broken root s faults.Memory file other broken = other refl

pub returns : goal.returns
returns c = none_broken
