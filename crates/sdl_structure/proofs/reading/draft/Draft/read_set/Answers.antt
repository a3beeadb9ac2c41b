use Rattle.std.proofs.Common.{pos, ◌≤ℤ◌, ap, refl, arith}
use Rattle.std.proofs.lemmas.Int.{ints}
use Rattle.sdl_structure_tables.specs.declared.place.Key.TheVariants as key
use Rattle.sdl_structure_tables.specs.Keys.{is_key, least_of, greatest_of}
use Rattle.sdl_structure.proofs.reading.draft.Draft.read_set.Goals as goal

-- the numbers that stand for absent keys are in their ranges
initial_low : least_of key.Initial ≤ℤ pos 1
initial_low = omega (arith, ints)

initial_high : pos 1 ≤ℤ greatest_of key.Initial
initial_high = omega (arith, ints)

maximum_low : least_of key.Maximum ≤ℤ pos 1024
maximum_low = omega (arith, ints)

maximum_high : pos 1024 ≤ℤ greatest_of key.Maximum
maximum_high = omega (arith, ints)

pub new_name-requires : goal.new_name-requires
new_name-requires c = record { here = c.requires.here; listed = ap (λ q. is_key c.args.walk.now.version q key.Name) c.requires.part; before = c.requires.before }

pub integer_or-requires : goal.integer_or-requires
integer_or-requires c = record { here = c.requires.here; listed = ap (λ q. is_key c.args.walk.now.version q key.Initial) c.requires.part; kind = refl; free = refl; low = initial_low; high = initial_high }

pub integer_or-requires-2 : goal.integer_or-requires-2
integer_or-requires-2 c = record { here = c.requires.here; listed = ap (λ q. is_key c.args.walk.now.version q key.Maximum) c.requires.part; kind = refl; free = refl; low = maximum_low; high = maximum_high }

pub read_gates-requires : goal.read_gates-requires
read_gates-requires c = record {
  here = c.requires.here;
  listed = ap (λ q. is_key c.args.walk.now.version q key.Gate) c.requires.part;
  signals = rw c.as_slice.ensures.value c.requires.signals.named;
  few = rw c.as_slice.ensures.value c.requires.signals.few;
}
