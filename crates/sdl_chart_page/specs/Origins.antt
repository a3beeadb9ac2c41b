-- A value for each output, by the worker that made it and how many that worker had made before. (This project's own.)
use Rattle.std.specs.Prelude.{◌≡◌, ◌⊎◌, ℕ, List, [], Option, None, Some, option_and_then, slice_get, slice_set, slice_index_or}
use Rattle.sdl_signal.specs.declared.values.Origin.{Origin}

-- the value of an output, where there is such an output
abbrev pub value_at : {T : Type 0} → List (List T) → Origin → Option T
value_at lists o = option_and_then (λ values. slice_get values o.number) (slice_get lists o.worker)

-- the same values, with another one for one output, where there is such an output
abbrev pub with_value : {T : Type 0} → List (List T) → Origin → T → List (List T)
with_value lists o value = slice_set lists o.worker (slice_set (slice_index_or lists o.worker []) o.number value)

-- each value stays, and what is added is this value
abbrev pub IsLonger : {T : Type 0} → T → List T → List T → Type 0
IsLonger value old new = (n : ℕ) → (slice_get new n ≡ slice_get old n) ⊎ ((slice_get old n ≡ None) × (slice_get new n ≡ Some value))

abbrev pub GrowsBy : {T : Type 0} → T → List (List T) → List (List T) → Type 0
GrowsBy value old new = (o : Origin) → (value_at new o ≡ value_at old o) ⊎ ((value_at old o ≡ None) × (value_at new o ≡ Some value))
