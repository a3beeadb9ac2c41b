-- Workers of two kinds.
use Rattle.sdl_routes.specs.declared.route.Station.{Station}
use Rattle.sdl_run_threads.specs.declared.kinds.Kind.{Kind}
use Rattle.sdl_run_threads.specs.declared.kinds.Kind.TheVariants.{Block, Forwarder}

abbrev pub KeepsOneOf : {B F : Type 0} → (B → Type 0) → (F → Type 0) → Kind B F → Type 0
KeepsOneOf block forwarder (Block u) = block u
KeepsOneOf block forwarder (Forwarder u) = forwarder u

abbrev pub station_of_one : {B F : Type 0} → (B → Station) → (F → Station) → Kind B F → Station
station_of_one block forwarder (Block u) = block u
station_of_one block forwarder (Forwarder u) = forwarder u

abbrev pub SameOneOf : {B F : Type 0} → (B → B → Type 0) → (F → F → Type 0) → Kind B F → Kind B F → Type 0
SameOneOf block forwarder (Block u) (Block v) = block u v
SameOneOf block forwarder (Forwarder u) (Forwarder v) = forwarder u v
SameOneOf block forwarder (Block u) (Forwarder v) = ⊥
SameOneOf block forwarder (Forwarder u) (Block v) = ⊥

pub SameOneOf-refl : {B F : Type 0} (b : B → B → Type 0) (f : F → F → Type 0) → ((u : B) → b u u) → ((u : F) → f u u) → (w : Kind B F) → SameOneOf b f w w
SameOneOf-refl b f p q (Block u) = p u
SameOneOf-refl b f p q (Forwarder u) = q u

pub SameOneOf-trans : {B F : Type 0} (b : B → B → Type 0) (f : F → F → Type 0) → ((u v w : B) → b u v → b v w → b u w) → ((u v w : F) → f u v → f v w → f u w)
    → (u v w : Kind B F) → SameOneOf b f u v → SameOneOf b f v w → SameOneOf b f u w
SameOneOf-trans b f p q (Block u) (Block v) (Block w) h k = p u v w h k
SameOneOf-trans b f p q (Forwarder u) (Forwarder v) (Forwarder w) h k = q u v w h k
SameOneOf-trans b f p q (Block u) (Forwarder v) w h k = absurd h
SameOneOf-trans b f p q (Forwarder u) (Block v) w h k = absurd h
SameOneOf-trans b f p q (Block u) (Block v) (Forwarder w) h k = absurd k
SameOneOf-trans b f p q (Forwarder u) (Forwarder v) (Block w) h k = absurd k
