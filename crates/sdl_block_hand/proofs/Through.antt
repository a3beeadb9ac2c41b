-- What goes through a worker in its steps.
use Rattle.std.proofs.Common.{◌≡◌, List, [], ◌∷◌, ◌++◌, All, refl, ap, sym, ◌∙◌, append_assoc}
use Rattle.std.specs.List.{flat_map}
use Rattle.std.proofs.lemmas.List.Concat.{flat_map-append}
use Rattle.std.proofs.lemmas.List.Elements.{All-tail}
use Rattle.sdl_instances_log.specs.declared.event.Event.{Event}
use Rattle.sdl_instances.specs.Run.{arrived, arrived_in, done_in, sent, sent_by, all_done}

pub sent-append : (xs ys : List Event) → sent (xs ++ ys) ≡ sent xs ++ sent ys
sent-append xs ys = ap (flat_map sent_by) (flat_map-append done_in xs ys) ∙ flat_map-append sent_by (all_done xs) (all_done ys)

pub arrived-append : (xs ys : List Event) → arrived (xs ++ ys) ≡ arrived xs ++ arrived ys
arrived-append xs ys = flat_map-append arrived_in xs ys

pub nil_left : {X : Type 0} (xs ys : List X) → xs ++ ys ≡ [] → xs ≡ []
nil_left [] ys e = refl
nil_left (x ∷ xs) ys e = cc

-- what holds of all holds of those behind
pub all_behind : {X : Type 0} (P : X → Type 0) (xs ys : List X) → All P (xs ++ ys) → All P ys
all_behind P [] ys h = h
all_behind P (x ∷ xs) ys h = all_behind P xs ys (All-tail P x (xs ++ ys) h)

-- two parts of what goes through, one behind the other: what was, with what came in, is what went out, with what is
pub through : {X : Type 0} (was in1 out1 mid in2 out2 is : List X) → was ++ in1 ≡ out1 ++ mid → mid ++ in2 ≡ out2 ++ is → was ++ (in1 ++ in2) ≡ (out1 ++ out2) ++ is
through was in1 out1 mid in2 out2 is h k =
    sym (append_assoc was in1 in2) ∙ ap (λ l. l ++ in2) h ∙ append_assoc out1 mid in2 ∙ ap (λ l. out1 ++ l) k ∙ sym (append_assoc out1 out2 is)
