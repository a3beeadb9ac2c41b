-- What an offer has room for with a body, it has room for without it.
use Rattle.std.proofs.Common.{◌≡◌, sym, ◌∙◌, ap, subst, ℕ, ◌≤◌, Bool, true, false, if◌then◌else◌, List, [], ◌∷◌, ◌++◌, length, length-append, IsTrue, ◌↔◌, arith}
use Rattle.std.specs.List.{list_any}
use Rattle.sdl_signal.specs.declared.ids.SetId.{SetId}
use Rattle.sdl_transition_behaviour.specs.declared.step.Next.{Next}
use Rattle.sdl_transition_behaviour.specs.declared.step.Next.TheVariants.{State, Stop}
use Rattle.sdl_transition_behaviour.specs.declared.offer.OfferedOutput.{OfferedOutput}
use Rattle.sdl_transition_behaviour.specs.declared.offer.Offer.{Offer}
use Rattle.sdl_listing_body.specs.declared.syntax.Body.{Body, Nothing, Output', Create', Assign', If', End}
use Rattle.sdl_listing_body.specs.Offering.{output_of, same_output, same_set, same_state, with_new, with_output, with_create, with_next, with_body}
use Rattle.sdl_listing_body.specs.Sound.{HasRoom}

length_by : {X : Type 0} (b : Bool) (xs : List X) (x : X) → length xs ≤ length (if b then xs else xs ++ x ∷ [])
length_by true xs x = omega arith
length_by false xs x = omega (arith, length-append xs (x ∷ []))

length_new : {X : Type 0} (same : X → X → Bool) (xs : List X) (x : X) → length xs ≤ length (with_new same xs x)
length_new same xs x = length_by (list_any (λ y. same y x) xs) xs x

-- the second offer has no less in any list
record Grows (o p : Offer) : Type 0 where
  outputs : length o.outputs.items ≤ length p.outputs.items
  creates : length o.creates.items ≤ length p.creates.items
  nexts : length o.nexts.items ≤ length p.nexts.items

grows_along : (o p q : Offer) → Grows o p → Grows p q → Grows o q
grows_along o p q a b = record {
  outputs = omega (arith, a.outputs, b.outputs);
  creates = omega (arith, a.creates, b.creates);
  nexts = omega (arith, a.nexts, b.nexts);
}

grows_itself : (o : Offer) → Grows o o
grows_itself o = record { outputs = omega arith; creates = omega arith; nexts = omega arith }

grows_output : (o : Offer) (x : OfferedOutput) → Grows o (with_output o x)
grows_output o x = record { outputs = length_new same_output o.outputs.items x; creates = omega arith; nexts = omega arith }

grows_create : (o : Offer) (set : SetId) → Grows o (with_create o set)
grows_create o set = record { outputs = omega arith; creates = length_new same_set o.creates.items set; nexts = omega arith }

grows_next : (o : Offer) (next : Next) → Grows o (with_next o next)
grows_next o (State state) = record { outputs = omega arith; creates = omega arith; nexts = length_new same_state o.nexts.items state }
grows_next o Stop = record { outputs = omega arith; creates = omega arith; nexts = omega arith }

grows_body : (b : Body) (o : Offer) → Grows o (with_body b o)
grows_body Nothing o = grows_itself o
grows_body (Output' id params to via _ rest) o =
    let own = with_output o (output_of id params via) in
    grows_along o own (with_body rest own) (grows_output o (output_of id params via)) (grows_body rest own)
grows_body (Create' set _ rest) o =
    let own = with_create o set in
    grows_along o own (with_body rest own) (grows_create o set) (grows_body rest own)
grows_body (Assign' k e _ rest) o = grows_body rest o
grows_body (If' c _ on_true _ on_false _ rest) o =
    let first = with_body on_true o in
    let second = with_body on_false first in
    grows_along o first (with_body rest second) (grows_body on_true o) (grows_along first second (with_body rest second) (grows_body on_false first) (grows_body rest second))
grows_body (End next) o = grows_next o next

pub room_before : (b : Body) (o : Offer) → HasRoom (with_body b o) → HasRoom o
room_before b o h =
    let g : Grows o (with_body b o) = grows_body b o in
    record {
      outputs = omega (arith, g.outputs, h.outputs);
      creates = omega (arith, g.creates, h.creates);
      nexts = omega (arith, g.nexts, h.nexts);
    }

-- where a test says that there is no room, there is none with more
pub no_output : (r : Bool) (b : Body) (o : Offer) (x y : OfferedOutput) → y ≡ x → (IsTrue r ↔ (length (with_new same_output o.outputs.items y) ≤ 16)) → r ≡ false
    → (IsTrue r ↔ HasRoom (with_body b (with_output o x)))
no_output r b o x y e both refused =
    let few : HasRoom (with_body b (with_output o x)) → length (with_new same_output o.outputs.items x) ≤ 16 = λ h. (room_before b (with_output o x) h).outputs in (
      λ t. absurd (let bad : ⊥ = cc in bad),
      λ h. both.1 (subst (λ (z : OfferedOutput). length (with_new same_output o.outputs.items z) ≤ 16) (sym e) (few h)),
    )

pub no_create : (r : Bool) (b : Body) (o : Offer) (set : SetId) → (IsTrue r ↔ (length (with_new same_set o.creates.items set) ≤ 8)) → r ≡ false
    → (IsTrue r ↔ HasRoom (with_body b (with_create o set)))
no_create r b o set both refused = (λ t. absurd (let bad : ⊥ = cc in bad), λ h. both.1 (room_before b (with_create o set) h).creates)

-- where the first side of a decision has no room, and where the second has none behind it
pub no_first : (v r : Bool) (side first second rest : Body) (o : Offer) → side ≡ first → (IsTrue r ↔ HasRoom (with_body side o)) → r ≡ false → v ≡ false
    → (IsTrue v ↔ HasRoom (with_body rest (with_body second (with_body first o))))
no_first v r side first second rest o e both refused none =
    let back : HasRoom (with_body rest (with_body second (with_body first o))) → HasRoom (with_body first o) =
    λ h. room_before second (with_body first o) (room_before rest (with_body second (with_body first o)) h) in
    let never : HasRoom (with_body first o) → r ≡ true = λ h. both.1 (subst (λ (b : Body). HasRoom (with_body b o)) (sym e) h) in
    (λ t. absurd (let bad : ⊥ = cc in bad), λ h. (let said : r ≡ true = never (back h) in cc))

pub no_second : (v r s : Bool) (side other first second rest : Body) (o mid : Offer) → side ≡ first → other ≡ second → (IsTrue r → mid ≡ with_body side o) → r ≡ true
    → (IsTrue s ↔ HasRoom (with_body other mid)) → v ≡ s → v ≡ false → (IsTrue v ↔ HasRoom (with_body rest (with_body second (with_body first o))))
no_second v r s side other first second rest o mid e f added t both same none =
    let m : mid ≡ with_body first o = added t ∙ ap (λ (b : Body). with_body b o) e in
    let back : HasRoom (with_body rest (with_body second (with_body first o))) → HasRoom (with_body second (with_body first o)) =
    λ h. room_before rest (with_body second (with_body first o)) h in
    let never : HasRoom (with_body second (with_body first o)) → s ≡ true =
    λ h. both.1 (subst (λ (x : Offer). HasRoom (with_body other x)) (sym m) (subst (λ (b : Body). HasRoom (with_body b (with_body first o))) (sym f) h)) in
    (λ k. absurd (let bad : ⊥ = cc in bad), λ h. (let said : s ≡ true = never (back h) in cc))
