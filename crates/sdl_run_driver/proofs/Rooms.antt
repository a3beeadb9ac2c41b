-- Lists that are filled from the front of others, within their room.
use Rattle.std.proofs.Common.{ℕ, ◌+◌, List, [], ◌∷◌, ◌++◌, length, map, Option, ◌≡◌, refl, ap, sym, ◌∙◌, subst, arith, append_assoc}
use Rattle.std.proofs.lemmas.List.{append-nil}
use Rattle.std.specs.List.{AllZip}
use Rattle.sdl_signal.specs.declared.values.Item.{Item}
use Rattle.sdl_forward.specs.Forwards.{Forwarding}
use Rattle.sdl_run_driver.specs.declared.closing.Room.{Room}
use Rattle.sdl_run_driver.specs.Closings.{HasRoom}
use Rattle.sdl_run_outcome.specs.Outcome.{WorkerHand}
use Rattle.sdl_run_order.specs.Driver.{forwarder_hand}

-- one more has come over
pub come_over : {X Y : Type 0} (f : X → Y) (done later all : List Y) (x : X) (rest fewer : List X) → rest ≡ x ∷ fewer → later ≡ done ++ f x ∷ [] → done ++ map f rest ≡ all → later ++ map f fewer ≡ all
come_over f done later all x rest fewer e h before =
    let a = ap (λ zs. done ++ map f zs) e in
    let b = append_assoc done (f x ∷ []) (map f fewer) in
    cc

-- all have come over
pub all_over : {X Y : Type 0} (f : X → Y) (done all : List Y) (rest : List X) → length rest ≡ 0 → done ++ map f rest ≡ all → done ≡ all
all_over f done all [] e h = sym (append-nil done) ∙ h
all_over f done all (x ∷ xs) e h = absurd (omega (arith, e))

pub map_push : {X Y : Type 0} (f : X → Y) (xs : List X) (x : X) → map f (xs ++ x ∷ []) ≡ map f xs ++ f x ∷ []
map_push f [] x = refl
map_push f (y ∷ ys) x = ap (λ zs. f y ∷ zs) (map_push f ys x)

-- one more in each of two lists side by side
pub zip_push : {A B : Type 0} (R : A → B → Type 0) (xs : List A) (ys : List B) (x : A) (y : B) → AllZip R xs ys → R x y → AllZip R (xs ++ x ∷ []) (ys ++ y ∷ [])
zip_push R [] [] x y h r = (r, tt)
zip_push R [] (b ∷ ys) x y h r = absurd h
zip_push R (a ∷ xs) [] x y h r = absurd h
zip_push R (a ∷ xs) (b ∷ ys) x y h r = (h.0, zip_push R xs ys x y h.1 r)

pub fewer_by_one : {X : Type 0} (x : X) (rest fewer : List X) → rest ≡ x ∷ fewer → length rest ≡ length fewer + 1
fewer_by_one x rest fewer e = let a = ap length e in omega arith

module _ {S K I : Type 0} {F : I → Type 0} {g : _} where
  pub room_as : (r : Room S K I F g) (a b c d : ℕ) → a ≡ c → b ≡ d → HasRoom a b r → HasRoom c d r
  room_as r a b c d e f h = subst (λ (n : ℕ). HasRoom c n r) f (subst (λ (n : ℕ). HasRoom n b r) e h)

unfoldable pub hand : Option Item → List Item → WorkerHand
hand kept outgoing = record { kept = kept; outgoing = outgoing }

pub hand_is : (kept held : Option Item) (outgoing items : List Item) → kept ≡ held → outgoing ≡ items → hand kept outgoing ≡ hand held items
hand_is kept held outgoing items e f = ap (λ (o : Option Item). hand o outgoing) e ∙ ap (λ (xs : List Item). hand held xs) f

-- a hand that holds what a forwarder held
pub forwarder_left : (f : Forwarding) (kept : Option Item) (outgoing : List Item) → kept ≡ f.held → outgoing ≡ [] → ◌≡◌ {A = WorkerHand} (record { kept = kept; outgoing = outgoing }) (forwarder_hand f)
unfolding hand
forwarder_left f kept outgoing e h = hand_is kept f.held outgoing [] e h
