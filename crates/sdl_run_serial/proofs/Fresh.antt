-- The driver whose workers are all new is at work.
use Rattle.std.proofs.Common.{ℕ, zero, suc, ◌+◌, ◌<◌, List, [], ◌∷◌, ◌++◌, length, map, get_or, slice_get, unwrap_or, Option, None, Some, All, ◌≡◌, refl, ap, sym, ◌∙◌, subst, arith}
use Rattle.std.proofs.lemmas.List.{length-map, length-append}
use Rattle.std.proofs.lemmas.Option.{none-some, same_Some}
use Rattle.std.specs.List.{AllByRecursion}
use Rattle.sdl_structure_parts.specs.Structure.{Structure}
use Rattle.sdl_routes.specs.declared.route.Hop.{Hop}
use Rattle.sdl_routes.specs.declared.route.TableRow.{TableRow}
use Rattle.sdl_transition_behaviour.specs.declared.step.Frame.{Frame}
use Rattle.sdl_transition_behaviour.specs.declared.step.Step.{Step}
use Rattle.sdl_transition.specs.declared.block_parts.BlockParts.{BlockParts}
use Rattle.sdl_transition.specs.declared.binding.Bound.{Bound}
use Rattle.sdl_transition.specs.Bound.{AreOneSystem}
use Rattle.sdl_transition.specs.Index.{IsIndexed}
use Rattle.sdl_transition_behaviour.specs.Transitions.{IsAllowedBehaviour}
use Rattle.sdl_transition.specs.Rules.{Rules, block_rules}
use Rattle.sdl_instances.specs.Core.{IsSound}
use Rattle.sdl_instances.specs.CoreOf.{CanFire}
use Rattle.sdl_forward.specs.Forwards.{Forwarding}
use Rattle.sdl_block.specs.declared.worker.BlockWorker.{BlockWorker}
use Rattle.sdl_block_hand.specs.Work.{Working}
use Rattle.sdl_block.specs.Workers.{worker_of, behaviours_of, system_around}
use Rattle.sdl_run_driver.specs.declared.driver.Driver.{Driver}
use Rattle.sdl_run_driver.specs.declared.system.System.{System}
use Rattle.sdl_run_outcome.specs.declared.end.RunEnd.{RunEnd}
use Rattle.sdl_run_driver.specs.declared.closing.Room.{Room}
use Rattle.sdl_run_driver.specs.Closings.{HasRoom, HasReadIn, HasWrittenIn, IsSameBound}
use Rattle.sdl_run_driver.specs.declared.closing.Closing.{Closing}
use Rattle.sdl_run_outcome.specs.EnvironmentWork.{EnvWorking, HasReadSoFar, HasWrittenSoFar, IsEnvFresh}
use Rattle.sdl_run_outcome.specs.Outcome.{Outcome}
use Rattle.sdl_run_ledger.specs.declared.ledger.Ledger.{Ledger}
use Rattle.sdl_run_driver.specs.Ended.{HasEnded}
use Rattle.sdl_run_outcome.specs.Plan.{Plan, blocks_in, delaying_from, system_at}
use Rattle.sdl_run_order.specs.Driver.{Site, IsCoreAt, IsFresh}
use Rattle.sdl_run_driver.specs.Drivers.{IsBetweenSteps, ReadsOver, WritesOver}
use Rattle.sdl_run_driver.specs.Systems.{plan_of, plan_of_parts, IsBoundOf, IsOneSystem, IsSameSystem, IsSystemOf}
use Rattle.sdl_run_serial.specs.Starting.{idle_at}
use Rattle.sdl_run_serial.specs.declared.start.StartRoom.{StartRoom}
use Rattle.sdl_run_serial.specs.Serial.{IsNew, IsStartRoom, HasStarted, IsStartOf}
use Rattle.sdl_run_outcome.proofs.Lists.{all_at}
use Rattle.sdl_run_order.proofs.Between.{starts_in_order}
use Rattle.sdl_run_driver.proofs.Drives.{map_map, same_plan}
use Rattle.sdl_run_driver.proofs.Driving.{system_is}
use Rattle.sdl_run_driver.proofs.Readings.{reads_none, writes_none}
use Rattle.sdl_run_driver.proofs.Rooms.{room_as}
use Rattle.sdl_run_order.proofs.Starts.{block}

got : {X Y : Type 0} (f : X → Y) (xs : List X) (n : ℕ) (y : Y) → slice_get (map f xs) n ≡ Some y → (x : X) × (slice_get xs n ≡ Some x) × (f x ≡ y)
got f [] n y e = absurd (none-some y e)
got f (x ∷ xs) zero y e = (x, refl, same_Some (f x) y e)
got f (x ∷ xs) (suc n) y e = got f xs n y e

place_read : {X Y : Type 0} (f : X → Y) (xs : List X) (n : ℕ) (x : X) → slice_get xs n ≡ Some x → get_or (map f xs) n (f x) ≡ f x
place_read f [] n x e = absurd (none-some x e)
place_read f (y ∷ ys) zero x e = ap f (same_Some y x e)
place_read f (y ∷ ys) (suc n) x e = place_read f ys n x e

place_get : {X Y : Type 0} (f : X → Y) (xs : List X) (n : ℕ) (x : X) → slice_get xs n ≡ Some x → slice_get (map f xs) n ≡ Some (f x)
place_get f [] n x e = absurd (none-some x e)
place_get f (y ∷ ys) zero x e = ap (λ z. Some (f z)) (same_Some y x e)
place_get f (y ∷ ys) (suc n) x e = place_get f ys n x e

place_within : {X Y : Type 0} (f : X → Y) (xs : List X) (n : ℕ) (x : X) → slice_get xs n ≡ Some x → n < length (map f xs)
place_within f [] n x e = absurd (none-some x e)
place_within f (y ∷ ys) zero x e = omega arith
place_within f (y ∷ ys) (suc n) x e = let a = place_within f ys n x e in omega (arith, a)

read_map : {X Y : Type 0} (f : X → Y) (xs : List X) (n : ℕ) (x : X) → get_or (map f xs) n (f x) ≡ f (get_or xs n x)
read_map f [] n x = refl
read_map f (y ∷ ys) zero x = refl
read_map f (y ∷ ys) (suc n) x = read_map f ys n x

all_of_map : {X Y : Type 0} (P : Y → Type 0) (f : X → Y) (xs : List X) → All P (map f xs) → All (λ x. P (f x)) xs
all_of_map P f xs h = λ n x less. subst P (read_map f xs n x) (h n (f x) (let a = length-map xs f in omega (arith, a, less)))

pub all_same : {X : Type 0} (P : X → Type 0) (xs ys : List X) → xs ≡ ys → All P xs → All P ys
all_same P xs ys e h = subst (All P) e h

pub env_fresh : (n m : ℕ) (w : EnvWorking) → n ≡ m → IsEnvFresh n w → IsEnvFresh m w
env_fresh n m w e h = subst (λ (k : ℕ). IsEnvFresh k w) e h

pub hops_of : (hs : List Hop) → map (λ (f : Forwarding). f.hop) (map idle_at hs) ≡ hs
hops_of [] = refl
hops_of (h ∷ hs) = ap (λ zs. h ∷ zs) (hops_of hs)

pub none_held : (hs : List Hop) → AllByRecursion (λ (f : Forwarding). f.held ≡ None) (map idle_at hs)
none_held [] = tt
none_held (h ∷ hs) = (refl, none_held hs)

pub parts_count : {X Y : Type 0} (f : X → Y) (done : List X) (y : Y) (rest all : List Y) → map f done ++ y ∷ rest ≡ all → length all ≡ length done + (length rest + 1)
parts_count f done y rest all e =
    let a = length-append (map f done) (y ∷ rest) in
    let b = length-map done f in
    let d = ap length e in
    omega (arith, a, b, d)

unfoldable plan_by : Structure → List TableRow → List (List Rules) → ℕ → Plan
plan_by s routes rules budget = record { structure = s; routes = routes; rules = rules; budget = budget }

-- where a system starts
abbrev pub site_at : {S K I : Type 0} {F : I → Type 0} {g : _} → System (BlockWorker S K I F g) → StartRoom S K I F g → Site
site_at x r = record { blocks = map worker_of x.blocks.items; environment = r.environment; forwarders = r.forwarders.items; board = r.board }

-- the transitions of blocks that were bound can fire
pub can_fire : {S K I : Type 0} {F : I → Type 0} {g : _} (may : ℕ → Frame → Step → Type 0) (ws : List (BlockWorker S K I F g)) (ps : List (BlockParts S I F g)) → ps ≡ map behaviours_of ws
    → All (λ p. All (IsAllowedBehaviour may) p.behaviours.items) ps → All (λ p. IsIndexed p) ps → All (λ w. CanFire may (behaviours_of w)) ws
can_fire may ws ps e allowed indexed =
    let a = all_of_map (λ p. All (IsAllowedBehaviour may) p.behaviours.items) behaviours_of ws (all_same (λ p. All (IsAllowedBehaviour may) p.behaviours.items) ps (map behaviours_of ws) e allowed) in
    let i = all_of_map (λ p. IsIndexed p) behaviours_of ws (all_same (λ p. IsIndexed p) ps (map behaviours_of ws) e indexed) in
    λ n w less. record { allowed = a n w less; indexed = i n w less }

module _ {S K I : Type 0} {F : I → Type 0} {g : _} (may : ℕ → Frame → Step → Type 0) (x : System (BlockWorker S K I F g)) (started : HasStarted may x) where
  core_new : (n : ℕ) (w : BlockWorker S K I F g) → slice_get x.blocks.items n ≡ Some w → IsNew may x.checked x.budget w → IsCoreAt may (plan_of x) n (worker_of w).core
  unfolding block
  core_new n w found is =
      let here : get_or (map behaviours_of x.blocks.items) n (behaviours_of w) ≡ behaviours_of w = place_read behaviours_of x.blocks.items n w found in
      let own = started.system.distributed.each n (behaviours_of w) (place_within behaviours_of x.blocks.items n w found) in
      let numbered : (behaviours_of w).block.0 ≡ n = subst (λ (p : BlockParts S I F g). p.block.0 ≡ n) here own.block in
      let rules : unwrap_or (slice_get (map (λ v. block_rules (behaviours_of v)) x.blocks.items) n) [] ≡ block_rules (behaviours_of w) =
      ap (λ (o : Option (List Rules)). unwrap_or o []) (place_get (λ v. block_rules (behaviours_of v)) x.blocks.items n w found) in
      let same = system_is (system_at (plan_of x) n) (system_around w x.routes) (sym (ap (λ (k : Working). k.core.signals) is.worker)) (sym (ap (λ (k : Working). k.core.sets) is.worker)) refl rules in
      record {
        block = ap (λ (k : Working). k.core.block) is.worker ∙ ap (λ (k : ℕ). block k) numbered;
        signals = ap (λ (k : Working). k.core.signals) is.worker;
        sets = ap (λ (k : Working). k.core.sets) is.worker;
        budget = ap (λ (k : Working). k.core.budget) is.worker;
        sound = subst (λ s. IsSound may s (worker_of w).core) (sym same) (is.sound x.routes);
      }

  pub cores_new : (n : ℕ) (v : Working) → slice_get (map worker_of x.blocks.items) n ≡ Some v → IsCoreAt may (plan_of x) n v.core × (v.core.log ≡ []) × (v.kept ≡ None) × (v.outgoing ≡ [])
  cores_new n v at =
      let (w, found, is) = got worker_of x.blocks.items n v at in
      let fresh = all_at (IsNew may x.checked x.budget) x.blocks.items n w started.new found in
      subst (λ (k : Working). IsCoreAt may (plan_of x) n k.core × (k.core.log ≡ []) × (k.kept ≡ None) × (k.outgoing ≡ [])) is
      (core_new n w found fresh, ap (λ (k : Working). k.core.log) fresh.worker, ap (λ (k : Working). k.kept) fresh.worker, ap (λ (k : Working). k.outgoing) fresh.worker)

  pub started_count : length x.blocks.items ≡ length x.checked.blocks
  started_count = sym (length-map x.blocks.items behaviours_of) ∙ started.system.distributed.blocks_are

  -- with what was taken for its start
  module _ (r : StartRoom S K I F g) (room : IsStartRoom x.checked x.routes (length x.blocks.items) r) where
    pub fresh : IsFresh may (plan_of x) (site_at x r)
    fresh =
        record {
          blocks = length-map x.blocks.items worker_of ∙ started_count;
          cores = cores_new;
          environment = env_fresh (length x.blocks.items) (length x.checked.blocks) r.environment started_count room.environment;
          forwarders = ap (map (λ (f : Forwarding). f.hop)) room.forwarders ∙ hops_of (delaying_from 0 x.checked.channels);
          held = subst (AllByRecursion (λ (f : Forwarding). f.held ≡ None)) (sym room.forwarders) (none_held (delaying_from 0 x.checked.channels));
          board = room.board;
          empty = room.empty;
        }

    pub driving : IsBetweenSteps may (plan_of x) (site_at x r) x.blocks.items
    driving =
        record {
          plan = record { structure = started.structure; routes = started.system.routes_are; table = started.table };
          work = starts_in_order may (plan_of x) (site_at x r) fresh;
          fire = started.fire;
        }

module _ {S K I : Type 0} {F : I → Type 0} {g : _} (x : System (BlockParts S I F g)) (y : System (BlockWorker S K I F g)) (start : IsStartOf x y) where
  -- the plan of a system that has started is that of its parts
  pub start_plan : plan_of y ≡ plan_of_parts x
  unfolding plan_by
  start_plan =
      let rules : map (λ w. block_rules (behaviours_of w)) y.blocks.items ≡ map block_rules x.blocks.items = sym (map_map block_rules behaviours_of y.blocks.items) ∙ ap (map block_rules) start.behaviours in
      ap (λ (s : Structure). plan_by s y.routes (plan_of y).rules y.budget) start.checked
      ∙ (ap (λ (rows : List TableRow). plan_by x.checked rows (plan_of y).rules y.budget) start.routes
      ∙ (ap (λ (rs : List (List Rules)). plan_by x.checked x.routes rs y.budget) rules ∙ ap (λ (n : ℕ). plan_by x.checked x.routes (plan_of_parts x).rules n) start.budget))

  pub start_count : length x.blocks.items ≡ length y.blocks.items
  start_count = ap length (sym start.behaviours) ∙ length-map y.blocks.items behaviours_of

  pub start_bound : (b : Bound S I F g) → IsSystemOf y b → IsBoundOf x b
  start_bound b (s, r, bs) = (s ∙ start.checked, r ∙ start.routes, bs ∙ start.behaviours)

  -- and so is all that the run needs beside its blocks
  pub room_at : (r : StartRoom S K I F g) → IsStartRoom x.checked x.routes (length x.blocks.items) r → IsStartRoom y.checked y.routes (length y.blocks.items) r
  room_at r h =
      subst (λ (n : ℕ). IsStartRoom y.checked y.routes n r) start_count
      (subst (λ (rows : List TableRow). IsStartRoom y.checked rows (length x.blocks.items) r) (sym start.routes)
      (subst (λ (s : Structure). IsStartRoom s x.routes (length x.blocks.items) r) (sym start.checked) h))

-- a system that was bound is the bound system
pub same_bound : {S I : Type 0} {F : I → Type 0} {g : _} (x : System (BlockParts S I F g)) (old new : Bound S I F g) → IsBoundOf x old → IsBoundOf x new → IsSameBound old new
same_bound x old new (s, r, bs) (t, q, cs) = (t ∙ sym s, q ∙ sym r, cs ∙ sym bs)

module _ {S K I : Type 0} {F : I → Type 0} {g : _} (may : ℕ → Frame → Step → Type 0) (old new : System (BlockWorker S K I F g)) (same : IsSameSystem old new) where
  -- what a run keeps of a system
  pub system_same : IsOneSystem may old → IsOneSystem may new
  system_same h =
      subst (λ (s : Structure). AreOneSystem may s new.routes (map behaviours_of new.blocks.items)) (sym same.checked)
      (subst (λ (r : List TableRow). AreOneSystem may old.checked r (map behaviours_of new.blocks.items)) (sym same.routes)
      (subst (λ (ps : List (BlockParts S I F g)). AreOneSystem may old.checked old.routes ps) (sym same.behaviours) h))

  pub ended_same : (o : Outcome) (end : RunEnd) (l : Ledger) → HasEnded may (plan_of new) o end l → HasEnded may (plan_of old) o end l
  ended_same o end l h = subst (λ (p : Plan). HasEnded may p o end l) (same_plan old new same) h

  pub bound_same : (b : Bound S I F g) → IsSystemOf new b → IsSystemOf old b
  bound_same b (s, r, bs) = (s ∙ same.checked, r ∙ same.routes, bs ∙ same.behaviours)

  -- the lists of a closing have room for so many blocks and lines
  pub room_same : (r : Room S K I F g) (before after : List Forwarding) → map (λ (f : Forwarding). f.hop) before ≡ delaying_from 0 old.checked.channels → map (λ (f : Forwarding). f.hop) after ≡ delaying_from 0 new.checked.channels
      → HasRoom (length old.blocks.items) (length old.blocks.items + (length before + 1)) r → HasRoom (length new.blocks.items) (length new.blocks.items + (length after + 1)) r
  room_same r before after was is h =
      let blocks : length old.blocks.items ≡ length new.blocks.items = sym (length-map old.blocks.items behaviours_of) ∙ (ap length (sym same.behaviours) ∙ length-map new.blocks.items behaviours_of) in
      let lines : length before ≡ length after =
      sym (length-map before (λ (f : Forwarding). f.hop))
      ∙ (ap length was ∙ (ap (λ (s : Structure). length (delaying_from 0 s.channels)) (sym same.checked) ∙ (sym (ap length is) ∙ length-map after (λ (f : Forwarding). f.hop)))) in
      room_as r (length old.blocks.items) (length old.blocks.items + (length before + 1)) (length new.blocks.items) (length new.blocks.items + (length after + 1)) blocks (omega (arith, blocks, lines)) h

module _ {S K I : Type 0} {F : I → Type 0} {g : _} where
  -- lists that are empty are so under another name
  pub empty_as : (r taken : Room S K I F g) → r ≡ taken → (taken.parts.items ≡ []) × (taken.logs.items ≡ []) × (taken.hands.items ≡ []) → (r.parts.items ≡ []) × (r.logs.items ≡ []) × (r.hands.items ≡ [])
  empty_as r taken e h = subst (λ (v : Room S K I F g). (v.parts.items ≡ []) × (v.logs.items ≡ []) × (v.hands.items ≡ [])) (sym e) h

-- a driver that has read nothing reads, in a run, all that its closing shows
module _ {S K I : Type 0} {F : I → Type 0} {g : _} (old new : Driver S K I F g) (same : IsSameSystem old.system new.system) (fresh : IsEnvFresh (blocks_in (plan_of old.system)) old.environment) (c : Closing S K I F g) (x y : Option (List ℕ)) where
  pub reading_same : ReadsOver (plan_of old.system) old.environment x new.environment y
      → ((start now : Option (List ℕ)) → HasReadSoFar new.system.checked new.system.routes (blocks_in (plan_of new.system)) start now new.environment → HasReadIn (plan_of new.system) start now c) → HasReadIn (plan_of old.system) x y c
  reading_same over ends =
      subst (λ (p : Plan). HasReadIn p x y c) (same_plan old.system new.system same)
      (ends x y (subst (λ (p : Plan). HasReadSoFar p.structure p.routes (blocks_in p) x y new.environment) (sym (same_plan old.system new.system same)) (over x (reads_none old.system.checked old.system.routes (blocks_in (plan_of old.system)) old.environment fresh x))))

  pub writing_same : WritesOver (plan_of old.system) old.environment x new.environment y
      → ((start now : Option (List ℕ)) → HasWrittenSoFar new.system.checked new.system.routes (blocks_in (plan_of new.system)) start now new.environment → HasWrittenIn (plan_of new.system) start now c) → HasWrittenIn (plan_of old.system) x y c
  writing_same over ends =
      subst (λ (p : Plan). HasWrittenIn p x y c) (same_plan old.system new.system same)
      (ends x y (subst (λ (p : Plan). HasWrittenSoFar p.structure p.routes (blocks_in p) x y new.environment) (sym (same_plan old.system new.system same)) (over x (writes_none old.system.checked old.system.routes (blocks_in (plan_of old.system)) old.environment fresh x))))
