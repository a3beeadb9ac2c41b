-- Boards and steps of forwarders tried on small boards.
use Rattle.std.proofs.Common.{◌≡◌, ◌≢◌, ℕ, ◌<◌, true, false, List, [], ◌∷◌, ◌++◌, length, Some, None, refl, ap, sym, ◌∙◌, subst, arith}
use Rattle.std.proofs.lemmas.Option.{same_Some}
use Rattle.sdl_signal.specs.declared.values.Item.{Item}
use Rattle.sdl_routes.specs.declared.route.Hop.{Hop}
use Rattle.sdl_routes.specs.declared.route.TableRow.{TableRow}
use Rattle.sdl_routes.specs.declared.route.Station.{Station}
use Rattle.sdl_routes.specs.declared.route.Station.TheVariants.{Line, Inlet, Outlet}
use Rattle.sdl_forward.specs.Boards.{waiting, AreStationsInOrder}
use Rattle.sdl_forward.specs.Forwards.{Forwarding, station_behind, next_station, Moves, Holds, Rests}
use Rattle.sdl_forward.proofs.Same.{other_station}
use Rattle.std.proofs.lemmas.Bool.{cond-false}

abbrev forth : ℕ → Hop
forth c = record { channel = record { 0 = c }; back = false }

abbrev inlet : Station
inlet = Inlet record { 0 = 0 }

-- a route by two paths to a block
abbrev way : List Station
way = Line (forth 0) ∷ Line (forth 1) ∷ inlet ∷ []

behind_first : station_behind (Line (forth 0)) way ≡ Some (Line (forth 1))
behind_first = refl

behind_last : station_behind inlet way ≡ None
behind_last = refl

behind_another : station_behind Outlet way ≡ None
behind_another = refl

-- forth stands before back, and a path before an inlet
order : AreStationsInOrder (Line (forth 0) ∷ Line record { channel = record { 0 = 0 }; back = true } ∷ Line (forth 1) ∷ inlet ∷ Outlet ∷ [])
order = ((omega arith, (omega arith, (tt, (tt, tt)))), ((omega arith, (tt, (tt, tt))), ((tt, (tt, tt)), ((tt, tt), (tt, tt)))))

none_twice : AreStationsInOrder (inlet ∷ inlet ∷ []) → ⊥
none_twice o = let lt : 0 < 0 = o.0.0 in omega arith

abbrev board : List Item → List Item → List Item → List (Station × List Item)
board xs ys zs = (Line (forth 0), xs) ∷ (Line (forth 1), ys) ∷ (inlet, zs) ∷ []

abbrev free : Forwarding
free = record { hop = forth 0; held = None }

abbrev with : Item → Forwarding
with item = record { hop = forth 0; held = Some item }

others_same : (xs ys us vs zs : List Item) (s : Station) → s ≢ Line (forth 0) → s ≢ Line (forth 1) → waiting (board us vs zs) s ≡ waiting (board xs ys zs) s
others_same xs ys us vs zs s n m =
    let a = other_station (Line (forth 0)) s (λ e. n (sym e)) in
    let b = other_station (Line (forth 1)) s (λ e. m (sym e)) in
    let rest : List Item = waiting ((inlet, zs) ∷ []) s in
    cond-false _ us (waiting ((Line (forth 1), vs) ∷ (inlet, zs) ∷ []) s) a ∙ cond-false _ vs rest b
    ∙ sym (cond-false _ xs (waiting ((Line (forth 1), ys) ∷ (inlet, zs) ∷ []) s) a ∙ cond-false _ ys rest b)

abbrev number : Station → ℕ
number (Line h) = h.channel.0
number (Inlet b) = 0
number Outlet = 0

not_second : Line (forth 1) ≢ Line (forth 0)
not_second e = let n : 1 ≡ 0 = ap number e in omega (arith, n)

-- the front goes to the next path
row : (rows : List TableRow) (a b : Item) → next_station rows (Line (forth 0)) a ≡ Some (Line (forth 1)) → Moves rows free (board (a ∷ b ∷ []) [] []) free (board (b ∷ []) (a ∷ []) [])
row rows a b next = record {
  item = a;
  to = Line (forth 1);
  first = refl;
  next = next;
  further = not_second;
  back = refl;
  others = others_same (a ∷ b ∷ []) [] (b ∷ []) (a ∷ []) [];
  emptied = refl;
}

-- what is held goes before what waits
held_first : (rows : List TableRow) (a b : Item) → next_station rows (Line (forth 0)) a ≡ Some (Line (forth 1)) → Moves rows (with a) (board (b ∷ []) [] []) free (board (b ∷ []) (a ∷ []) [])
held_first rows a b next = record {
  item = a;
  to = Line (forth 1);
  first = refl;
  next = next;
  further = not_second;
  back = refl;
  others = others_same (b ∷ []) [] (b ∷ []) (a ∷ []) [];
  emptied = refl;
}

abbrev first_or : Item → List Item → Item
first_or d [] = d
first_or d (x ∷ xs) = x

abbrev second_or : Item → List Item → Item
second_or d [] = d
second_or d (x ∷ xs) = first_or d xs

-- none overtakes another
no_overtaking : (rows : List TableRow) (a b : Item) → a ≢ b → Moves rows free (board (a ∷ b ∷ []) [] []) free (board (a ∷ []) (b ∷ []) []) → ⊥
no_overtaking rows a b apart m = apart (sym (ap (second_or a) m.first))

-- none is lost
none_lost : (rows : List TableRow) (a : Item) → next_station rows (Line (forth 0)) a ≡ Some (Line (forth 1)) → Moves rows free (board (a ∷ []) [] []) free (board [] [] []) → ⊥
none_lost rows a next m =
    let same : a ≡ m.item = ap (first_or a) m.first in
    let to : Line (forth 1) ≡ m.to = same_Some (Line (forth 1)) m.to (sym next ∙ ap (next_station rows (Line (forth 0))) same ∙ m.next) in
    let back : [] ≡ m.item ∷ [] = subst (λ (s : Station). waiting (board [] [] []) s ≡ waiting (board (a ∷ []) [] []) s ++ m.item ∷ []) (sym to) m.back in
    let n : 0 ≡ 1 = ap length back in omega (arith, n)

-- and none is put while it stays held
none_doubled : (a : Item) → Holds free (board (a ∷ []) [] []) (with a) (board [] (a ∷ []) []) → ⊥
none_doubled a h = let e : a ∷ [] ≡ [] = h.others.others (Line (forth 1)) not_second in let n : 1 ≡ 0 = ap length e in omega (arith, n)

-- a forwarder rests only where nothing waits
no_rest : (a : Item) (is : Forwarding) (new : List (Station × List Item)) → Rests free (board (a ∷ []) [] []) is new → ⊥
no_rest a is new r = let n : 1 ≡ 0 = ap length r.empty in omega (arith, n)
