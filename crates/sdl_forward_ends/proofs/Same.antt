-- Stations that test as the same are the same.
use Rattle.std.proofs.Common.{ℕ, Bool, true, false, ◌≡◌, ◌≢◌, ◌⊎◌, inl, inr, refl, ap, subst, ◌∙◌, eqb}
use Rattle.std.proofs.lemmas.Bool.{eqb-true, eq-eqb, and_parts, and_from, false≢true, cases_Bool, both_ways}
use Rattle.std.specs.Bool.{beq}
use Rattle.std.specs.Cmp.{booleans_Decides}
use Rattle.sdl_signal.specs.declared.ids.BlockId.{BlockId}
use Rattle.sdl_routes.specs.declared.route.Hop.{Hop}
use Rattle.sdl_routes.specs.declared.route.Station.{Station}
use Rattle.sdl_routes.specs.declared.route.Station.TheVariants.{Line, Inlet, Outlet}
use Rattle.sdl_forward_ends.specs.Stations.{same_hop, same_station}

block : ℕ → BlockId
block n = record { 0 = n }

hop : ℕ → Bool → Hop
hop c b = record { channel = record { 0 = c }; back = b }

pub same_hop_is : (h k : Hop) → same_hop h k ≡ true → h ≡ k
unfolding hop
same_hop_is h k e =
    let p = and_parts (eqb h.channel.0 k.channel.0) (beq h.back k.back) e in
    ap (λ (c : ℕ). hop c h.back) (eqb-true h.channel.0 k.channel.0 p.0) ∙ ap (λ (b : Bool). hop k.channel.0 b) ((booleans_Decides h.back k.back).0 p.1)

pub same_hop_itself : (h : Hop) → same_hop h h ≡ true
same_hop_itself h = and_from (eqb h.channel.0 h.channel.0) (beq h.back h.back) (eq-eqb h.channel.0 h.channel.0 refl) ((booleans_Decides h.back h.back).1 refl)

pub same_block_is : (b c : BlockId) → eqb b.0 c.0 ≡ true → b ≡ c
unfolding block
same_block_is b c e = ap block (eqb-true b.0 c.0 e)

pub same_station_is : (a b : Station) → same_station a b ≡ true → a ≡ b
same_station_is (Line h) (Line k) e = ap Line (same_hop_is h k e)
same_station_is (Inlet b) (Inlet c) e = ap Inlet (same_block_is b c e)
same_station_is Outlet Outlet e = refl
same_station_is (Line h) (Inlet c) e = absurd (false≢true e)
same_station_is (Line h) Outlet e = absurd (false≢true e)
same_station_is (Inlet b) (Line k) e = absurd (false≢true e)
same_station_is (Inlet b) Outlet e = absurd (false≢true e)
same_station_is Outlet (Line k) e = absurd (false≢true e)
same_station_is Outlet (Inlet c) e = absurd (false≢true e)

pub same_station_itself : (a : Station) → same_station a a ≡ true
same_station_itself (Line h) = same_hop_itself h
same_station_itself (Inlet b) = eq-eqb b.0 b.0 refl
same_station_itself Outlet = refl

pub other_station : (a b : Station) → a ≢ b → same_station a b ≡ false
other_station a b n = elim (cases_Bool (same_station a b)) [ inl e ↦ absurd (n (same_station_is a b e)) | inr e ↦ e ]

pub cases_station : (a b : Station) → (a ≡ b) ⊎ (a ≢ b)
cases_station a b = elim (cases_Bool (same_station a b)) [
  | inl e ↦ inl (same_station_is a b e)
  | inr e ↦ inr (λ p. both_ways (same_station a b) e (subst (λ (u : Station). same_station a u ≡ true) p (same_station_itself a)))
]
