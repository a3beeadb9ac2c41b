-- The structure Echo and its two routes.
use Rattle.std.proofs.Common.{◌≡◌, ℕ, List, [], ◌∷◌, Some, None, true, false, refl, codes, arith, inl, inr, ap}
use Rattle.arrayvec.specs.ArrayString.{ArrayString}
use Rattle.sdl_signal.specs.declared.values.Sort.TheVariants as sort
use Rattle.sdl_structure_parts.specs.declared.parts.End.{End}
use Rattle.sdl_structure_parts.specs.declared.parts.Gate.{Gate}
use Rattle.sdl_structure_parts.specs.declared.parts.Owner.TheVariants as owner
use Rattle.sdl_structure_parts.specs.declared.parts.Scope.TheVariants as scope
use Rattle.sdl_structure_parts.specs.declared.parts.Side.TheVariants.{Outer, Inner}
use Rattle.sdl_structure_parts.specs.Structure.{Structure}
use Rattle.sdl_routes.specs.declared.route.Hop.{Hop}
use Rattle.sdl_routes.specs.declared.route.TableRow.{TableRow}
use Rattle.sdl_routes.specs.declared.route.Source.TheVariants as source
use Rattle.sdl_routes.specs.declared.route.EndPoint.TheVariants as ends
use Rattle.sdl_routes.specs.declared.route.Station.TheVariants as stations
use Rattle.sdl_routes.specs.declared.route.Goal.TheVariants as goal
use Rattle.sdl_routes.specs.declared.route.Via.TheVariants as via
use Rattle.sdl_routes.specs.declared.route.Wish.{Wish}
use Rattle.sdl_routes.specs.Routes.{IsRoute, Joins, AreInOrder, Fits, IsChoice, FollowsIn}
use Rattle.sdl_routes.proofs.Once.{follows}

abbrev pub named : List ℕ → ArrayString
named text = record { bytes = text; spare = [] }

abbrev pub gate_of : List ℕ → owner.the_data → Gate
gate_of text o = record {
  name = named text;
  owner = o;
  inward = record { items = record { 0 = 0 } ∷ [] };
  outward = record { items = record { 0 = 1 } ∷ [] };
}

abbrev pub echo : Structure
echo = record {
  system = codes "Echo";
  budget = 100000;
  signals =
      record { name = named (codes "ping"); sorts = record { items = sort.Integer ∷ [] } }
      ∷ record { name = named (codes "pong"); sorts = record { items = sort.Integer ∷ [] } } ∷ [];
  blocks = record { name = named (codes "B"); scope = scope.System; depth = 1 } ∷ [];
  sets = record { name = named (codes "E"); block = record { 0 = 0 }; initial = 1; maximum = 1024 } ∷ [];
  gates = gate_of (codes "line") owner.System ∷ gate_of (codes "g") (owner.Block (record { 0 = 0 })) ∷ gate_of (codes "p") (owner.Set (record { 0 = 0 })) ∷ [];
  channels =
      record {
        name = named (codes "c0");
        scope = scope.System;
        first = record { gate = record { 0 = 0 }; side = Inner };
        second = record { gate = record { 0 = 1 }; side = Outer };
        forth = record { items = record { 0 = 0 } ∷ [] };
        back = record { items = record { 0 = 1 } ∷ [] };
        nodelay = false;
      }
      ∷ record {
        name = named (codes "c1");
        scope = scope.Block (record { 0 = 0 });
        first = record { gate = record { 0 = 1 }; side = Inner };
        second = record { gate = record { 0 = 2 }; side = Outer };
        forth = record { items = record { 0 = 0 } ∷ [] };
        back = record { items = record { 0 = 1 } ∷ [] };
        nodelay = false;
      }
      ∷ [];
}

-- 0 ping env.line c0+ c1+ E.p
abbrev pub ping_row : TableRow
ping_row = record {
  route = record {
    signal = record { 0 = 0 };
    start = record { 0 = 0 };
    hops = record { items = record { channel = record { 0 = 0 }; back = false } ∷ record { channel = record { 0 = 1 }; back = false } ∷ [] };
    end = ends.Set (record { 0 = 0 });
    end_gate = record { 0 = 2 };
    stations = record {
      items =
          stations.Line (record { channel = record { 0 = 0 }; back = false })
          ∷ stations.Line (record { channel = record { 0 = 1 }; back = false })
          ∷ stations.Inlet (record { 0 = 0 }) ∷ [];
    };
  };
  source = source.Gate (record { 0 = 0 });
}

-- 1 pong E.p c1- c0- env.line
abbrev pub pong_row : TableRow
pong_row = record {
  route = record {
    signal = record { 0 = 1 };
    start = record { 0 = 2 };
    hops = record { items = record { channel = record { 0 = 1 }; back = true } ∷ record { channel = record { 0 = 0 }; back = true } ∷ [] };
    end = ends.Environment (record { 0 = 0 });
    end_gate = record { 0 = 0 };
    stations = record {
      items =
          stations.Line (record { channel = record { 0 = 1 }; back = true })
          ∷ stations.Line (record { channel = record { 0 = 0 }; back = true })
          ∷ stations.Outlet ∷ [];
    };
  };
  source = source.Set (record { 0 = 0 });
}

pub ping_is_route : IsRoute echo ping_row
ping_is_route = record {
  walk = ((0, omega arith, refl), (tt, refl), (0, omega arith, refl));
  start = refl;
  source = (refl, refl);
  end_gate = refl;
  end = refl;
  stations = (stations.Inlet (record { 0 = 0 }), refl, refl);
}

pub pong_is_route : IsRoute echo pong_row
pong_is_route = record {
  walk = ((0, omega arith, refl), (tt, refl), (0, omega arith, refl));
  start = refl;
  source = refl;
  end_gate = refl;
  end = (refl, refl);
  stations = (stations.Outlet, refl, refl);
}

pub in_order : AreInOrder (ping_row ∷ pong_row ∷ [])
in_order = ((inl (omega arith), tt), (tt, tt))

-- an output of pong by E, anywhere, has the route 1
abbrev pub wish_pong : Wish
wish_pong = record { source = source.Set (record { 0 = 0 }); signal = record { 0 = 1 }; goal = goal.Anywhere; via = via.Any }

pub pong_fits : Fits pong_row wish_pong
pong_fits = record { signal = refl; start = refl; end = tt; via = tt }

-- a hop joins the hop behind the block's gate, and not its own way back
abbrev pub outer_forth : Hop
outer_forth = record { channel = record { 0 = 0 }; back = false }

abbrev pub outer_back : Hop
outer_back = record { channel = record { 0 = 0 }; back = true }

abbrev pub inner_forth : Hop
inner_forth = record { channel = record { 0 = 1 }; back = false }

pub forth_joins_forth : Joins echo outer_forth inner_forth
forth_joins_forth = (tt, refl)

pub forth_joins_no_back : ¬ Joins echo outer_forth outer_back
forth_joins_no_back (block, e) = let f : Outer ≡ Inner = ap (λ (end : End). end.side) e in cc

-- ping does not fit, so pong is the only choice, whatever the pick
pub ping_fits_not : ¬ Fits ping_row wish_pong
ping_fits_not fits = let e : ping_row.route.signal ≡ wish_pong.signal = fits.signal in cc

pub pong_is_chosen : IsChoice (ping_row ∷ pong_row ∷ []) wish_pong 7 (Some (record { 0 = 1 }))
pong_is_chosen = (1 ∷ [], inr (ping_fits_not, inl (pong_fits, ([], refl, refl))), refl)

-- nothing goes to Null
pub null_fits_not : (row : TableRow) → ¬ Fits row (record wish_pong { goal = goal.Null })
null_fits_not row fits = fits.end

-- from no station to the first, and from the last to none
pub first_station : FollowsIn ping_row.route.stations.items None (Some (stations.Line outer_forth))
first_station = refl

pub no_station_behind : FollowsIn (stations.Line outer_forth ∷ stations.Outlet ∷ []) (Some stations.Outlet) None
no_station_behind = follows (stations.Line outer_forth ∷ stations.Outlet ∷ []) stations.Outlet None 1 (((λ e. cc), tt), (tt, tt)) refl refl
