-- The environment before its first step, and how its outputs are counted.
use Rattle.std.proofs.Common.{ℕ, ◌+◌, List, [], ◌∷◌, ◌++◌, All, length, ap, sym, ◌∙◌, subst, arith}
use Rattle.std.proofs.lemmas.List.Elements.{All-nil}
use Rattle.sdl_signal.specs.declared.values.Origin.{Origin}
use Rattle.sdl_structure_parts.specs.Structure.{Structure}
use Rattle.sdl_routes.specs.declared.route.TableRow.{TableRow}
use Rattle.sdl_run_outcome.specs.EnvironmentWork.{EnvWorking, IsEnvFresh, IsEnvSound, IsLegalItem, ComesIn, AreCounted}

-- before anything was read it is sound
pub fresh_sound : (structure : Structure) (rows : List TableRow) (worker : ℕ) (w : EnvWorking) → IsEnvFresh worker w → IsEnvSound structure rows worker w
fresh_sound structure rows worker w fresh =
    record {
      number = fresh.number;
      legal = subst (All (IsLegalItem structure rows worker)) (sym fresh.outgoing) (All-nil (IsLegalItem structure rows worker));
      coming = subst (All (ComesIn rows)) (sym fresh.outgoing) (All-nil (ComesIn rows));
      few = omega (arith, fresh.none);
      one = let z = ap length fresh.outgoing in omega (arith, z);
      counted = ap length fresh.put ∙ sym fresh.none;
    }

-- numbers that go on
pub counted_append : (w n : ℕ) (os ps : List Origin) → AreCounted w n os → AreCounted w (n + length os) ps → AreCounted w n (os ++ ps)
counted_append w n [] ps h k = subst (λ (m : ℕ). AreCounted w m ps) (omega arith) k
counted_append w n (o ∷ os) ps h k = (h.0, h.1, counted_append w (n + 1) os ps h.2 (subst (λ (m : ℕ). AreCounted w m ps) (omega arith) k))
