-- What the environment sends may travel, and what leaves through the outlet can be written.
use Rattle.std.proofs.Common.{◌≡◌, ℕ, zero, suc, Bool, true, false, List, [], ◌∷◌, ◌++◌, map, filter, length, Option, None, Some, IsSome, IsSomeAnd, IfSome, option_map, option_and_then, filter_map, slice_get, All, refl, ap, sym, ◌∙◌, subst, true≢false}
use Rattle.std.specs.List.{AllByRecursion, cons_option}
use Rattle.std.proofs.lemmas.Option.{slice_get-map}
use Rattle.std.proofs.lemmas.List.{length-map}
use Rattle.std.proofs.lemmas.List.Elements.{All-from_recursion, recursion_from_All, All-cons, All-nil, All-weaker}
use Rattle.sdl_signal.specs.declared.ids.GateId.{GateId}
use Rattle.sdl_signal.specs.declared.values.EnvLine.{EnvLine}
use Rattle.sdl_signal.specs.declared.values.Item.{Item}
use Rattle.sdl_signal.specs.declared.values.Sort.{Sort}
use Rattle.sdl_signal.specs.declared.values.Pid.TheVariants as pid
use Rattle.sdl_signal.specs.declared.environment.EnvRead.TheVariants as env
use Rattle.sdl_signal.specs.Names.{DeclaredSignal}
use Rattle.sdl_signal.specs.Line.{line_text}
use Rattle.sdl_signal.specs.Environment.{IsEnvLine}
use Rattle.sdl_structure_parts.specs.declared.parts.SignalDecl.{SignalDecl}
use Rattle.sdl_structure_parts.specs.declared.parts.Set.{Set}
use Rattle.sdl_structure_parts.specs.declared.parts.Gate.{Gate}
use Rattle.sdl_structure_parts.specs.declared.parts.Owner.{Owner}
use Rattle.sdl_structure_parts.specs.declared.parts.Owner.TheVariants as owner
use Rattle.sdl_structure_parts.specs.Structure.{Structure, IsStructure, AreSystemFirst, lexicon_of, system_gate_name, declared_signal, set_at, gate_at}
use Rattle.sdl_routes.specs.declared.route.TableRow.{TableRow}
use Rattle.sdl_routes.specs.declared.route.EndPoint.{EndPoint}
use Rattle.sdl_routes.specs.declared.route.EndPoint.TheVariants as ends
use Rattle.sdl_routes.specs.declared.route.Station.{Station}
use Rattle.sdl_routes.specs.declared.route.Station.TheVariants as station
use Rattle.sdl_routes.specs.declared.route.Hop.{Hop}
use Rattle.sdl_routes.specs.Routes.{AreRoutesOf, IsRoute, IsLastStation, IsEndPoint, is_delaying}
use Rattle.sdl_transition_behaviour.specs.Offers.{IsLegalPid, IsLegalValue}
use Rattle.sdl_instances.specs.Core.{signals_of, sets_of, numbers_of}
use Rattle.sdl_forward.proofs.Same.{same_station_is}
use Rattle.sdl_block_hand.specs.Work.{beginning_at, first_station, is_station}
use Rattle.sdl_run_outcome.specs.declared.environment_output.EnvOut.{EnvOut}
use Rattle.sdl_run_outcome.specs.declared.environment_output.EnvOut.TheVariants as env_out
use Rattle.sdl_run_outcome.specs.EnvironmentWork.{GoesOut, ComesIn, IsLegalItem, IsOutputOf, sent_of}
use Rattle.sdl_run_environment.specs.EnvPhases.{IsWritable}
use Rattle.sdl_run_outcome.proofs.Lists.{all_at}
use Rattle.sdl_run_environment.proofs.EnvTexts.{legal_line, has_text}

-- a gate of the system has the same number among the names of gates
named_system : (g : Gate) → g.owner ≡ owner.System → system_gate_name g ≡ Some g.name.bytes
named_system g own = ap (λ (o : Owner). elim o [ owner.System ↦ Some g.name.bytes | owner.Block b ↦ None | owner.Set t ↦ None ]) own

gate_named : (gates : List Gate) → AreSystemFirst gates → (k : ℕ) (g : Gate) → slice_get gates k ≡ Some g → g.owner ≡ owner.System → slice_get (filter_map system_gate_name gates) k ≡ Some g.name.bytes
gate_named [] first k g at own = cc
gate_named (x ∷ gates) first zero g at own =
    let same : x ≡ g = cc in
    let name : system_gate_name x ≡ Some g.name.bytes = subst (λ (y : Gate). system_gate_name y ≡ Some g.name.bytes) (sym same) (named_system g own) in
    ap (λ (o : Option (List ℕ)). slice_get (cons_option o (filter_map system_gate_name gates)) 0) name
gate_named (x ∷ gates) first (suc k) g at own =
    let own_first : x.owner ≡ owner.System = all_at (λ (h : Gate). h.owner ≡ owner.System → x.owner ≡ owner.System) gates k g first.0 at own in
    ap (λ (o : Option (List ℕ)). slice_get (cons_option o (filter_map system_gate_name gates)) (suc k)) (named_system x own_first) ∙ gate_named gates first.1 k g at own

-- the sorts of a signal, by the names and by the structure
module _ (s : Structure) where
  sorts_of_declared : (o : Option SignalDecl) → option_map (λ (x : SignalDecl). x.sorts.items) o ≡ option_map (λ (d : DeclaredSignal). d.sorts) (option_map declared_signal o)
  sorts_of_declared None = refl
  sorts_of_declared (Some x) = refl

  known_sorts : (k : ℕ) (d : DeclaredSignal) → slice_get (lexicon_of s).signals k ≡ Some d → slice_get (signals_of s) k ≡ Some d.sorts
  known_sorts k d e =
      slice_get-map (λ (x : SignalDecl). x.sorts.items) s.signals k ∙ sorts_of_declared (slice_get s.signals k)
      ∙ ap (option_map (λ (d : DeclaredSignal). d.sorts)) (sym (slice_get-map declared_signal s.signals k) ∙ e)

  declared_with : (o : Option SignalDecl) (sorts : List Sort) → option_map (λ (x : SignalDecl). x.sorts.items) o ≡ Some sorts → (d : DeclaredSignal) × (option_map declared_signal o ≡ Some d) × (sorts ≡ d.sorts)
  declared_with None sorts e = cc
  declared_with (Some x) sorts e = (declared_signal x, refl, cc)

  known_signal : (k : ℕ) (sorts : List Sort) → slice_get (signals_of s) k ≡ Some sorts → (d : DeclaredSignal) × (slice_get (lexicon_of s).signals k ≡ Some d) × (sorts ≡ d.sorts)
  known_signal k sorts e =
      let (d, is, same) = declared_with (slice_get s.signals k) sorts (sym (slice_get-map (λ (x : SignalDecl). x.sorts.items) s.signals k) ∙ e) in
      (d, slice_get-map declared_signal s.signals k ∙ is, same)

  same_sets : length (lexicon_of s).sets ≡ length (sets_of s)
  same_sets = length-map s.sets (λ (t : Set). t.name.bytes) ∙ sym (length-map s.sets numbers_of)

  module _ (rows : List TableRow) (worker : ℕ) where
    -- the item of a line may travel, and comes from the environment
    pub legal_output : (n : ℕ) (line : EnvLine) (out : EnvOut) → IsEnvLine (lexicon_of s) (env.Line line) → IsOutputOf rows worker n line out
        → All (IsLegalItem s rows worker) (sent_of out) × All (ComesIn rows) (sent_of out)
    legal_output n line (env_out.NoRoute o l) named is = (All-nil (IsLegalItem s rows worker), All-nil (ComesIn rows))
    legal_output n line (env_out.Sent i) named (is, (row, there, fits)) =
        let legal = legal_line (lexicon_of s) line named.0 in
        let made : Item = record { origin = record { worker = worker; number = n }; stamp = 0; signal = line.signal; sender = pid.Env; to = line.to; route = i.route } in
        let one : IsLegalItem s rows worker made =
        record {
          carried = (row, there, fits.signal);
          sorts = known_sorts line.signal.id.0 legal.declared legal.signal ∙ ap Some (sym legal.sorts);
          values = subst (λ (m : ℕ). All (IsLegalValue m) line.signal.params.items) same_sets (All-from_recursion (IsLegalValue (length (lexicon_of s).sets)) line.signal.params.items legal.values);
          sender = tt;
          to = subst (λ (m : ℕ). IfSome line.to (IsLegalPid m)) same_sets legal.to;
        } in (
          All-cons (IsLegalItem s rows worker) i [] (subst (IsLegalItem s rows worker) (sym is) one) (All-nil (IsLegalItem s rows worker)),
          All-cons (ComesIn rows) i [] (row, line.gate, there, fits.start) (All-nil (ComesIn rows)),
        )

    -- a route whose first station is the outlet ends in the environment
    last_outlet : (end : EndPoint) (last : Station) → IsLastStation s end last → last ≡ station.Outlet → (gate : GateId) × (end ≡ ends.Environment gate)
    last_outlet (ends.Environment e) last h is = (e, refl)
    last_outlet (ends.Set t) last h is = absurd (inlet (set_at s t) h)
      where
        inlet : (o : Option Set) → IsSomeAnd o (λ set. last ≡ station.Inlet set.block) → ⊥
        inlet None h = h
        inlet (Some set) h = cc

    only_last : (hops : List Hop) (last : Station) → slice_get (map station.Line hops ++ last ∷ []) 0 ≡ Some station.Outlet → last ≡ station.Outlet
    only_last [] last e = cc
    only_last (h ∷ hops) last e = cc

    first_outlet : (row : TableRow) → IsRoute s row → slice_get row.route.stations.items 0 ≡ Some station.Outlet → (gate : GateId) × (row.route.end ≡ ends.Environment gate)
    first_outlet row route e =
        let (last, is_last, all) = route.stations in
        last_outlet row.route.end last is_last (only_last (filter (is_delaying s) row.route.hops.items) last (sym (ap (λ (l : List Station). slice_get l 0) all) ∙ e))

    outlet_of : (o : Option Station) → is_station station.Outlet o ≡ true → o ≡ Some station.Outlet
    outlet_of None h = absurd (true≢false (sym h))
    outlet_of (Some x) h = ap Some (same_station_is x station.Outlet h)

    goes_out : AreRoutesOf s rows → (i : Item) → IsLegalItem s rows worker i → is_station station.Outlet (first_station rows i) ≡ true → GoesOut rows i
    goes_out routes i legal h =
        let (row, there, same) = legal.carried in
        let P : Option TableRow → Type 0 = λ o. is_station station.Outlet (option_and_then (λ row. slice_get row.route.stations.items 0) o) ≡ true in
        let first = outlet_of (slice_get row.route.stations.items 0) (subst P there h) in
        let (gate, ends_out) = first_outlet row (all_at (IsRoute s) rows i.route.0 row routes.sound there) first in
        (row, gate, there, ends_out)

    -- what is put at once into the outlet
    pub begins_out : AreRoutesOf s rows → (items : List Item) → AllByRecursion (IsLegalItem s rows worker) items → AllByRecursion (λ i. IsLegalItem s rows worker i × GoesOut rows i) (beginning_at rows station.Outlet items)
    begins_out routes [] h = tt
    begins_out routes (i ∷ items) h = keeps (is_station station.Outlet (first_station rows i)) refl (begins_out routes items h.1)
      where
        keeps : (b : Bool) → is_station station.Outlet (first_station rows i) ≡ b → AllByRecursion (λ i. IsLegalItem s rows worker i × GoesOut rows i) (beginning_at rows station.Outlet items)
            → AllByRecursion (λ i. IsLegalItem s rows worker i × GoesOut rows i) (beginning_at rows station.Outlet (i ∷ items))
        keeps true e rest = rw e ((h.0, goes_out routes i h.0 e), rest)
        keeps false e rest = rw e rest

    -- what leaves through the outlet can be written
    pub writable : IsStructure s → AreRoutesOf s rows → (i : Item) → IsLegalItem s rows worker i → GoesOut rows i → IsWritable (lexicon_of s) rows i
    writable structure routes i legal (row, gate, there, ends_out) =
        let route = all_at (IsRoute s) rows i.route.0 row routes.sound there in
        let end : IsEndPoint s row.route.end_gate (ends.Environment gate) = subst (IsEndPoint s row.route.end_gate) ends_out route.end in
        let (g, is_gate, own) = owned (gate_at s row.route.end_gate) end.1 in
        let name : slice_get (lexicon_of s).gates row.route.end_gate.0 ≡ Some g.name.bytes = gate_named s.gates structure.gates_order row.route.end_gate.0 g is_gate own in
        let (d, is_signal, sorts) = known_signal i.signal.id.0 _ legal.sorts in
        let values = subst (λ (m : ℕ). AllByRecursion (IsLegalValue m) i.signal.params.items) (sym same_sets) (recursion_from_All (IsLegalValue (length (sets_of s))) i.signal.params.items legal.values) in
        let at_gate : IsSome (line_text (lexicon_of s) (record { gate = row.route.end_gate; signal = i.signal; to = None })) =
        has_text (lexicon_of s) (record { gate = row.route.end_gate; signal = i.signal; to = None }) g.name.bytes d refl name is_signal sorts values in
        let P : Option TableRow → Type 0 = λ o. IsSome (line_text (lexicon_of s) (record { gate = elim o [ None ↦ record { 0 = 0 } | Some row ↦ row.route.end_gate ]; signal = i.signal; to = None })) in
        ((row, gate, there, ends_out), subst P (sym there) at_gate)
      where
        owned : (o : Option Gate) → IsSomeAnd o (λ g. g.owner ≡ owner.System) → (g : Gate) × (o ≡ Some g) × (g.owner ≡ owner.System)
        owned None h = absurd h
        owned (Some g) h = (g, refl, h)

    pub all_writable : IsStructure s → AreRoutesOf s rows → (items : List Item) → All (λ i. IsLegalItem s rows worker i × GoesOut rows i) items → All (IsWritable (lexicon_of s) rows) items
    all_writable structure routes items h =
        All-weaker (λ i. IsLegalItem s rows worker i × GoesOut rows i) (IsWritable (lexicon_of s) rows) (λ i both. writable structure routes i both.0 both.1) items h
