-- What a contract sees of a block's core, and what its calls keep.
use Rattle.std.specs.Prelude.{◌≡◌, ℕ, ◌+◌, ◌*◌, ◌≤◌, ◌<◌, List, [], length, take, count_by, slice_get, slice_index, Some, None, true, ◌⊎◌, map, All}
use Rattle.std.specs.List.{AllByRecursion}
use Rattle.sdl_signal.specs.declared.ids.BlockId.{BlockId}
use Rattle.sdl_signal.specs.declared.ids.SetId.{SetId}
use Rattle.sdl_signal.specs.declared.values.Pid.{Pid}
use Rattle.sdl_signal.specs.declared.values.Pid.TheVariants as pid
use Rattle.sdl_signal.specs.declared.values.Sort.{Sort}
use Rattle.sdl_signal.specs.declared.values.Value.{Value}
use Rattle.sdl_signal.specs.declared.values.Item.{Item}
use Rattle.sdl_structure_parts.specs.declared.parts.Set.{Set}
use Rattle.sdl_structure_parts.specs.Structure.{Structure}
use Rattle.sdl_routes.specs.declared.route.TableRow.{TableRow}
use Rattle.sdl_transition_behaviour.specs.declared.step.Frame.{Frame}
use Rattle.sdl_transition_behaviour.specs.declared.step.Step.{Step}
use Rattle.sdl_transition_behaviour.specs.declared.offer.Offer.{Offer}
use Rattle.sdl_transition_behaviour.specs.declared.offer.OfferedOutput.{OfferedOutput}
use Rattle.sdl_transition_behaviour.specs.declared.offer.SignalSorts.{SignalSorts}
use Rattle.sdl_transition.specs.Offers.{IsLegalPid, IsLegalValue}
use Rattle.sdl_signal.specs.Sorts.{sort_of, AreOfSorts}
use Rattle.sdl_instances.specs.declared.process_set.ProcessSet.{ProcessSet}
use Rattle.sdl_instances_log.specs.declared.event.Event.{Event}
use Rattle.sdl_instances_log.specs.declared.event.Event.TheVariants as event
use Rattle.sdl_instances_log.specs.declared.event.Arrival.{Arrival}
use Rattle.sdl_instances_log.specs.declared.event.Arrival.TheVariants as arrival
use Rattle.sdl_transition_saves.specs.Saves.{IsInRange}
use Rattle.sdl_instances_processes.specs.Ports.{AllSaved}
use Rattle.sdl_instances_processes.specs.Record.{Record, saved_now}
use Rattle.sdl_transition.specs.Rules.{Rules, RowRule, rules_for}
use Rattle.sdl_instances.specs.Legal.{IsLegal}
use Rattle.sdl_instances_processes.specs.Places.{is_of}
use Rattle.sdl_instances.specs.Machine.{State, System, LivesAs, pids, rules_at}
use Rattle.sdl_instances.specs.Run.{turns, arrived, origins, IsRun}

-- the block, the sorts of the structure's signals, its sets, the machine's state, the log so far, and how many turns it may have
pub record Core : Type 0 where
  pub block : BlockId
  pub signals : List (List Sort)
  pub sets : List ProcessSet
  pub state : State
  pub log : List Event
  pub budget : ℕ

-- a core with the room that it has: how many events its log can hold, and how many instances can be created, without
-- taking memory
pub record CoreWithRoom : Type 0 where
  pub core : Core
  pub capacity : ℕ
  pub creatable : ℕ

-- the event of an arrival
abbrev pub arrival_event : Item → Arrival → Event
arrival_event i (arrival.Entered p) = event.Entered i p
arrival_event i (arrival.Discarded c) = event.Discarded i c

-- an instance is ready: it has not started, or not all signals of its port are saved in its state
abbrev pub IsReady : Pid → State → Type 0
IsReady p s = (r : Record) × LivesAs s p r × ((r.state ≡ None) ⊎ (AllSaved (saved_now r) r.port → ⊥))

-- p is the living instance of the set before which k others of it were created
abbrev pub IsLivingAt : SetId → State → ℕ → Pid → Type 0
IsLivingAt set s k p =
    (place : ℕ) × (slice_get (pids s) place ≡ Some p) × (is_of set p ≡ true) × (count_by (is_of set) (take place (pids s)) ≡ k)

-- the system that a core works in, with the routes of its structure and the rules of its behaviours
abbrev pub system_of : Core → List TableRow → List Rules → System
system_of c routes rules = record { signals = c.signals; sets = c.sets; routes = routes; rules = rules }

-- the item is one that may travel in the system
abbrev pub IsLegalIn : System → Item → Type 0
IsLegalIn sys i = IsLegal sys.signals (length sys.sets) sys.routes i

-- what a core keeps of a structure: the sorts of its signals, and the numbers of its sets
abbrev pub signals_of : Structure → List (List Sort)
signals_of s = map (λ x. x.sorts.items) s.signals

abbrev pub numbers_of : Set → ProcessSet
numbers_of t = record { block = t.block; initial = t.initial; maximum = t.maximum }

abbrev pub sets_of : Structure → List ProcessSet
sets_of s = map numbers_of s.sets

-- an output's signal has the sorts that the structure gives it
abbrev pub HasSortsIn : List (List Sort) → SignalSorts → Type 0
HasSortsIn signals signal = slice_get signals signal.id.0 ≡ Some signal.sorts.items

-- The offer is for the variables of the set. The signals that it outputs have the structure's sorts, and the sets that it
-- creates are sets of the block.
pub record IsOfferIn (signals : List (List Sort)) (sets : List ProcessSet) (block : BlockId) (values : List Value) (o : Offer) : Type 0 where
  pub sorts : AreOfSorts values o.vars.items
  pub outputs : All (λ (out : OfferedOutput). HasSortsIn signals out.signal) o.outputs.items
  pub creates : All (λ (set : SetId). ∥ ((d : ProcessSet) × (slice_get sets set.0 ≡ Some d) × (d.block ≡ block)) ∥₁) o.creates.items
  pub number_of_sets : o.sets ≡ length sets

-- the offer of a row is for the row's state and signal, with the signal's sorts
pub record IsRowIn (signals : List (List Sort)) (sets : List ProcessSet) (block : BlockId) (values : List Value) (r : RowRule) : Type 0 where
  pub offer : IsOfferIn signals sets block values r.rule.offer
  pub state : r.rule.offer.state ≡ Some r.state
  pub signal : (offered : SignalSorts) × (r.rule.offer.signal ≡ Some offered) × (offered.id ≡ r.signal) × HasSortsIn signals offered

-- The rules of a set are of the system: the initial variables name no instance of another system. What is saved are signals
-- that can be, in states that can be.
pub record AreRulesIn (signals : List (List Sort)) (sets : List ProcessSet) (block : BlockId) (r : Rules) : Type 0 where
  pub values : All (IsLegalValue (length sets)) r.vars
  pub start : IsOfferIn signals sets block r.vars r.start.offer
  pub at_start : (r.start.offer.state ≡ None) × (r.start.offer.signal ≡ None)
  pub rows : AllByRecursion (IsRowIn signals sets block r.vars) r.rows
  pub saves : All IsInRange r.saves

-- Each set of the block has rules, and all the rules are of the system. A set has at most 1,024 instances, and no
-- more at first.
pub record IsBoundIn (signals : List (List Sort)) (sets : List ProcessSet) (rules : List Rules) (block : BlockId) : Type 0 where
  pub every : (set : SetId) (d : ProcessSet) → slice_get sets set.0 ≡ Some d → d.block ≡ block → (r : Rules) × (rules_for rules set ≡ Some r)
  pub each : AllByRecursion (AreRulesIn signals sets block) rules
  pub few : AllByRecursion (λ (d : ProcessSet). (d.initial ≤ d.maximum) × (d.maximum ≤ 1024)) sets

-- the instance has a serial number that its set has given out
abbrev pub HasSerial : List ℕ → Pid → Type 0
HasSerial last (pid.Inst set serial) = (set.0 < length last) × (1 ≤ serial) × (serial ≤ slice_index last set.0)
HasSerial last pid.Null = ⊥
HasSerial last pid.Env = ⊥

-- A living instance is legal: its set has rules, which say what its states save; its variables have their sorts; the items of
-- its port are legal. Each Pid that it knows has a set of the structure and a serial number of at least 1.
pub record IsLegalInstance (sys : System) (last : List ℕ) (e : Pid × Record) : Type 0 where
  pub rules : (r : Rules) × (rules_at sys e.0 ≡ Some r) × (map sort_of e.1.vars ≡ map sort_of r.vars) × (e.1.saves ≡ r.saves)
  pub serial : HasSerial last e.0
  pub values : All (IsLegalValue (length sys.sets)) e.1.vars
  pub port : All (IsLegalIn sys) e.1.port
  pub parent : IsLegalPid (length sys.sets) e.1.parent
  pub offspring : IsLegalPid (length sys.sets) e.1.offspring
  pub sender : IsLegalPid (length sys.sets) e.1.sender

-- each set has given out at most the serial numbers of its 1,024 first instances and of eight creates a turn
pub record AreSerials (sets turns : ℕ) (last : List ℕ) : Type 0 where
  pub each : length last ≡ sets
  pub few : All (λ n. n ≤ 1024 + 8 * turns) last

-- The core is sound: its log is a run that ends in its state, of legal arrivals, with no more turns than the budget, and its
-- instances are legal.
pub record IsSound (may : ℕ → Frame → Step → Type 0) (sys : System) (c : Core) : Type 0 where
  pub bound : IsBoundIn sys.signals sys.sets sys.rules c.block
  pub run : IsRun may sys c.block c.log c.state
  pub legal : All (IsLegalIn sys) (arrived c.log)
  pub instances : All (IsLegalInstance sys c.state.last) c.state.living
  pub serials : AreSerials (length sys.sets) (turns c.log) c.state.last
  pub few_outputs : length (origins c.log) ≤ 8 * turns c.log
  pub turns_within : turns c.log ≤ c.budget
  pub few_turns : c.budget ≤ 1000000
