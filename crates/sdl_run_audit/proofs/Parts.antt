-- The parts of a closing that a trail follows, as they are at hand and as they are in the closing.
use Rattle.std.proofs.Common.{◌≡◌, List, [], ◌∙◌, sym, ap, subst, map}
use Rattle.std.specs.Option.{option_to_list}
use Rattle.sdl_signal.specs.declared.values.Item.{Item}
use Rattle.sdl_structure_parts.specs.Structure.{Structure}
use Rattle.sdl_routes.specs.declared.route.TableRow.{TableRow}
use Rattle.sdl_routes.specs.declared.route.Station.{Station}
use Rattle.sdl_routes.specs.Routes.{AreRoutesOf}
use Rattle.sdl_instances_log.specs.Log.{sent, arrived}
use Rattle.sdl_forward_opening.specs.declared.worker.Worker.{Worker}
use Rattle.sdl_forward_opening.specs.declared.worker.Worker.TheVariants.{Environment}
use Rattle.sdl_forward_opening.specs.Workers.{ways_in}
use Rattle.sdl_run_outcome.specs.declared.environment_output.EnvOut.{EnvOut}
use Rattle.sdl_run_outcome.specs.EnvironmentWork.{env_sent}
use Rattle.sdl_run_outcome.specs.Plan.{Plan, workers_of}
use Rattle.sdl_run_outcome.specs.Outcome.{Outcome, WorkerHand}
use Rattle.sdl_run_recount.specs.Along.{starts_at, ends_at, given, gathered}
use Rattle.sdl_run_recount.specs.Trails.{Grows, standing_along}
use Rattle.sdl_run_recount.specs.declared.trail.Trail.{Trail}

pub record Parts : Type 0 where
  pub structure : Structure
  pub rows : List TableRow
  pub workers : List Worker
  pub sents : List (List Item)
  pub arriveds : List (List Item)
  pub put : List EnvOut
  pub received : List Item
  pub kept : List (List Item)
  pub rests : List (Station × List Item)
  pub outgoing : List (List Item)

abbrev pub parts : Structure → List TableRow → List Worker → List (List Item) → List (List Item) → List EnvOut → List Item → List (List Item) → List (Station × List Item) → List (List Item) → Parts
parts a b c d e f g h i j =
    record {
      structure = a;
      rows = b;
      workers = c;
      sents = d;
      arriveds = e;
      put = f;
      received = g;
      kept = h;
      rests = i;
      outgoing = j;
    }

-- the parts of what a run left
abbrev pub parts_in : Plan → Outcome → Parts
parts_in plan o =
    parts plan.structure plan.routes (workers_of plan) (map sent o.logs) (map arrived o.logs) o.env_put o.env_received (map (λ (h : WorkerHand). option_to_list h.kept) o.hands) o.rests (map (λ (h : WorkerHand). h.outgoing) o.hands)

-- the trail grew by these parts, one after another
pub record Follows (p : Parts) (none one two three four : Trail) : Type 0 where
  pub logs : Grows (λ r. gathered (λ w. starts_at (ways_in p.structure p.rows) w r) p.workers p.sents) (λ r. gathered (λ w. ends_at (ways_in p.structure p.rows) w r) p.workers p.arriveds) none one
  pub env : Grows (λ r. given (starts_at (ways_in p.structure p.rows) Environment r) (env_sent p.put)) (λ r. given (ends_at (ways_in p.structure p.rows) Environment r) p.received) one two
  pub stand : Grows (λ r. []) (standing_along p.rows p.workers p.kept p.rests) two three
  pub last : Grows (λ r. []) (λ r. gathered (λ w. starts_at (ways_in p.structure p.rows) w r) p.workers p.outgoing) three four

-- parts that are the same
pub same_parts : (p q : Parts) → p.structure ≡ q.structure → p.rows ≡ q.rows → p.workers ≡ q.workers → p.sents ≡ q.sents → p.arriveds ≡ q.arriveds → p.put ≡ q.put → p.received ≡ q.received → p.kept ≡ q.kept → p.rests ≡ q.rests → p.outgoing ≡ q.outgoing → p ≡ q
same_parts p q a b c d e f g h i j =
    ap (λ (x : Structure). parts x p.rows p.workers p.sents p.arriveds p.put p.received p.kept p.rests p.outgoing) a
    ∙ (ap (λ (x : List TableRow). parts q.structure x p.workers p.sents p.arriveds p.put p.received p.kept p.rests p.outgoing) b
    ∙ (ap (λ (x : List Worker). parts q.structure q.rows x p.sents p.arriveds p.put p.received p.kept p.rests p.outgoing) c
    ∙ (ap (λ (x : List (List Item)). parts q.structure q.rows q.workers x p.arriveds p.put p.received p.kept p.rests p.outgoing) d
    ∙ (ap (λ (x : List (List Item)). parts q.structure q.rows q.workers q.sents x p.put p.received p.kept p.rests p.outgoing) e
    ∙ (ap (λ (x : List EnvOut). parts q.structure q.rows q.workers q.sents q.arriveds x p.received p.kept p.rests p.outgoing) f
    ∙ (ap (λ (x : List Item). parts q.structure q.rows q.workers q.sents q.arriveds q.put x p.kept p.rests p.outgoing) g
    ∙ (ap (λ (x : List (List Item)). parts q.structure q.rows q.workers q.sents q.arriveds q.put q.received x p.rests p.outgoing) h
    ∙ (ap (λ (x : List (Station × List Item)). parts q.structure q.rows q.workers q.sents q.arriveds q.put q.received q.kept x p.outgoing) i
    ∙ (ap (λ (x : List (List Item)). parts q.structure q.rows q.workers q.sents q.arriveds q.put q.received q.kept q.rests x) j)))))))))

pub routes_there : (s t : Structure) (rows more : List TableRow) → t ≡ s → more ≡ rows → AreRoutesOf s rows → AreRoutesOf t more
routes_there s t rows more e f h = subst (λ (x : Structure). AreRoutesOf x more) (sym e) (subst (AreRoutesOf s) (sym f) h)
