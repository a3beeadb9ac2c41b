-- The faults of texts lie in the file.
use Rattle.std.proofs.Common.{◌≡◌, ℕ, ◌<◌, ◌≤◌, List, length, map, get_or, Some, IsSomeAnd, slice_get, sym, ap, subst, ◌∙◌}
use Rattle.toml.specs.Data.{Members}
use Rattle.toml.specs.declared.value.Value.{Value}
use Rattle.sdl_listing_file.specs.declared.place.AgentsKey.{AgentsKey}
use Rattle.sdl_listing_file.specs.declared.place.AgentsPlace.{AgentsPlace}
use Rattle.sdl_listing_file.specs.declared.fault.AgentsFault.{AgentsFault}
use Rattle.sdl_listing_file.specs.declared.fault.AgentsFault.TheVariants as fault
use Rattle.sdl_listing_file.specs.declared.walk.Walk.{Walk}
use Rattle.sdl_listing_file.specs.Tables.{texts_at, text_of, table_of, IsPlace}
use Rattle.sdl_listing_file.specs.File.{IsFaultIn, IsPlaced, text_among}
use Rattle.sdl_listing_file.specs.Walks.{file_of, own, IsHere}
use Rattle.sdl_listing_file.proofs.ListLemmas.{the_place}

fault_placed : (root : Members) (place : AgentsPlace) (i : ℕ) (text : List ℕ) (f : AgentsFault) → IsPlace root place → text_among place.key i (table_of root place) ≡ Some text → IsFaultIn place i text f → IsPlaced root f
fault_placed root place i text fault.NotToml lies there h = absurd h
fault_placed root place i text (fault.MissingKey q) lies there h = absurd h
fault_placed root place i text (fault.WrongType q) lies there h = absurd h
fault_placed root place i text (fault.UnknownKey q) lies there h = absurd h
fault_placed root place i text (fault.BadName q) lies there h = absurd h
fault_placed root place i text (fault.Duplicate q) lies there h = absurd h
fault_placed root place i text (fault.UnknownName q) lies there h = absurd h
fault_placed root place i text (fault.TooMany q) lies there h = absurd h
fault_placed root place i text (fault.OutOfRange q) lies there h = absurd h
fault_placed root place i text fault.Memory lies there h = tt
fault_placed root place i text (fault.Text p g t) lies there (e, d, low, high) =
    let same : text_among p.key t.item (table_of root p) ≡ Some text =
    ap (λ (q : AgentsPlace). text_among q.key t.item (table_of root q)) e ∙ (ap (λ (k : ℕ). text_among place.key k (table_of root place)) d ∙ there) in
    (subst (λ (q : AgentsPlace). IsPlace root q) (sym e) lies, subst (λ o. IsSomeAnd o (λ u. (t.start ≤ t.end) × (t.end ≤ length u))) (sym same) (low, high))
fault_placed root place i text (fault.NoBehaviour s) lies there h = absurd h

-- a fault of the text at a key of the table where a walk stands
pub placed_here : (w : Walk) (place : AgentsPlace) (k : AgentsKey) (i : ℕ) (text : List ℕ) (f : AgentsFault) → IsHere w → place ≡ record w.place { key = k } → IsPlace (file_of w) place → text_among k i (own w) ≡ Some text
    → IsFaultIn place i text f → IsPlaced (file_of w) f
placed_here w place k i text f here at lies there bad =
    let same : text_among place.key i (table_of (file_of w) place) ≡ Some text =
    ap (λ (q : AgentsPlace). text_among q.key i (table_of (file_of w) q)) at ∙ (ap (λ (m : Members). text_among k i m) here.table ∙ there) in
    fault_placed (file_of w) place i text f lies same bad

-- the same of a list of texts, by the position in it
pub placed_in_list : (w : Walk) (place : AgentsPlace) (k : AgentsKey) (vs : List Value) (i : ℕ) (v : Value) (text : List ℕ) (f : AgentsFault) → IsHere w → place ≡ record w.place { key = k } → IsPlace (file_of w) place
    → ((ms : Members) → text_among k i ms ≡ slice_get (texts_at k ms) i) → texts_at k (own w) ≡ map text_of vs → i < length vs → v ≡ get_or vs i v → text ≡ text_of v
    → IsFaultIn place i text f → IsPlaced (file_of w) f
placed_in_list w place k vs i v text f here at lies list held h is read bad =
    let there : text_among k i (own w) ≡ Some text = list (own w) ∙ (ap (λ ts. slice_get ts i) held ∙ (the_place text_of vs i v h is ∙ ap (λ t. Some t) (sym read))) in
    placed_here w place k i text f here at lies there bad
