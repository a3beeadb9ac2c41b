use Rattle.std.proofs.Common.{◌≡◌, ◌≢◌, ◌++◌, ◌<◌, ◌≤◌, pos, length, true, Some, AllPairs, refl, ap, sym, subst, ◌∙◌}
use Rattle.std.specs.List.{AllZip}
use Rattle.sdl_structure_parts.specs.declared.parts.Owner.TheVariants as owner
use Rattle.sdl_structure_parts.specs.declared.parts.Scope.TheVariants as scope
use Rattle.sdl_structure_tables.specs.declared.place.Key.TheVariants as key
use Rattle.sdl_structure_tables.specs.declared.place.Part.TheVariants as part
use Rattle.sdl_structure.specs.declared.reading.draft.Draft.{Draft}
use Rattle.sdl_structure_parts.specs.Structure.{Structure}
use Rattle.sdl_structure_tables.specs.Versions.{most_blocks}
use Rattle.sdl_structure_tables.specs.Keys.{keys_of}
use Rattle.sdl_structure_tables.specs.Tables.{integer_at, integer_or, tables_at, has_only, channel_names, names_of, own_version, HasShape}
use Rattle.sdl_structure_tables.specs.Blocks.{left_in_all}
use Rattle.sdl_structure_tables.specs.Names.{IsSignalTable, HasName}
use Rattle.sdl_structure.specs.File.{IsGateTable, IsChannelTable, HasGates, version_number, owned, channels_in}
use Rattle.sdl_structure_tables.specs.Walks.{file_of, own, name_texts}
use Rattle.sdl_structure.specs.Drafts.{HasSignals}
use Rattle.sdl_structure_tables.proofs.PlaceLemmas.{top_is}
use Rattle.sdl_structure.proofs.FileLemmas.{draft_starts, all_agents, all_whole, all_channels, all_names, top_serves, top_counted, lists_parts, distinct_names, few_channels, within_limits}
use Rattle.sdl_structure.proofs.reading.file.read_top.Goals as goal

pub read_blocks-requires-clause-read : goal.read_blocks-requires-clause-read
read_blocks-requires-clause-read c =
    let d = c.new-draft.result in
    let e = c.new-draft.ensures in
    let o = top_is c.args.top.now c.requires.here c.requires.part in
    let signals = subst (λ m. AllZip IsSignalTable (tables_at key.Signal m) c.in_ok-signals.signals.items) o c.in_ok-signals.ensures.read in
    let gates = subst (λ m. AllZip (IsGateTable c.in_ok-signals.signals.items) (owned owner.System m) c.in_ok-gates.gates.items) o (rw c.as_slice.ensures.value at c.in_ok-gates.ensures.read) in
    draft_starts (file_of c.args.top.now) d (rw e.signals signals) (rw e.signals c.in_ok-signals.ensures.few) (rw (e.signals, e.gates) gates) (rw e.gates c.in_ok-gates.ensures.few) e.agents.0 e.agents.1 e.agents.2 e.channels.1

pub read_blocks-requires-clause-none : goal.read_blocks-requires-clause-none
read_blocks-requires-clause-none c = (ap (λ xs. length xs) c.new-draft.ensures.agents.0, c.new-draft.ensures.channels.0)

pub read_channels-requires-clause-serves : goal.read_channels-requires-clause-serves
read_channels-requires-clause-serves c =
    let w = c.args.top.now in
    let d = c.new-draft.result in
    let e = c.read_blocks.new.self in
    let o = top_is w c.requires.here c.requires.part in
    let none : length d.blocks.items ≡ 0 = ap (λ xs. length xs) c.new-draft.ensures.agents.0 in
    let signals = subst (λ m. AllZip IsSignalTable (tables_at key.Signal m) c.in_ok-signals.signals.items) o c.in_ok-signals.ensures.read in
    let has : HasSignals (file_of w) d = record { named = rw c.new-draft.ensures.signals signals; few = rw c.new-draft.ensures.signals c.in_ok-signals.ensures.few } in
    let few : length e.blocks.items ≤ most_blocks (own_version (file_of w)) = subst (λ v. length e.blocks.items ≤ most_blocks v) c.requires.here.version c.in_ok-inner.ensures.some.1 in
    top_serves (file_of w) d e c.in_ok-inner.inner.items none c.in_ok-inner.ensures.read w refl c.requires.here c.requires.part has few

pub read_channels-requires-clause-names : goal.read_channels-requires-clause-names
read_channels-requires-clause-names c =
    let none : length (c.new-draft.result).blocks.items ≡ 0 = ap (λ xs. length xs) c.new-draft.ensures.agents.0 in
    all_names (file_of c.args.top.now) c.new-draft.result c.read_blocks.new.self c.in_ok-inner.inner.items none c.in_ok-inner.ensures.read c.new-draft.ensures.channels.1

pub read_channels-requires-clause-apart : goal.read_channels-requires-clause-apart
read_channels-requires-clause-apart c = c.in_ok-inner.ensures.read.apart

pub read_channels-requires-clause-few : goal.read_channels-requires-clause-few
read_channels-requires-clause-few c = c.in_ok-inner.ensures.read.few

pub read_channels-requires-clause-counted : goal.read_channels-requires-clause-counted
read_channels-requires-clause-counted c =
    let none : length (c.new-draft.result).blocks.items ≡ 0 = ap (λ xs. length xs) c.new-draft.ensures.agents.0 in
    top_counted c.args.top.now c.read_blocks.new.self c.requires.here c.requires.part
    (all_names (file_of c.args.top.now) c.new-draft.result c.read_blocks.new.self c.in_ok-inner.inner.items none c.in_ok-inner.ensures.read c.new-draft.ensures.channels.1)

pub returns-clause-ok : goal.returns-clause-ok
returns-clause-ok c =
    let w = c.args.top.now in
    let root = file_of w in
    let v = own_version root in
    let o = top_is w c.requires.here c.requires.part in
    let d = c.new-draft.result in
    let e = c.read_blocks.new.self in
    let rc = c.read_channels.new.self in
    let read = c.in_ok-inner.ensures.read in
    let inner = c.in_ok-inner.inner.items in
    let top = c.in_ok-channels.channels.items in
    let frame = c.in_ok-channels.ensures.frame in
    let none : length d.blocks.items ≡ 0 = ap (λ xs. length xs) c.new-draft.ensures.agents.0 in
    let s : Structure = record { system = c.in_ok-system.system.bytes; budget = c.in_ok-budget.budget; signals = rc.signals.items; blocks = rc.blocks.items; sets = rc.sets.items; gates = rc.gates.items; channels = c.append.new.self.items } in
    let same : e.signals ≡ c.in_ok-signals.signals = read.signals ∙ c.new-draft.ensures.signals in
    let signals = subst (λ m. AllZip IsSignalTable (tables_at key.Signal m) c.in_ok-signals.signals.items) o c.in_ok-signals.ensures.read in
    let channels = subst (λ m. AllZip (IsChannelTable e.signals.items e.blocks.items e.sets.items e.gates.items) (channels_in scope.System m) top) o c.in_ok-channels.ensures.read in
    let names : name_texts rc.channel_names.items ≡ channel_names (left_in_all root) ++ names_of (tables_at key.Channel root) = c.in_ok-channels.ensures.names ∙ ap (λ m. channel_names (left_in_all root) ++ names_of (tables_at key.Channel m)) o in
    let agents = all_agents root d e inner none read in
    let sig = ap (λ (x : Draft). x.signals.items) frame in
    let bl = ap (λ (x : Draft). x.blocks.items) frame in
    let se = ap (λ (x : Draft). x.sets.items) frame in
    let ga = ap (λ (x : Draft). x.gates.items) frame in
    let parts = lists_parts root e s top inner (rw same signals) agents (all_whole root d e inner none read) (all_channels root d e inner none read) channels sig bl se ga c.in_ok-append.ensures.items in
    let others : has_only (keys_of v part.System) (own w) ≡ true = subst (λ q. has_only (keys_of v q) (own w) ≡ true) c.requires.part (subst (λ u. has_only (keys_of u w.place.part) (own w) ≡ true) c.requires.here.version c.in_ok-only_known_keys.ensures.ok) in
    let shape : HasShape (keys_of v part.System) (own w) = record { kinds = (c.in_ok-read_version.ensures.kind, (c.in_ok-system.ensures.kind, (c.in_ok-budget.ensures.kind, (c.in_ok-signals.ensures.kind, (c.in_ok-gates.ensures.kind, (c.in_ok-inner.ensures.kind, (c.in_ok-channels.ensures.kind, tt))))))); others = others } in
    let some = subst (λ u. (0 < length e.blocks.items) × (length e.blocks.items ≤ most_blocks u)) c.requires.here.version c.in_ok-inner.ensures.some in
    record {
      shape = subst (λ m. HasShape (keys_of v part.System) m) o shape;
      version = ap (integer_at key.Version) (sym o) ∙ (c.in_ok-read_version.ensures.known ∙ ap (λ u. Some (version_number u)) c.requires.here.version);
      system = subst (λ m. HasName key.System m s.system) o (c.in_ok-system.ensures.held, c.in_ok-system.ensures.legal);
      budget = (ap (λ m. integer_or (pos 100000) key.Budget m) (sym o) ∙ c.in_ok-budget.ensures.held, c.in_ok-budget.ensures.range.0, c.in_ok-budget.ensures.range.1);
      parts = parts;
      names = distinct_names root e rc.channel_names.items (subst (λ m. AllPairs (λ a b. a ≢ b) (names_of (tables_at key.Signal m))) o c.in_ok-signals.ensures.apart) agents names c.in_ok-channels.ensures.apart (subst (λ m. HasGates m) o c.in_ok-gates.ensures.rules);
      limits = within_limits root e s agents (rw same c.in_ok-signals.ensures.few) some (few_channels root s rc.channel_names.items parts names c.in_ok-channels.ensures.few) sig bl se ga;
    }
