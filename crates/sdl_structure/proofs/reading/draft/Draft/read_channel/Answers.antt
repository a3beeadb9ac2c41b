use Rattle.std.proofs.Common.{◌≡◌, true, subst, refl}
use Rattle.sdl_structure_tables.specs.declared.place.Key.TheVariants as key
use Rattle.sdl_structure_tables.specs.Tables.{has_only}
use Rattle.sdl_structure_tables.specs.Walks.{own}
use Rattle.sdl_structure.proofs.ChannelLemmas.{other_names, own_keys, listed_in}
use Rattle.sdl_structure.proofs.reading.draft.Draft.read_channel.Goals as goal

pub new_name-requires : goal.new_name-requires
new_name-requires c = record { here = c.requires.here; listed = listed_in c.args.walk.now key.Name (own_keys c.args.walk.now c.args.scope c.args.self.now c.requires.here c.requires.scope) refl; before = c.requires.before }

pub read_ends-requires-clause-scope : goal.read_ends-requires-clause-scope
read_ends-requires-clause-scope c = other_names _ c.args.scope _ c.args.self.now _ refl c.requires.scope

pub read_signal_list-requires : goal.read_signal_list-requires
read_signal_list-requires c = record {
  here = c.requires.here;
  listed = listed_in c.args.walk.now key.Forth (own_keys c.args.walk.now c.args.scope c.args.self.now c.requires.here c.requires.scope) refl;
  kind = refl;
  signals = rw c.as_slice.ensures.value c.requires.scope.signals.named;
  few = rw c.as_slice.ensures.value c.requires.scope.signals.few;
}

pub read_signal_list-requires-2 : goal.read_signal_list-requires-2
read_signal_list-requires-2 c = record {
  here = c.requires.here;
  listed = listed_in c.args.walk.now key.Back (own_keys c.args.walk.now c.args.scope c.args.self.now c.requires.here c.requires.scope) refl;
  kind = refl;
  signals = rw c.as_slice-2.ensures.value c.requires.scope.signals.named;
  few = rw c.as_slice-2.ensures.value c.requires.scope.signals.few;
}

pub flag-requires : goal.flag-requires
flag-requires c = record { here = c.requires.here; listed = listed_in c.args.walk.now key.Nodelay (own_keys c.args.walk.now c.args.scope c.args.self.now c.requires.here c.requires.scope) refl; kind = refl; free = refl }

pub returns-clause-read : goal.returns-clause-read
returns-clause-read c = record {
  shape = record {
    kinds = (c.in_ok-name.ensures.kind, (c.in_ok-first.ensures.kind, (c.in_ok-forth.ensures.kind, (c.in_ok-back.ensures.kind, (c.in_ok-nodelay.ensures.kind, tt)))));
    others = subst (λ ks. has_only ks (own c.args.walk.now) ≡ true) (own_keys c.args.walk.now c.args.scope c.args.self.now c.requires.here c.requires.scope) c.in_ok-only_known_keys.ensures.ok;
  };
  name = (c.in_ok-name.ensures.held, c.in_ok-name.ensures.legal);
  ends = c.in_ok-first.ensures.read;
  forth = rw c.as_slice.ensures.value at c.in_ok-forth.ensures.read;
  back = rw c.as_slice-2.ensures.value at c.in_ok-back.ensures.read;
  nodelay = c.in_ok-nodelay.ensures.held;
  scope = refl;
}
