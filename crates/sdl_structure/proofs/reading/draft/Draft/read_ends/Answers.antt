use Rattle.std.proofs.Common.{rules, arith, ◌≡◌, ◌<◌, length, false, true, subst, sym, refl}
use Rattle.toml.specs.View.{view}
use Rattle.sdl_structure_tables.specs.declared.place.Key.TheVariants as key
use Rattle.sdl_structure_tables.specs.Tables.{is_text}
use Rattle.sdl_structure.specs.File.{NamesEnd}
use Rattle.sdl_structure.proofs.ChannelLemmas.{own_keys, listed_in, two_ends, bad_end, unknown_end, refuted}
use Rattle.sdl_structure.proofs.reading.draft.Draft.read_ends.Goals as goal

pub texts-requires : goal.texts-requires
texts-requires c = record { here = c.requires.here; listed = listed_in c.args.walk.now key.Ends (own_keys c.args.walk.now c.args.scope c.args.self.now c.requires.here c.requires.scope) refl; texts = refl }

pub returns-in-Some-end_of-clause-read : goal.returns-in-Some-end_of-clause-read
returns-in-Some-end_of-clause-read c =
    let vs = c.in_ok-texts.texts.now in
    let two : length vs ≡ 2 = omega arith in
    rw c.in_ok-texts.ensures.held (two_ends (NamesEnd c.args.self.now.blocks.items c.args.self.now.sets.items c.args.self.now.gates.items c.args.scope) vs c.index-texts-0-2.result c.index-texts-1-in-Some.result c.in-Some.first c.in-Some-end_of.second two c.index-texts-0-2.is c.index-texts-1-in-Some.is c.in-Some.ensures.found c.in-Some-end_of.ensures.found)

pub returns-then-not-has_one_dot-clause-fault : goal.returns-then-not-has_one_dot-clause-fault
returns-then-not-has_one_dot-clause-fault c =
    let vs = c.in_ok-texts.texts.now in
    let h : 0 < length vs = omega arith in
    let no : c.has_one_dot.result ≡ false = search rules in
    let v = c.index-texts-0.result in
    bad_end _ _ vs 0 v c.requires.here (own_keys c.args.walk.now c.args.scope c.args.self.now c.requires.here c.requires.scope) c.at-then-not-has_one_dot.ensures c.in_ok-texts.ensures.held h c.index-texts-0.is (subst (λ u. is_text (view u) ≡ true) (sym c.index-texts-0.is) (c.in_ok-texts.ensures.each 0 v h)) (refuted c.has_one_dot.result _ c.has_one_dot.ensures no)

pub returns-then-not-has_one_dot-2-clause-fault : goal.returns-then-not-has_one_dot-2-clause-fault
returns-then-not-has_one_dot-2-clause-fault c =
    let vs = c.in_ok-texts.texts.now in
    let h : 1 < length vs = omega arith in
    let no : c.has_one_dot-2.result ≡ false = search rules in
    let v = c.index-texts-1.result in
    bad_end _ _ vs 1 v c.requires.here (own_keys c.args.walk.now c.args.scope c.args.self.now c.requires.here c.requires.scope) c.at-then-not-has_one_dot-2.ensures c.in_ok-texts.ensures.held h c.index-texts-1.is (subst (λ u. is_text (view u) ≡ true) (sym c.index-texts-1.is) (c.in_ok-texts.ensures.each 1 v h)) (refuted c.has_one_dot-2.result _ c.has_one_dot-2.ensures no)

pub returns-in-None-clause-fault : goal.returns-in-None-clause-fault
returns-in-None-clause-fault c =
    let vs = c.in_ok-texts.texts.now in
    let h : 0 < length vs = omega arith in
    unknown_end _ _ c.args.scope c.args.self.now vs 0 c.index-texts-0-2.result c.requires.here c.requires.scope c.at-in-None.ensures c.in_ok-texts.ensures.held h c.index-texts-0-2.is c.in-None.ensures.none

pub returns-in-None-end_of-clause-fault : goal.returns-in-None-end_of-clause-fault
returns-in-None-end_of-clause-fault c =
    let vs = c.in_ok-texts.texts.now in
    let h : 1 < length vs = omega arith in
    unknown_end _ _ c.args.scope c.args.self.now vs 1 c.index-texts-1-in-Some.result c.requires.here c.requires.scope c.at-in-None-end_of.ensures c.in_ok-texts.ensures.held h c.index-texts-1-in-Some.is c.in-None-end_of.ensures.none
