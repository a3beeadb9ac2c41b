use Rattle.std.proofs.Common.{rules, arith}
use Rattle.sdl_listing_file.specs.declared.place.AgentsKey.TheVariants as key
use Rattle.sdl_listing_file.specs.File.{bytes_of}
use Rattle.sdl_listing_file.specs.Walks.{own}
use Rattle.sdl_listing_file.proofs.TableLemmas.{element}
use Rattle.sdl_listing_file.proofs.NameLemmas.{seen_group, seen_groups}
use Rattle.sdl_listing_file.proofs.behaviours.states_of.Goals as goal

pub group-requires : goal.group-requires
group-requires c =
    let e = element key.State (own c.args.walk.now) c.args.groups.now c.loop-number.number c.index-groups-number.result c.requires.tables c.requires.each c.loop-number-test.true c.index-groups-number.is in
    record { here = c.requires.here; part = c.requires.part; table = e.table; there = e.there; within = e.within; few = omega arith }

pub loop-number-preserved : goal.loop-number-preserved
loop-number-preserved c = seen_group c.args.groups.now c.loop-number.number c.index-groups-number.result _ (bytes_of c.loop-number.states.items) _ c.loop-number-test.true c.index-groups-number.is c.group.ensures.table c.loop-number.invariant c.in_ok-add_states.ensures.names

pub returns-in_err-add_states-clause-fault : goal.returns-in_err-add_states-clause-fault
returns-in_err-add_states-clause-fault c = rw (← c.group.ensures.file) (search rules)

pub returns-clause-names : goal.returns-clause-names
returns-clause-names c = seen_groups c.args.groups.now c.loop-number.number _ _ c.requires.tables c.loop-number-test.false c.loop-number.invariant
