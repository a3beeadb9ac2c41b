use Rattle.std.proofs.Common.{rules, arith, ◌≡◌, ◌+◌, length, sym, ap, subst, ◌∙◌, Contains}
use Rattle.toml.specs.Data.{Members}
use Rattle.sdl_listing_file.specs.declared.place.AgentsKey.TheVariants as key
use Rattle.sdl_listing_file.specs.Tables.{tables_at, texts_at}
use Rattle.sdl_listing_file.specs.File.{IsListed, AreSlots, taken}
use Rattle.sdl_listing_file.specs.Walks.{file_of, own}
use Rattle.sdl_listing_file.proofs.TableLemmas.{element, top_is}
use Rattle.sdl_listing_file.proofs.SlotLemmas.{none_listed, none_taken, named_more, named_all}
use Rattle.sdl_listing_file.proofs.reading.read_slots.Goals as goal

pub behaviour-walk-requires : goal.behaviour-walk-requires
behaviour-walk-requires c =
    let e = element key.Behaviour (own c.args.top.now) c.in_ok-behaviours.behaviours.now c.loop-number.number c.index-behaviours-number.result c.in_ok-behaviours.ensures.tables c.in_ok-behaviours.ensures.each c.loop-number-test.true c.index-behaviours-number.is in
    record { here = c.requires.here; part = c.requires.part; table = e.table; there = e.there; within = e.within; few = omega (arith, c.in_ok-behaviours.ensures.few) }

pub loop-number-init : goal.loop-number-init
loop-number-init c = record {
  all = c.in_ok-slots.ensures.all ∙ ap (λ xs. length xs) c.sets.ensures;
  listed = none_listed (IsListed c.args.structure.now c.args.constants.now (own c.args.top.now)) c.in_ok-slots.slots.items c.in_ok-slots.ensures.empty;
  count = none_taken c.in_ok-slots.slots.items c.in_ok-slots.ensures.empty;
}

pub read_behaviour-requires : goal.read_behaviour-requires
read_behaviour-requires c =
    let top = c.args.top.now in
    let walk = c.behaviour-walk.result in
    let v = c.index-behaviours-number.result in
    let root : file_of walk ≡ own top = c.behaviour-walk.ensures.file ∙ sym (top_is top c.requires.here c.requires.part) in
    let e = element key.Behaviour (own top) c.in_ok-behaviours.behaviours.now c.loop-number.number v c.in_ok-behaviours.ensures.tables c.in_ok-behaviours.ensures.each c.loop-number-test.true c.index-behaviours-number.is in
    let among : Contains (tables_at key.Behaviour (own top)) (own walk) = subst (λ (m : Members). Contains (tables_at key.Behaviour (own top)) m) (sym c.behaviour-walk.ensures.table) e.among in
    record {
      here = c.behaviour-walk.ensures.here;
      part = c.behaviour-walk.ensures.part;
      table = subst (λ (m : Members). Contains (tables_at key.Behaviour m) (own walk)) (sym root) among;
      listed = subst (λ (m : Members). AreSlots (IsListed c.args.structure.now c.args.constants.now m) c.loop-number.slots.items) (sym root) c.loop-number.invariant.listed;
    }

pub loop-number-preserved : goal.loop-number-preserved
loop-number-preserved c =
    let top = c.args.top.now in
    let walk = c.behaviour-walk.result in
    let v = c.index-behaviours-number.result in
    let root : file_of walk ≡ own top = c.behaviour-walk.ensures.file ∙ sym (top_is top c.requires.here c.requires.part) in
    record {
      all = c.in_ok-read_behaviour.ensures.all ∙ c.loop-number.invariant.all;
      listed = subst (λ (m : Members). AreSlots (IsListed c.args.structure.now c.args.constants.now m) c.read_behaviour.new.slots.items) root c.in_ok-read_behaviour.ensures.listed;
      count = named_more c.in_ok-behaviours.behaviours.now c.loop-number.number v (taken c.loop-number.slots.items) (taken c.read_behaviour.new.slots.items) c.loop-number-test.true c.index-behaviours-number.is c.loop-number.invariant.count (subst (λ (m : Members). taken c.read_behaviour.new.slots.items ≡ taken c.loop-number.slots.items + length (texts_at key.Sets m)) c.behaviour-walk.ensures.table c.in_ok-read_behaviour.ensures.count);
    }

pub returns-in_err-read_behaviour-clause-fault : goal.returns-in_err-read_behaviour-clause-fault
returns-in_err-read_behaviour-clause-fault c = rw (← c.behaviour-walk.ensures.file) (search rules)

pub returns-clause-count : goal.returns-clause-count
returns-clause-count c = named_all c.in_ok-behaviours.behaviours.now c.loop-number.number _ _ c.in_ok-behaviours.ensures.tables c.loop-number-test.false c.loop-number.invariant.count
