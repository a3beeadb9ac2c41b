use Rattle.std.proofs.Common.{Ok, ap, inr, refl}
use Rattle.std.specs.Prelude.{⊤}
use Rattle.std.proofs.lemmas.Option.{MatchOption-at_some}
use Rattle.sdl_block.proofs.worker.BlockWorker.admit_kept.Goals as goal

pub returns-in-Ok-clause-pick : goal.returns-in-Ok-clause-pick
returns-in-Ok-clause-pick g c =
    let item = c.in-Some.item in
    inr (record {
      item = item;
      fate = c.in-Ok.field-0;
      log = MatchOption-at_some ⊤ _ item c.in-Some.is c.in-Ok.ensures.log;
      arrives = MatchOption-at_some ⊤ _ item c.in-Some.is c.in-Ok.ensures.arrives;
      picked = λ set p goes none is. MatchOption-at_some ⊤ _ item c.in-Some.is c.in-Ok.ensures.picked set p goes none (ap (λ a. Ok a) is);
    })

pub returns-in-Ok-clause-arrived : goal.returns-in-Ok-clause-arrived
returns-in-Ok-clause-arrived g c =
    let item = c.in-Some.item in (
      item,
      c.in-Some.is,
      record {
        arrival = c.in-Ok.field-0;
        log = MatchOption-at_some ⊤ _ item c.in-Some.is c.in-Ok.ensures.log;
        sound = c.in-Ok.ensures.sound;
        rest = c.in-Ok.ensures.rest;
        hand = (c.in-Ok.ensures.emptied, refl);
      },
    )
