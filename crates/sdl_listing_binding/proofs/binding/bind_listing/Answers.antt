use Rattle.std.proofs.Common.{◌∙◌, map, ap, sym, subst}
use Rattle.std.specs.List.{AllByRecursion}
use Rattle.std.proofs.lemmas.List.Elements.{All-from_recursion}
use Rattle.sdl_structure_parts.specs.Structure.{Structure}
use Rattle.sdl_transition_behaviour.specs.Transitions.{IsAllowed}
use Rattle.sdl_transition.specs.Bound.{blocks_of}
use Rattle.sdl_transition.specs.Blocks.{AreDistributed}
use Rattle.sdl_listing_binding.specs.Parts.{transition_parts}
use Rattle.sdl_listing_binding.proofs.Listed.{parts_listed, behaviours_allowed}
use Rattle.sdl_listing_binding.proofs.binding.bind_listing.Goals as goal

pub bind-requires-clause-allowed : goal.bind-requires-clause-allowed
bind-requires-clause-allowed g c =
    All-from_recursion _ _ (behaviours_allowed g.S.Agents.may c.in_ok-behaviours.behaviours.items
    (subst (AllByRecursion (IsAllowed g.S.Agents.may)) (sym c.in_ok-behaviours.ensures.taken) c.requires.allowed))

pub returns-in-Ok-clause-behaviours : goal.returns-in-Ok-clause-behaviours
returns-in-Ok-clause-behaviours g c = λ sets heads own.
    let bound = c.in-Ok.bound in
    let behaviours = c.in_ok-behaviours.behaviours.items in
    let parts = parts_listed behaviours 0 sets (c.in_ok-behaviours.ensures.heads ∙ heads) c.in_ok-behaviours.ensures.by_offer
    (ap (map transition_parts) c.in_ok-behaviours.ensures.taken ∙ own) in
    record {
      behaviours = behaviours;
      parts_are = parts;
      distributed = subst (λ (s : Structure). AreDistributed s behaviours (blocks_of bound)) (sym c.in-Ok.ensures.structure) c.in-Ok.ensures.behaviours;
    }
