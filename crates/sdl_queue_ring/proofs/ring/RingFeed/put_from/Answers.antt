use Rattle.std.proofs.Common.{◌≡◌, ◌+◌, [], ◌∷◌, ◌++◌, sym, ap, ◌∙◌, inl, arith}
use Rattle.std.proofs.lemmas.Bool.Decides.{nat_tests}
use Rattle.std.proofs.lemmas.List.{nil_from_length}
use Rattle.rtrb.specs.Ring.{sent}
use Rattle.sdl_queue_ring.specs.Batches.{items_of}
use Rattle.sdl_queue_ring.proofs.Batches.{placed, longer}
use Rattle.sdl_queue_ring.proofs.ring.RingFeed.put_from.Goals as goal

no_backlog : (c : goal.After-self-1) → c.self.inside.backlog.items ≡ []
no_backlog c = nil_from_length c.self.inside.backlog.items (grind (arith, nat_tests, c.if-is_empty.true, c.is_empty.ensures, c.self.inside.backlog.ok.0))

more : (c : goal.After-self-1) → items_of (sent c.push_reserved.new.self) ++ c.self.inside.backlog.items ≡ (items_of (sent c.self.inside.producer) ++ c.self.inside.backlog.items) ++ c.in-Some.item ∷ []
more c = placed (sent c.self.inside.producer) (sent c.is_full.new.self) (sent c.push_reserved.new.self) (record { first = c.in-Some.item; rest = c.new-rest.result }) c.self.inside.backlog.items c.is_full.ensures.looked.1 c.push_reserved.ensures.sent.0 (no_backlog c) c.new-rest.ensures.items

pub invariant_of-self : goal.invariant_of-self
invariant_of-self c =
    (inl (no_backlog c), ap (λ n. n + 1) c.self.invariant.1 ∙ sym (longer (items_of (sent c.self.inside.producer) ++ c.self.inside.backlog.items) _ c.in-Some.item (more c)), omega (arith, c.if-self.false, c.self.invariant.2))

pub returns-then-not-is_full-clause-put : goal.returns-then-not-is_full-clause-put
returns-then-not-is_full-clause-put c = rw (← c.in-Some.ensures.value, c.in-Some.ensures.after) (more c ∙ ap (λ v. v.put ++ c.in-Some.item ∷ []) c.self.view_is)
