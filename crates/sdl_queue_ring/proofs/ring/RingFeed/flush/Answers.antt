use Rattle.std.proofs.Common.{◌≡◌, [], ◌∷◌, ◌++◌, length, sym, ap, ◌∙◌, inl, arith}
use Rattle.std.proofs.lemmas.List.{nil_from_length}
use Rattle.rtrb.specs.Ring.{sent}
use Rattle.sdl_queue_ring.specs.Batches.{items_of}
use Rattle.sdl_queue_ring.proofs.Batches.{flushed}
use Rattle.sdl_queue_ring.proofs.ring.RingFeed.flush.Goals as goal
use Rattle.sdl_queue_ring.proofs.ring.RingFeed.flush.Goals.{After-push_reserved}

none_behind : (c : After-push_reserved) → c.pop_front.new.self.items ≡ []
none_behind c = nil_from_length c.pop_front.new.self.items (omega (arith, c.if-len-eq1.true, c.len.ensures, c.self.inside.backlog.ok.0, ap length c.in-Some.ensures.items))

same_one : (c : After-push_reserved) → items_of (sent c.push_reserved.new.self) ++ c.pop_front.new.self.items ≡ items_of (sent c.self.inside.producer) ++ c.self.inside.backlog.items
same_one c = flushed (sent c.self.inside.producer) (sent c.is_full.new.self) (sent c.push_reserved.new.self) (record { first = c.in-Some.one; rest = c.new-rest.result }) c.self.inside.backlog.items c.pop_front.new.self.items c.is_full.ensures.looked.1 c.push_reserved.ensures.sent.0 (none_behind c)
    (c.in-Some.ensures.items ∙ ap (λ l. c.in-Some.one ∷ l) (none_behind c ∙ sym c.new-rest.ensures.items))

pub invariant_of-self-then-len-eq1 : goal.invariant_of-self-then-len-eq1
invariant_of-self-then-len-eq1 c = (inl (none_behind c), c.self.invariant.1 ∙ sym (ap length (same_one c)), c.self.invariant.2)

pub returns-then-len-eq1-clause-put : goal.returns-then-len-eq1-clause-put
returns-then-len-eq1-clause-put c = same_one c ∙ ap (λ v. v.put) c.self.view_is

none_left : (c : goal.After-push_reserved-2) → c.replace-rest.new.dest.items ≡ []
none_left c = ap (λ q. q.items) c.replace-rest.ensures.after ∙ c.new.ensures.items

same : (c : goal.After-push_reserved-2) → items_of (sent c.push_reserved-2.new.self) ++ c.replace-rest.new.dest.items ≡ items_of (sent c.self.inside.producer) ++ c.self.inside.backlog.items
same c = flushed (sent c.self.inside.producer) (sent c.is_full.new.self) (sent c.push_reserved-2.new.self) (record { first = c.in-Some-pop_front.first; rest = c.pop_front-2.new.self }) c.self.inside.backlog.items c.replace-rest.new.dest.items c.is_full.ensures.looked.1 c.push_reserved-2.ensures.sent.0 (none_left c) (sym (ap (λ q. q.items) c.replace-rest.ensures.value) ∙ c.in-Some-pop_front.ensures.items)

pub invariant_of-self-2 : goal.invariant_of-self-2
invariant_of-self-2 c = (inl (none_left c), c.self.invariant.1 ∙ sym (ap length (same c)), c.self.invariant.2)

pub returns-clause-put : goal.returns-clause-put
returns-clause-put c = same c ∙ ap (λ v. v.put) c.self.view_is
