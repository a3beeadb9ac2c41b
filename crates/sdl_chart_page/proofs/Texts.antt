-- What holds where a step had memory, and of what is found or not.
use Rattle.std.proofs.Common.{◌≡◌, ap, Vec, Result, Ok, Err, OnOk, Option, None, Some, IfSome, IfNone}

pub on_ok : {E : Type 0} (r : Result (Unit {0}) E) (P Q : Type 0) → (P → Q) → OnOk r P → OnOk r Q
on_ok (Ok x) P Q f p = f p
on_ok (Err e) P Q f p = tt

pub ok_of : {E : Type 0} (r : Result (Unit {0}) E) (P : Type 0) → P → OnOk r P
ok_of (Ok x) P p = p
ok_of (Err e) P p = tt

pub some_then : {X : Type 0} (r : Option X) (P Q : X → Type 0) → ((x : X) → P x → Q x) → IfSome r P → IfSome r Q
some_then None P Q f h = tt
some_then (Some x) P Q f h = f x h

pub none_then : {X : Type 0} (r : Option X) (P Q : Type 0) → (P → Q) → IfNone r P → IfNone r Q
none_then None P Q f h = f h
none_then (Some x) P Q f h = tt

-- equal lists have equal items
pub same_items : {T A : Type 0} (v w : Vec T A) → v ≡ w → v.items ≡ w.items
same_items {T} {A} v w e = ap (λ (x : Vec T A). x.items) e
