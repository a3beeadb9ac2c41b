-- What is read after one another is spelled together.
use Rattle.std.proofs.Common.{◌≡◌, refl, sym, ◌∙◌, ap, subst, ℕ, List, [], ◌∷◌, ◌++◌, length, append_assoc, append-nil, Some, arith}
use Rattle.sdl_signal.specs.declared.ids.SetId.{SetId}
use Rattle.sdl_listing_tokens.specs.declared.tokens.Token.{Token}
use Rattle.sdl_listing_expression_text.specs.declared.setting.Meanings.{Meanings}
use Rattle.sdl_listing_expression_text.specs.Meanings.{set_named}
use Rattle.sdl_listing_expression_text.specs.Spelling.{IsNameOf, IsSetName, Joined, Reads}
use Rattle.sdl_listing_body_text.specs.Statements.{IsNameThat}

pub reads_as : {P Q : List Token → Type 0} {a b : List Token} → ((ts : List Token) → P ts → Q ts) → Reads P a b → Reads Q a b
reads_as f r = record { front = r.front; split = r.split; spelled = f r.front r.spelled }

pub reads_from : {P : List Token → Type 0} {a b c : List Token} → a ≡ c → Reads P a b → Reads P c b
reads_from d r = record { front = r.front; split = sym d ∙ r.split; spelled = r.spelled }

pub reads_to : {P : List Token → Type 0} {a b c : List Token} → c ≡ b → Reads P a b → Reads P a c
reads_to d r = record { front = r.front; split = r.split ∙ ap (λ (l : List Token). r.front ++ l) (sym d); spelled = r.spelled }

pub reads_then : {P Q : List Token → Type 0} {a b c : List Token} → Reads P a b → Reads Q b c → Reads (Joined P Q) a c
reads_then {c = c} p q = record {
  front = p.front ++ q.front;
  split = p.split ∙ (ap (λ (l : List Token). p.front ++ l) q.split ∙ sym (append_assoc p.front q.front c));
  spelled = (p.front, q.front, refl, p.spelled, q.spelled);
}

-- nothing is read
pub reads_nothing : (P : List Token → Type 0) (a : List Token) → P [] → Reads P a a
reads_nothing P a p = record { front = []; split = refl; spelled = p }

-- all is read
pub reads_all : (P : List Token → Type 0) (a b : List Token) → Reads P a b → length b ≡ 0 → P a
reads_all P a [] r h = subst P (sym (r.split ∙ append-nil r.front)) r.spelled
reads_all P a (t ∷ b) r h = absurd (omega (arith, h))

-- what is read, with a fact
pub reads_and : {X : Type 0} {P : List Token → Type 0} {a b : List Token} → X → Reads P a b → Reads (λ ts. X × P ts) a b
reads_and x r = record { front = r.front; split = r.split; spelled = (x, r.spelled) }

-- a name of which this is so
pub reads_name_that : (P : List ℕ → Type 0) (text : List ℕ) {a b : List Token} → P text → Reads (IsNameOf text) a b → Reads (IsNameThat P) a b
reads_name_that P text p r = record { front = r.front; split = r.split; spelled = (text, r.spelled, p) }

set_name : (m : Meanings) (set : SetId) (text : List ℕ) (ts : List Token) → set_named m.setting.structure.now text ≡ Some set → IsNameOf text ts → IsSetName m set ts
set_name m set text ts h (t, one, k, same) = (t, one, k, ap (λ (x : List ℕ). set_named m.setting.structure.now x) same ∙ h)

pub reads_set : (m : Meanings) (set : SetId) (text : List ℕ) {a b : List Token} → set_named m.setting.structure.now text ≡ Some set → Reads (IsNameOf text) a b
    → Reads (IsSetName m set) a b
reads_set m set text h r = reads_as (λ ts p. set_name m set text ts h p) r

-- the second part in other words
pub joined_as : {P Q R : List Token → Type 0} {ts : List Token} → ((us : List Token) → Q us → R us) → Joined P Q ts → Joined P R ts
joined_as f (front, back, e, p, q) = (front, back, e, p, f back q)

-- the first part in other words
pub joined_first : {P Q R : List Token → Type 0} {ts : List Token} → ((us : List Token) → P us → R us) → Joined P Q ts → Joined R Q ts
joined_first f (front, back, e, p, q) = (front, back, e, f front p, q)
