-- Workers come back, one behind the other.
use Rattle.std.proofs.Common.{◌≡◌, ℕ, suc, ◌+◌, ◌<◌, ◌≤◌, List, [], ◌∷◌, ◌++◌, Option, Some, None, All, length, get_or, refl, sym, ap, ◌∙◌, subst, append-nil, length-append, arith}
use Rattle.std.proofs.Math.ListN.{get_or-append}
use Rattle.std.specs.List.{AllZip, remove}
use Rattle.std.specs.Prelude.{slice_index_or, IfSome, IfNone}
use Rattle.std.proofs.lemmas.List.{append_assoc}
use Rattle.std.proofs.lemmas.Slice.Zip.{all_zipped_more}
use Rattle.sdl_run_threads.specs.declared.work.Returned.{Returned}
use Rattle.sdl_run_threads.specs.Back.{HaveCome, StartsLast, IsUnderWay}

-- what holds of all holds of all but the last
pub others : {A : Type 0} (P : A → Type 0) (all rest : List A) (x : A) → all ≡ rest ++ x ∷ [] → All P all → All P rest
others P all rest x e h = λ k d low.
    let inside : k < length all = omega (arith, low, ap length e ∙ length-append rest (x ∷ [])) in
    subst P (ap (λ l. get_or l k d) e ∙ get_or-append rest (x ∷ []) d k low) (h k d inside)

pub same_length : {A B : Type 0} (R : A → B → Type 0) (xs : List A) (ys : List B) → AllZip R xs ys → length ys ≡ length xs
same_length R [] [] h = refl
same_length R [] (y ∷ ys) h = absurd h
same_length R (x ∷ xs) [] h = absurd h
same_length R (x ∷ xs) (y ∷ ys) h = ap suc (same_length R xs ys h.1)

-- a list without one of its elements
pub without : {A : Type 0} (before after : List A) (x : A) → remove ((before ++ x ∷ []) ++ after) (length before) ≡ before ++ after
without [] after x = refl
without (y ∷ before) after x = ap (λ l. y ∷ l) (without before after x)

pub that_one : {A : Type 0} (before after : List A) (x d : A) → slice_index_or ((before ++ x ∷ []) ++ after) (length before) d ≡ x
that_one [] after x d = refl
that_one (y ∷ before) after x d = that_one before after x d

module _ {W : Type 0} (comes : W → Returned W → Type 0) where
  pub none_came : (before : List (Returned W)) → HaveCome comes [] before before
  none_came before = record { backs = []; behind = sym (append-nil before); each = tt }

  -- where the last worker is in a thread, there is room for it when it comes
  pub has_room : {T : Type 0} (runs : W → T → Type 0) (workers rest : List W) (before started come : List (Returned W)) (thread : Option T) → StartsLast runs comes workers rest before started thread → HaveCome comes rest started come
      → (room : ℕ) → length workers + length before ≤ room → IfSome thread (λ t. length come < room)
  has_room runs workers rest before started come None starts others room enough = tt
  has_room runs workers rest before started come (Some t) starts others room enough =
      let a : length workers ≡ length rest + 1 = ap length starts.last ∙ length-append rest (starts.worker ∷ []) in
      let b : length others.backs ≡ length rest = same_length comes rest others.backs others.each in
      let d : length come ≡ length before + length others.backs = ap length (others.behind ∙ ap (λ l. l ++ others.backs) starts.way.0) ∙ length-append before others.backs in
      omega (arith, a, b, d, enough)

  module _ {T : Type 0} (runs : W → T → Type 0) (from : T → Returned W → Type 0) (kept : (w : W) (t : T) (b : Returned W) → runs w t → from t b → comes w b) where
    one_more : (rest : List W) (w : W) (before started come after : List (Returned W)) (thread : Option T) → IsUnderWay runs comes w before started thread → HaveCome comes rest started come
        → IfSome thread (λ t. (b : Returned W) × (after ≡ come ++ b ∷ []) × from t b)
        → IfNone thread ((b : Returned W) × (b ≡ slice_index_or come (length before) b) × (after ≡ remove come (length before) ++ b ∷ []))
        → HaveCome comes (rest ++ w ∷ []) before after
    one_more rest w before started come after (Some t) way others joined moved =
        record {
          backs = others.backs ++ joined.0 ∷ [];
          behind = joined.1 ∙ ap (λ l. l ++ joined.0 ∷ []) (others.behind ∙ ap (λ l. l ++ others.backs) way.0) ∙ append_assoc before others.backs (joined.0 ∷ []);
          each = all_zipped_more comes rest others.backs w joined.0 others.each (kept w t joined.0 way.1 joined.2);
        }
    one_more rest w before started come after None way others joined moved =
        let whole : come ≡ (before ++ way.0 ∷ []) ++ others.backs = others.behind ∙ ap (λ l. l ++ others.backs) way.1 in
        let one : moved.0 ≡ way.0 = moved.1 ∙ ap (λ l. slice_index_or l (length before) moved.0) whole ∙ that_one before others.backs way.0 moved.0 in
        record {
          backs = others.backs ++ way.0 ∷ [];
          behind = moved.2 ∙ ap (λ l. l ++ moved.0 ∷ []) (ap (λ l. remove l (length before)) whole ∙ without before others.backs way.0) ∙ ap (λ b. (before ++ others.backs) ++ b ∷ []) one ∙ append_assoc before others.backs (way.0 ∷ []);
          each = all_zipped_more comes rest others.backs w way.0 others.each way.2;
        }

    pub last_came : (workers rest : List W) (before started come after : List (Returned W)) (thread : Option T) (place : ℕ) → place ≡ length before → StartsLast runs comes workers rest before started thread
        → HaveCome comes rest started come
        → IfSome thread (λ t. (b : Returned W) × (after ≡ come ++ b ∷ []) × from t b)
        → IfNone thread ((b : Returned W) × (b ≡ slice_index_or come place b) × (after ≡ remove come place ++ b ∷ []))
        → HaveCome comes workers before after
    last_came workers rest before started come after thread place at starts others joined moved =
        subst (λ ws. HaveCome comes ws before after) (sym starts.last)
        (one_more rest starts.worker before started come after thread starts.way others joined
        (subst (λ p. IfNone thread ((b : Returned W) × (b ≡ slice_index_or come p b) × (after ≡ remove come p ++ b ∷ []))) at moved))

  -- where nobody was there before
  pub all_came : (workers : List W) (after : List (Returned W)) → HaveCome comes workers [] after → AllZip comes workers after
  all_came workers after h = subst (AllZip comes workers) (sym h.behind) h.each

-- what holds of each two, and so each of its parts
pub each_so : {A B : Type 0} (R S : A → B → Type 0) → ((x : A) (y : B) → R x y → S x y) → (xs : List A) (ys : List B) → AllZip R xs ys → AllZip S xs ys
each_so R S f [] [] h = tt
each_so R S f [] (y ∷ ys) h = absurd h
each_so R S f (x ∷ xs) [] h = absurd h
each_so R S f (x ∷ xs) (y ∷ ys) h = (f x y h.0, each_so R S f xs ys h.1)
