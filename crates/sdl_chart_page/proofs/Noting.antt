-- What is noted of outputs, and what stays noted.
use Rattle.std.proofs.Common.{◌≡◌, ℕ, zero, suc, ◌+◌, ◌-◌, ◌≤◌, length, get_or, take, drop, flat_map, List, [], ◌∷◌, ◌++◌, slice_get, Option, None, Some, refl, ap, sym, ◌∙◌, subst, inl, inr, arith, add-zero}
use Rattle.std.specs.Prelude.{IsSome}
use Rattle.std.proofs.lemmas.List.{take_all}
use Rattle.std.proofs.lemmas.Option.{same_Some, none-some}
use Rattle.sdl_signal.specs.declared.values.Item.{Item}
use Rattle.sdl_signal.specs.declared.values.Origin.{Origin}
use Rattle.sdl_instances_log.specs.declared.event.Done.{Done}
use Rattle.sdl_instances_log.specs.declared.event.Done.TheVariants as done
use Rattle.sdl_instances_log.specs.Log.{sent_by}
use Rattle.sdl_chart_page.specs.declared.page.Spot.{Spot}
use Rattle.sdl_chart_page.specs.declared.page.Standing.{Standing}
use Rattle.sdl_chart_page.specs.declared.page.Standing.TheVariants as place
use Rattle.sdl_chart_page.specs.Origins.{value_at, with_value, GrowsBy}
use Rattle.sdl_chart_page.specs.Pages.{spot_noted, noted_at, StayNoted, IsSameNoted, IsNoted, AreNoted}
use Rattle.sdl_chart_page.proofs.OneMore.{some_of}
use Rattle.sdl_chart_page.proofs.Values.{value_cases, value_other, value_own}

noted_spot : (o : Option Standing) (s : Spot) → spot_noted o ≡ Some s → o ≡ Some (place.Stands s)
noted_spot None s h = absurd (none-some s h)
noted_spot (Some place.Ahead) s h = absurd (none-some s h)
noted_spot (Some (place.Awaited l)) s h = absurd (none-some s h)
noted_spot (Some (place.Stands t)) s h = ap (λ (x : Spot). Some (place.Stands x)) (same_Some t s h)

-- the same is noted
pub no_change : (places : List (List Standing)) → IsSameNoted places places
no_change places = (λ o s e. e, λ o s e. e)

-- what is noted stays where something is said of an output of which nothing is noted
stay_noted : (places : List (List Standing)) (o : Origin) (v : Standing) → noted_at places o ≡ None → StayNoted places (with_value places o v)
stay_noted places o v free p s h =
    elim (value_other places o p v (place.Stands s) (noted_spot (value_at places p) s h)) [
      | inl e ↦ ap spot_noted e
      | inr e ↦ absurd (none-some s (sym free ∙ (ap (noted_at places) (sym e) ∙ h)))
    ]

-- what is noted of an output stays noted
pub some_stays : (old new : List (List Standing)) (o : Origin) → StayNoted old new → IsSome (noted_at old o) → IsSome (noted_at new o)
some_stays old new o stay h =
    let found = some_of (noted_at old o) h in
    subst (λ (x : Option Spot). IsSome x) (sym (stay o found.0 found.1)) refl

-- room that is made notes nothing
noted_grown : (old new : List (List Standing)) (o : Origin) → GrowsBy place.Ahead old new → noted_at new o ≡ noted_at old o
noted_grown old new o grown = elim (grown o) [ inl e ↦ ap spot_noted e | inr e ↦ ap spot_noted e.1 ∙ sym (ap spot_noted e.0) ]

pub same_grown : (old new : List (List Standing)) → GrowsBy place.Ahead old new → IsSameNoted old new
same_grown old new grown = (λ o s e. noted_grown old new o grown ∙ e, λ o s e. sym (noted_grown old new o grown) ∙ e)

-- a list that waits is no spot
pub awaits : (old room new : List (List Standing)) (o : Origin) (l : ℕ) → noted_at old o ≡ None → GrowsBy place.Ahead old room → new ≡ with_value room o (place.Awaited l) → IsSameNoted old new
awaits old room new o l free grown is =
    let still : noted_at room o ≡ None = noted_grown old room o grown ∙ free in
    subst (IsSameNoted old) (sym is) (
      λ p s e. stay_noted room o (place.Awaited l) still p s (noted_grown old room p grown ∙ e),
      λ p s at.
          elim (value_cases room o p (place.Awaited l) (place.Stands s) (noted_spot (value_at (with_value room o (place.Awaited l)) p) s at)) [
            | inl e ↦ sym (noted_grown old room p grown) ∙ ap spot_noted e
            | inr e ↦ (let f : place.Stands s ≡ place.Awaited l = e.1 in cc)
          ],
    )

-- a spot is noted of an output of which nothing is
pub notes_one : (old room new : List (List Standing)) (o : Origin) (spot : Spot) → noted_at old o ≡ None → GrowsBy place.Ahead old room → IsSome (value_at room o)
    → new ≡ with_value room o (place.Stands spot) → IsNoted o spot old new
notes_one old room new o spot free grown there is =
    let still : noted_at room o ≡ None = noted_grown old room o grown ∙ free in
    subst (IsNoted o spot old) (sym is)
    (record {
      stay = λ p s e. stay_noted room o (place.Stands spot) still p s (noted_grown old room p grown ∙ e);
      came = λ p s at.
          elim (value_cases room o p (place.Stands spot) (place.Stands s) (noted_spot (value_at (with_value room o (place.Stands spot)) p) s at)) [
            | inl e ↦ inl (sym (noted_grown old room p grown) ∙ ap spot_noted e)
            | inr e ↦ inr (e.0, (let f : place.Stands s ≡ place.Stands spot = e.1 in cc))
          ];
      own = subst (λ (x : Option Standing). IsSome (spot_noted x)) (sym (value_own room o (place.Stands spot) there)) refl;
    })

pub notes_none : (places new : List (List Standing)) (o : Origin) (spot : Spot) → new ≡ places → IsSome (noted_at places o) → IsNoted o spot places new
notes_none places new o spot is there = subst (IsNoted o spot places) (sym is) (record { stay = λ p s e. e; came = λ p s e. inl e; own = there })

-- nothing is sent, and nothing noted
pub none_noted : (row among : ℕ) (places : List (List Standing)) → AreNoted row among [] places places
none_noted row among places = record { stay = λ o s e. e; came = λ o s e. inl e; all = λ k i e. absurd (none-some i e) }

-- all items are noted where the first is, and the others were before
all_noted : (i : Item) (more : List Item) (between new : List (List Standing)) → StayNoted between new → IsSome (noted_at new i.origin)
    → ((k : ℕ) (j : Item) → slice_get more k ≡ Some j → IsSome (noted_at between j.origin)) → (k : ℕ) (j : Item) → slice_get (i ∷ more) k ≡ Some j → IsSome (noted_at new j.origin)
all_noted i more between new stay own rest zero j at = subst (λ (x : Item). IsSome (noted_at new x.origin)) (same_Some i j at) own
all_noted i more between new stay own rest (suc k) j at = some_stays between new j.origin stay (rest k j at)

-- the spot of one item is noted, after those of the others
pub one_noted : (row among : ℕ) (more : List Item) (i : Item) (old between new : List (List Standing)) → AreNoted row (among + 1) more old between
    → IsNoted i.origin (record { row = row; among = among }) between new → AreNoted row among (i ∷ more) old new
one_noted row among more i old between new rest one =
    record {
      stay = λ o s e. one.stay o s (rest.stay o s e);
      came = λ o s e.
          elim (one.came o s e) [
            | inl f ↦
                elim (rest.came o s f) [
                  | inl g ↦ inl g
                  | inr g ↦ inr (record {
                    index = suc g.index;
                    item = g.item;
                    in_row = g.in_row;
                    at_place = (let at = g.at_place in omega (arith, at));
                    sends = g.sends;
                    same = g.same;
                  })
                ]
            | inr f ↦ inr (record {
              index = 0;
              item = i;
              in_row = ap (λ (x : Spot). x.row) f.1;
              at_place = ap (λ (x : Spot). x.among) f.1 ∙ sym (add-zero among);
              sends = refl;
              same = sym f.0;
            })
          ];
      all = all_noted i more between new one.stay one.own rest.all;
    }

-- the items of a turn that sent one first
pub sent_first : (all : List Done) (first : Done) (item : Item) → 1 ≤ length all → first ≡ get_or all 0 first → first ≡ done.Sent item → flat_map sent_by all ≡ item ∷ flat_map sent_by (take (length all - 1) (drop 1 all))
sent_first [] first item long at is = absurd (omega (arith, long))
sent_first (d ∷ ds) first item long at is =
    ap (λ (x : Done). sent_by x ++ flat_map sent_by ds) (sym at ∙ is)
    ∙ ap (λ (l : List Done). item ∷ flat_map sent_by l) (sym (take_all (length (d ∷ ds) - 1) ds (omega arith)))
