-- The names of states, as they first appear.
use Rattle.std.proofs.Common.{◌≡◌, ℕ, ◌+◌, ◌<◌, ◌≤◌, true, false, ◌||◌, List, [], ◌∷◌, ◌++◌, length, take, get_or, map, refl, sym, ap, ◌∙◌, bytes_eq}
use Rattle.std.proofs.lemmas.List.{map_push}
use Rattle.std.specs.Prelude.{filter_map}
use Rattle.std.specs.List.{list_any}
use Rattle.std.proofs.lemmas.List.Elements.{filter_map-append}
use Rattle.arrayvec.specs.ArrayString.{ArrayString}
use Rattle.toml.specs.Data.{Members}
use Rattle.toml.specs.declared.value.Value.{Value}
use Rattle.sdl_signal.specs.declared.ids.StateId.{StateId}
use Rattle.sdl_listing_expression_text.specs.declared.setting.Setting.{Setting}
use Rattle.sdl_listing_expression_text.specs.Meanings.{state_named}
use Rattle.sdl_listing_file.specs.declared.place.AgentsKey.TheVariants as key
use Rattle.sdl_listing_file.specs.Tables.{texts_at, text_of, table_in}
use Rattle.sdl_listing_file.specs.File.{bytes_of, has_name, with_name, first_seen, names_in}
use Rattle.sdl_listing_file.proofs.ListLemmas.{take_map_more, take_map_all, flat_map-one}

any_name : (states : List ArrayString) (text : List ℕ) → has_name (bytes_of states) text ≡ list_any (λ n. bytes_eq n.bytes text) states
any_name [] text = refl
any_name (s ∷ states) text = ap (λ b. bytes_eq s.bytes text || b) (any_name states text)

-- a state that is there, and one that is not
pub name_there : (states : List ArrayString) (text : List ℕ) → list_any (λ n. bytes_eq n.bytes text) states ≡ true → bytes_of states ≡ with_name (bytes_of states) text
name_there states text is =
    let there : has_name (bytes_of states) text ≡ true = any_name states text ∙ is in
    rw there refl

pub name_added : (states new : List ArrayString) (n : ArrayString) (text : List ℕ) → list_any (λ n. bytes_eq n.bytes text) states ≡ false → n.bytes ≡ text → new ≡ states ++ n ∷ []
    → bytes_of new ≡ with_name (bytes_of states) text
name_added states new n text none same e =
    let apart : has_name (bytes_of states) text ≡ false = any_name states text ∙ none in
    let whole : bytes_of new ≡ bytes_of states ++ text ∷ [] = ap (λ l. bytes_of l) e ∙ (map_push (λ (x : ArrayString). x.bytes) states n ∙ ap (λ t. bytes_of states ++ t ∷ []) same) in
    rw apart whole

seen_more : (before xs ys : List (List ℕ)) → first_seen before (xs ++ ys) ≡ first_seen (first_seen before xs) ys
seen_more before [] ys = refl
seen_more before (x ∷ xs) ys = seen_more (with_name before x) xs ys

-- one more name of a group
pub seen_name : (before : List (List ℕ)) (vs : List Value) (i : ℕ) (v : Value) (names now : List (List ℕ)) (text : List ℕ) → i < length vs → v ≡ get_or vs i v → text ≡ text_of v
    → names ≡ first_seen before (take i (map text_of vs)) → now ≡ with_name names text → now ≡ first_seen before (take (i + 1) (map text_of vs))
seen_name before vs i v names now text h is read so_far added =
    let whole : first_seen before (take (i + 1) (map text_of vs)) ≡ with_name (first_seen before (take i (map text_of vs))) (text_of v) =
    ap (λ l. first_seen before l) (take_map_more text_of vs i v h is) ∙ seen_more before (take i (map text_of vs)) (text_of v ∷ []) in
    added ∙ (ap (λ t. with_name names t) read ∙ (ap (λ ns. with_name ns (text_of v)) so_far ∙ sym whole))

pub seen_names : (before : List (List ℕ)) (vs : List Value) (i : ℕ) (names texts : List (List ℕ)) → texts ≡ map text_of vs → length vs ≤ i → names ≡ first_seen before (take i (map text_of vs))
    → names ≡ first_seen before texts
seen_names before vs i names texts held past so_far = so_far ∙ ap (λ l. first_seen before l) (take_map_all text_of vs i past ∙ sym held)

-- one more group
pub seen_group : (vs : List Value) (i : ℕ) (v : Value) (group : Members) (names now : List (List ℕ)) → i < length vs → v ≡ get_or vs i v → group ≡ table_in v
    → names ≡ first_seen [] (names_in (take i (map table_in vs))) → now ≡ first_seen names (texts_at key.Names group) → now ≡ first_seen [] (names_in (take (i + 1) (map table_in vs)))
seen_group vs i v group names now h is same so_far added =
    let texts : List (List ℕ) = texts_at key.Names (table_in v) in
    let all : List (List ℕ) = names_in (take i (map table_in vs)) in
    let whole : names_in (take (i + 1) (map table_in vs)) ≡ all ++ texts = ap (λ l. names_in l) (take_map_more table_in vs i v h is) ∙ flat_map-one (λ g. texts_at key.Names g) (take i (map table_in vs)) (table_in v) in
    added ∙ (ap (λ g. first_seen names (texts_at key.Names g)) same ∙ (ap (λ ns. first_seen ns texts) so_far ∙ sym (ap (λ l. first_seen [] l) whole ∙ seen_more [] all texts)))

pub seen_groups : (vs : List Value) (i : ℕ) (names : List (List ℕ)) (groups : List Members) → groups ≡ map table_in vs → length vs ≤ i → names ≡ first_seen [] (names_in (take i (map table_in vs)))
    → names ≡ first_seen [] (names_in groups)
seen_groups vs i names groups held past so_far = so_far ∙ ap (λ l. first_seen [] (names_in l)) (take_map_all table_in vs i past ∙ sym held)

-- one more of the states of a group
pub found_more : (s : Setting) (vs : List Value) (i : ℕ) (v : Value) (text : List ℕ) (found now : List StateId) → i < length vs → v ≡ get_or vs i v → text ≡ text_of v
    → found ≡ filter_map (λ t. state_named s t) (take i (map text_of vs)) → now ≡ found ++ filter_map (λ t. state_named s t) (text ∷ [])
    → now ≡ filter_map (λ t. state_named s t) (take (i + 1) (map text_of vs))
found_more s vs i v text found now h is read so_far added =
    let names : List (List ℕ) = take i (map text_of vs) in
    let whole : filter_map (λ t. state_named s t) (take (i + 1) (map text_of vs)) ≡ filter_map (λ t. state_named s t) names ++ filter_map (λ t. state_named s t) (text_of v ∷ []) =
    ap (λ l. filter_map (λ t. state_named s t) l) (take_map_more text_of vs i v h is) ∙ filter_map-append (λ t. state_named s t) names (text_of v ∷ []) in
    added ∙ (ap (λ t. found ++ filter_map (λ t. state_named s t) (t ∷ [])) read ∙ (ap (λ l. l ++ filter_map (λ t. state_named s t) (text_of v ∷ [])) so_far ∙ sym whole))

pub found_all : (s : Setting) (vs : List Value) (i : ℕ) (found : List StateId) (texts : List (List ℕ)) → texts ≡ map text_of vs → length vs ≤ i
    → found ≡ filter_map (λ t. state_named s t) (take i (map text_of vs)) → found ≡ filter_map (λ t. state_named s t) texts
found_all s vs i found texts held past so_far = so_far ∙ ap (λ l. filter_map (λ t. state_named s t) l) (take_map_all text_of vs i past ∙ sym held)
