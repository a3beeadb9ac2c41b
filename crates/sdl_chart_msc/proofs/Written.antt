-- What is written one after another.
use Rattle.std.proofs.Common.{◌≡◌, List, ℕ, [], Option, option_map, unwrap_or, subst}
use Rattle.std.specs.Io.KnownBytes.{Appends}
pub use Rattle.sdl_chart_page.proofs.Texts.{on_ok}

-- the text of what is there, by another name of it
pub appends_through : {X : Type 0} (text : X → List ℕ) (o p : Option X) (a b : Option (List ℕ)) → o ≡ p → Appends a b (unwrap_or (option_map text o) []) → Appends a b (unwrap_or (option_map text p) [])
appends_through text o p a b e h = subst (λ q. Appends a b (unwrap_or (option_map text q) [])) e h
