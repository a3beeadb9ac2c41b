-- The edges of channels, and the rows of their lists.
use Rattle.std.proofs.Common.{◌≡◌, ℕ, ◌<◌, ◌≤◌, ◌⊎◌, ⊎_elim, inl, inr, List, [], ◌∷◌, ◌++◌, Option, Result, Ok, Err, OnOk, IsErr, length, refl, sym, ap, ◌∙◌, subst, append_assoc, append-nil, codes, arith}
use Rattle.std.specs.Io.KnownBytes.{Appends, Keeps}
use Rattle.std.proofs.KnownBytes.{Appends-nil, Appends-trans, Appends-kept}
use Rattle.sdl_signal.specs.declared.ids.SignalId.{SignalId}
use Rattle.sdl_structure_parts.specs.declared.parts.Channel.{Channel}
use Rattle.sdl_structure_parts.specs.Structure.{Structure}
use Rattle.sdl_drawing_text.specs.Written.{Adds}
use Rattle.sdl_drawing_text.specs.Dot.{forth_front, back_front, next_front, row_dot, rows_dot, AreCuts, IsListFrom, edge_front, edge_arrows, IsEdge, AreEdges, dot_front, system_dot, IsDot}

-- a list of which nothing is left
pub list_none : (s : Structure) (signals : List SignalId) (before : List ℕ) (from : ℕ) (a : Option (List ℕ)) → from ≤ length signals → length signals ≤ from
    → Adds (IsListFrom s signals before from) a a
list_none s signals before from a h k =
    let end : from ≡ length signals = omega arith in
    ([], ([], end, refl), Appends-nil a)

-- one more row
pub list_more : (s : Structure) (signals : List SignalId) (before two : List ℕ) (from end : ℕ) (a b c : Option (List ℕ)) → two ≡ next_front → from < end
    → Appends a b (row_dot s signals before from end) → Adds (IsListFrom s signals two end) b c → Adds (IsListFrom s signals before from) a c
list_more s signals before two from end a b c is h row (text, (ends, cuts, e), rest) =
    let here : List ℕ = row_dot s signals before from end in
    let same : rows_dot s signals two end ends ≡ rows_dot s signals next_front end ends = ap (λ (t : List ℕ). rows_dot s signals t end ends) is in
    (here ++ text, (end ∷ ends, (h, cuts), ap (λ (l : List ℕ). here ++ l) (e ∙ same)), Appends-trans a b c here text row rest)

-- the edge of a channel
pub edge_is : (s : Structure) (channel : Channel) (forths backs : List SignalId) (a b c d e : Option (List ℕ)) → forths ≡ channel.forth.items → backs ≡ channel.back.items
    → Appends a b (edge_front channel) → Adds (IsListFrom s forths forth_front 0) b c → Adds (IsListFrom s backs back_front 0) c d
    → Appends d e (edge_arrows channel) → Adds (IsEdge s channel) a e
edge_is s channel forths backs a b c d e is_forths is_backs front (forth, is_forth, at_forth) (back, is_back, at_back) arrows =
    let to_forth = Appends-trans a b c (edge_front channel) forth front at_forth in
    let to_back = Appends-trans a c d (edge_front channel ++ forth) back to_forth at_back in
    let whole = Appends-trans a d e (edge_front channel ++ forth ++ back) (edge_arrows channel) to_back arrows in (
      edge_front channel ++ forth ++ back ++ edge_arrows channel,
      (forth, back, subst (λ (l : List SignalId). IsListFrom s l forth_front 0 forth) is_forths is_forth, subst (λ (l : List SignalId). IsListFrom s l back_front 0 back) is_backs is_back, refl),
      whole,
    )

-- one more edge
edges_more : (s : Structure) (cs : List Channel) (c : Channel) (text one : List ℕ) → AreEdges s cs text → IsEdge s c one → AreEdges s (cs ++ c ∷ []) (text ++ one)
edges_more s [] c text one none is = (one, [], is, refl, ap (λ (l : List ℕ). l ++ one) none ∙ sym (append-nil one))
edges_more s (d ∷ ds) c text one (first, rest, is_first, are_rest, e) is =
    (first, rest ++ one, is_first, edges_more s ds c rest one are_rest is, ap (λ (l : List ℕ). l ++ one) e ∙ append_assoc first rest one)

pub edges_next : (s : Structure) (cs all : List Channel) (channel : Channel) (a b c : Option (List ℕ)) → all ≡ cs ++ channel ∷ []
    → Adds (AreEdges s cs) a b → Adds (IsEdge s channel) b c → Adds (AreEdges s all) a c
edges_next s cs all channel a b c same (text, are, so_far) (one, is, this) =
    let more : AreEdges s (cs ++ channel ∷ []) (text ++ one) = edges_more s cs channel text one are is in
    (text ++ one, subst (λ (l : List Channel). AreEdges s l (text ++ one)) (sym same) more, Appends-trans a b c text one so_far this)

pub edges_none : (s : Structure) (a : Option (List ℕ)) → Adds (AreEdges s []) a a
edges_none s a = ([], refl, Appends-nil a)

-- a whole structure
pub dot_is : (s : Structure) (channels : List Channel) (a b c d e : Option (List ℕ)) (last : List ℕ) → channels ≡ s.channels → last ≡ codes "}\n"
    → Appends a b (dot_front s) → Appends b c (system_dot s) → Adds (AreEdges s channels) c d → Appends d e last → Adds (IsDot s) a e
dot_is s channels a b c d e last same is front system (edges, are, at_edges) brace =
    let to_system = Appends-trans a b c (dot_front s) (system_dot s) front system in
    let to_edges = Appends-trans a c d (dot_front s ++ system_dot s) edges to_system at_edges in
    let whole = Appends-trans a d e (dot_front s ++ system_dot s ++ edges) (codes "}\n") to_edges (subst (Appends d e) is brace) in
    (dot_front s ++ system_dot s ++ edges ++ codes "}\n", (edges, subst (λ (l : List Channel). AreEdges s l edges) same are, refl), whole)

-- what was written stands there, or the output had a fault
pub printed : {E : Type 0} (P : List ℕ → Type 0) (r : Result (Unit {0}) E) (old mid new : Option (List ℕ)) (status : ℕ) → OnOk r (Adds P old mid)
    → (status ≡ 0) ⊎ (status ≡ 3) → (IsErr r → status ≡ 3) → Keeps mid new → ((status ≡ 0) × Adds P old new) ⊎ (status ≡ 3)
printed P (Ok x) old mid new status (text, is, at) ends fault kept =
    ⊎_elim (λ (z : status ≡ 0). inl (z, (text, is, Appends-kept old mid new text at kept))) (λ (t : status ≡ 3). inr t) ends
printed P (Err e) old mid new status wrote ends fault kept = inr (fault refl)
