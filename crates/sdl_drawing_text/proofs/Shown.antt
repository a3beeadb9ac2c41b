-- A structure of a file that was shown.
use Rattle.std.proofs.Common.{◌≡◌, ℕ, ◌⊎◌, ⊎_elim, inl, inr, List, Option, Result, Ok, Err, OnOk, IsErr, refl, subst}
use Rattle.std.specs.Io.KnownBytes.{Appends, Keeps}
use Rattle.std.proofs.KnownBytes.{Appends-kept}
use Rattle.sdl_app_file_commands.specs.Commands.{HasPrinted}
use Rattle.sdl_structure_parts.specs.Structure.{Structure}
use Rattle.sdl_app_file_commands.specs.Files.{Declares}
use Rattle.sdl_drawing_text.specs.declared.commands.Form.{Form}
use Rattle.sdl_drawing_text.specs.Commands.{HasShown, IsShown}

pub shown : (f : Form) (file : List ℕ) (checked s : Structure) (old new : Option (List ℕ)) (status : ℕ) → s ≡ checked → Declares file checked
    → (status ≡ 1) ⊎ HasShown f s old new status → IsShown f file old new status
shown f file checked s old new status e declared told =
    ⊎_elim (λ (r : status ≡ 1). inl r) (λ (h : HasShown f s old new status). inr (checked, declared, subst (λ (x : Structure). HasShown f x old new status) e h)) told

-- a text that was written stands there, or the output had a fault
pub printed_text : {E : Type 0} (text : List ℕ) (r : Result (Unit {0}) E) (old mid new : Option (List ℕ)) (status : ℕ) → OnOk r (Appends old mid text)
    → (status ≡ 0) ⊎ (status ≡ 3) → (IsErr r → status ≡ 3) → Keeps mid new → HasPrinted old new text status
printed_text text (Ok x) old mid new status wrote ends fault kept =
    ⊎_elim (λ (z : status ≡ 0). inl (z, Appends-kept old mid new text wrote kept)) (λ (t : status ≡ 3). inr t) ends
printed_text text (Err e) old mid new status wrote ends fault kept = inr (fault refl)
