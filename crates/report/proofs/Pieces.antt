-- A report's text from the pieces that are written one after another.
use Rattle.std.proofs.Common.{◌≡◌, ℕ, List, [], ◌∷◌, ◌++◌, codes, append_assoc}
use Rattle.std.specs.List.{join_with_byte}
use Rattle.report.specs.Reports.{space}

pub accepted_pieces : (w line symbol wrong missing : List ℕ)
    → (((((((w ++ line) ++ codes " ok ") ++ symbol) ++ codes " ") ++ wrong) ++ codes " ") ++ missing) ++ codes "\n"
    ≡ w ++ (join_with_byte space (line ∷ (codes "ok" ∷ (symbol ∷ (wrong ∷ (missing ∷ []))))) ++ codes "\n")
accepted_pieces w line symbol wrong missing = simp append_assoc

pub refused_pieces : (w line number : List ℕ)
    → (((w ++ line) ++ codes " ") ++ number) ++ codes " - - -\n"
    ≡ w ++ (join_with_byte space (line ∷ (number ∷ (codes "-" ∷ (codes "-" ∷ (codes "-" ∷ []))))) ++ codes "\n")
refused_pieces w line number = simp append_assoc
