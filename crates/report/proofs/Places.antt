-- Texts that fit a place, and texts that do not.
use Rattle.std.proofs.Common.{◌≡◌, ℕ, ◌<◌, ◌≤◌, cond, List, ◌++◌, length, drop, Some, None, ap}
use Rattle.std.proofs.lemmas.Bool.{le-leb, lt-leb}
use Rattle.report.specs.Written.{placed, count_placed}

pub placed_there : (text place : List ℕ) → length text ≤ length place → (count_placed text place ≡ Some (length text)) × (placed text place ≡ text ++ drop (length text) place)
placed_there text place h =
    let e = le-leb (length text) (length place) h in
    (ap (λ b. cond b (Some (length text)) None) e, ap (λ b. cond b (text ++ drop (length text) place) place) e)

pub not_placed : (text place : List ℕ) → length place < length text → (count_placed text place ≡ None) × (placed text place ≡ place)
not_placed text place h =
    let e = lt-leb (length text) (length place) h in
    (ap (λ b. cond b (Some (length text)) None) e, ap (λ b. cond b (text ++ drop (length text) place) place) e)
