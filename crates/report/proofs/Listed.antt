-- A list of marks, written mark by mark.
use Rattle.std.proofs.Common.{◌≡◌, ℕ, ◌+◌, ◌<◌, List, [], ◌∷◌, ◌++◌, map, length, get_or, drop, sym, ap, ◌∙◌, append_assoc}
use Rattle.std.proofs.lemmas.List.{append-nil, drop_more}
use Rattle.report.specs.Reports.{Mark, mark_of, comma, mark_text, marks_text}

-- the marks after the first, each after a comma
abbrev pub others_text : List Mark → List ℕ
others_text [] = []
others_text (m ∷ ms) = comma ∷ (mark_text m ++ others_text ms)

first_then : (m : Mark) (ms : List Mark) → marks_text (m ∷ ms) ≡ mark_text m ++ others_text ms
first_then m [] = sym (append-nil (mark_text m))
first_then m (n ∷ ms) = ap (λ l. mark_text m ++ (comma ∷ l)) (first_then n ms)

-- the text of the marks from mark i on
abbrev pub from : ℕ → List ℕ → ℕ → List ℕ
from q ts i = others_text (map (mark_of q) (drop i ts))

pub from_more : (q : ℕ) (ts : List ℕ) (i : ℕ) → i < length ts → from q ts i ≡ comma ∷ (mark_text (mark_of q (get_or ts i 0)) ++ from q ts (i + 1))
from_more q ts i h = ap (λ l. others_text (map (mark_of q) l)) (drop_more ts i 0 h)

-- the first mark is written
pub begun : (q t : ℕ) (ts all w y : List ℕ) → t ∷ ts ≡ all → y ≡ w ++ mark_text (mark_of q t) → y ++ from q ts 0 ≡ w ++ marks_text (map (mark_of q) all)
begun q t ts all w y a p =
    ap (λ l. l ++ from q ts 0) p
    ∙ append_assoc w (mark_text (mark_of q t)) (from q ts 0)
    ∙ ap (λ l. w ++ l) (sym (first_then (mark_of q t) (map (mark_of q) ts)))
    ∙ ap (λ l. w ++ marks_text (map (mark_of q) l)) a
