-- No two polynomials are near to the same points.
use Rattle.std.proofs.Common.{◌≡◌, ℕ, zero, suc, ◌+◌, ◌<◌, ◌≤◌, Bool, true, false, cond, ◌&&◌, ◌≢◌, List, [], ◌∷◌, length, take, sym, ◌∙◌, arith}
use Rattle.std.proofs.lemmas.List.{length-take-le}
use Rattle.std.proofs.ByRecursion.{All-take}
use Rattle.std.proofs.lemmas.Bool.{and_parts, eqb-true}
use Rattle.field.specs.Algebra.{Algebra, Lawful, Ops, ops}
use Rattle.poly.specs.Poly.{eval, Distinct}
use Rattle.poly.proofs.Transfer.{unique_codes}
use Rattle.decode.specs.Near.{through, misses, picked, Points, Near}
use Rattle.decode.proofs.Picked.{picked_all, picked_apart}

distinct_take : (n : ℕ) (xs : List ℕ) → Distinct xs → Distinct (take n xs)
distinct_take zero xs h = tt
distinct_take (suc n) [] h = tt
distinct_take (suc n) (x ∷ xs) h = (All-take (λ s. s ≢ x) n xs h.0, distinct_take n xs h.1)

-- the points that lie on both
abbrev on_both : Ops ℕ → List ℕ → List ℕ → ℕ × ℕ → Bool
on_both o g h p = through o g p && through o h p

many_on_both : (o : Ops ℕ) (g h : List ℕ) (ps : List (ℕ × ℕ)) → length ps ≤ length (picked (on_both o g h) ps) + misses o g ps + misses o h ps
many_on_both o g h [] = omega arith
many_on_both o g h (p ∷ ps) = go (many_on_both o g h ps) (through o g p) (through o h p)
  where
    go : length ps ≤ length (picked (on_both o g h) ps) + misses o g ps + misses o h ps → (a b : Bool)
        → suc (length ps) ≤ length (cond (a && b) (p.0 ∷ picked (on_both o g h) ps) (picked (on_both o g h) ps)) + cond a (misses o g ps) (suc (misses o g ps)) + cond b (misses o h ps) (suc (misses o h ps))
    go rest true true = omega arith
    go rest true false = omega arith
    go rest false true = omega arith
    go rest false false = omega arith

pub one_near : {F : Algebra} → Lawful F → (d : ℕ) (ps : List (ℕ × ℕ)) (g h : List ℕ) → Points F ps → d < length ps → Near F d ps g → Near F d ps h → g ≡ h
one_near {F} L d ps g h points enough a b =
    let both = on_both (ops F) g h in
    let us = picked both ps in
    let n : suc d ≤ length us = omega (arith, many_on_both (ops F) g h ps, a.few, b.few) in
    let long : length (take (suc d) us) ≡ suc d = length-take-le (suc d) us n in
    unique_codes L (take (suc d) us) g h
    (All-take (λ u. u < F.size) (suc d) us (picked_all both (λ u. u < F.size) (λ p. (p.0 < F.size) × (p.1 < F.size)) (λ p k e. k.0) ps points.small))
    a.small b.small (a.long ∙ sym long) (b.long ∙ sym long)
    (distinct_take (suc d) us (picked_apart both ps points.apart))
    (All-take (λ u. eval (ops F) g u ≡ eval (ops F) h u) (suc d) us
    (picked_all both (λ u. eval (ops F) g u ≡ eval (ops F) h u) (λ p. (p.0 < F.size) × (p.1 < F.size))
    (λ p k e.
    let (x, y) = and_parts (through (ops F) g p) (through (ops F) h p) e in
    eqb-true (eval (ops F) g p.0) p.1 x ∙ sym (eqb-true (eval (ops F) h p.0) p.1 y))
    ps points.small))
