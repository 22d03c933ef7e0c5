-- What the tests of points say.
use Rattle.std.proofs.Common.{◌≡◌, ℕ, ◌<◌, true, false, ◌&&◌, ◌||◌, ◌↔◌, eqb, ltb, ◌≢◌, List, [], ◌∷◌, refl, ap₂}
use Rattle.std.specs.List.{AllByRecursion, list_any, list_all}
use Rattle.std.proofs.lemmas.Bool.{and_parts, or_parts, ne_eqb, eqb-false, ltb-true, lt-ltb}
use Rattle.field.specs.Algebra.{Algebra}
use Rattle.poly.specs.Poly.{Distinct}
use Rattle.decode.specs.Near.{places, Points}

free : (u : ℕ) (ps : List (ℕ × ℕ)) → list_any (λ p. eqb p.0 u) ps ≡ false → AllByRecursion (λ s. s ≢ u) (places ps)
free u [] e = tt
free u (p ∷ ps) e =
    let (a, b) = or_parts (eqb p.0 u) (list_any (λ q. eqb q.0 u) ps) e in
    (eqb-false p.0 u a, free u ps b)

none_there : (u : ℕ) (ps : List (ℕ × ℕ)) → AllByRecursion (λ s. s ≢ u) (places ps) → list_any (λ p. eqb p.0 u) ps ≡ false
none_there u [] h = refl
none_there u (p ∷ ps) h = ap₂ (λ a b. a || b) (ne_eqb p.0 u h.0) (none_there u ps h.1)

-- a point whose place comes again
pub again : (p : ℕ × ℕ) (ps rs : List (ℕ × ℕ)) → rs ≡ p ∷ ps → list_any (λ q. eqb q.0 p.0) ps ≡ true → Distinct (places rs) → ⊥
again p ps rs e t h = let d : Distinct (places (p ∷ ps)) = rw e at h in let n = none_there p.0 ps d.0 in cc

-- and one whose place does not
pub once : (p : ℕ × ℕ) (ps rs : List (ℕ × ℕ)) → rs ≡ p ∷ ps → list_any (λ q. eqb q.0 p.0) ps ≡ false → Distinct (places rs) ↔ Distinct (places ps)
once p ps rs e t = rw e ((λ h. h.1), (λ h. (free p.0 ps t, h)))

from_test : (q : ℕ) (ps : List (ℕ × ℕ)) → list_all (λ p. ltb p.0 q && ltb p.1 q) ps ≡ true → AllByRecursion (λ p. (p.0 < q) × (p.1 < q)) ps
from_test q [] e = tt
from_test q (p ∷ ps) e =
    let (a, b) = and_parts (ltb p.0 q && ltb p.1 q) (list_all (λ r. ltb r.0 q && ltb r.1 q) ps) e in
    let (x, y) = and_parts (ltb p.0 q) (ltb p.1 q) a in
    ((ltb-true p.0 q x, ltb-true p.1 q y), from_test q ps b)

test_from : (q : ℕ) (ps : List (ℕ × ℕ)) → AllByRecursion (λ p. (p.0 < q) × (p.1 < q)) ps → list_all (λ p. ltb p.0 q && ltb p.1 q) ps ≡ true
test_from q [] h = refl
test_from q (p ∷ ps) h = rw (lt-ltb p.0 q h.0.0, lt-ltb p.1 q h.0.1) (test_from q ps h.1)

-- q is the field's size
pub codes_of : (F : Algebra) (q : ℕ) (ps : List (ℕ × ℕ)) → q ≡ F.size → list_all (λ p. ltb p.0 q && ltb p.1 q) ps ≡ true → AllByRecursion (λ p. (p.0 < F.size) × (p.1 < F.size)) ps
codes_of F q ps z e = from_test F.size ps (rw z at e)

pub not_codes : (F : Algebra) (q : ℕ) (ps : List (ℕ × ℕ)) → q ≡ F.size → list_all (λ p. ltb p.0 q && ltb p.1 q) ps ≡ false → Points F ps → ⊥
not_codes F q ps z e h = let t = test_from F.size ps h.small in let n = rw z at e in cc
