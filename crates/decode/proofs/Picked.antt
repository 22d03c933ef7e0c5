-- The points that pass a test.
use Rattle.std.proofs.Common.{◌≡◌, ℕ, zero, suc, ◌+◌, ◌<◌, Bool, true, false, cond, not, ◌≢◌, List, [], ◌∷◌, length, count_by, get_or, take, refl, add-one, arith}
use Rattle.std.specs.List.{AllByRecursion}
use Rattle.std.proofs.lemmas.List.Recursion.{is_count_by}
use Rattle.field.specs.Algebra.{Ops}
use Rattle.poly.specs.Poly.{Distinct}
use Rattle.decode.specs.Near.{places, through, misses, picked}

pub picked_all : (f : ℕ × ℕ → Bool) (P : ℕ → Type 0) (Q : ℕ × ℕ → Type 0) → ((p : ℕ × ℕ) → Q p → f p ≡ true → P p.0)
    → (ps : List (ℕ × ℕ)) → AllByRecursion Q ps → AllByRecursion P (picked f ps)
picked_all f P Q s [] h = tt
picked_all f P Q s (p ∷ ps) h = go (picked_all f P Q s ps h.1) (f p) refl
  where
    go : AllByRecursion P (picked f ps) → (b : Bool) → f p ≡ b → AllByRecursion P (cond b (p.0 ∷ picked f ps) (picked f ps))
    go rest true e = (s p h.0 e, rest)
    go rest false e = rest

picked_places : (f : ℕ × ℕ → Bool) (P : ℕ → Type 0) (ps : List (ℕ × ℕ)) → AllByRecursion P (places ps) → AllByRecursion P (picked f ps)
picked_places f P [] h = tt
picked_places f P (p ∷ ps) h = go (picked_places f P ps h.1) (f p)
  where
    go : AllByRecursion P (picked f ps) → (b : Bool) → AllByRecursion P (cond b (p.0 ∷ picked f ps) (picked f ps))
    go rest true = (h.0, rest)
    go rest false = rest

pub picked_apart : (f : ℕ × ℕ → Bool) (ps : List (ℕ × ℕ)) → Distinct (places ps) → Distinct (picked f ps)
picked_apart f [] h = tt
picked_apart f (p ∷ ps) h = go (picked_apart f ps h.1) (f p)
  where
    go : Distinct (picked f ps) → (b : Bool) → Distinct (cond b (p.0 ∷ picked f ps) (picked f ps))
    go rest true = (picked_places f (λ s. s ≢ p.0) ps h.0, rest)
    go rest false = rest

pub picked_count : (f : ℕ × ℕ → Bool) (ps : List (ℕ × ℕ)) → length (picked f ps) + length (picked (λ p. not (f p)) ps) ≡ length ps
picked_count f [] = refl
picked_count f (p ∷ ps) = go (picked_count f ps) (f p)
  where
    go : length (picked f ps) + length (picked (λ p. not (f p)) ps) ≡ length ps
        → (b : Bool) → length (cond b (p.0 ∷ picked f ps) (picked f ps)) + length (cond (not b) (p.0 ∷ picked (λ p. not (f p)) ps) (picked (λ p. not (f p)) ps)) ≡ suc (length ps)
    go rest true = omega arith
    go rest false = omega arith

pub misses_count : (o : Ops ℕ) (g : List ℕ) (ps : List (ℕ × ℕ)) → length (picked (through o g) ps) + misses o g ps ≡ length ps
misses_count o g [] = refl
misses_count o g (p ∷ ps) = go (misses_count o g ps) (through o g p)
  where
    go : length (picked (through o g) ps) + misses o g ps ≡ length ps
        → (b : Bool) → length (cond b (p.0 ∷ picked (through o g) ps) (picked (through o g) ps)) + cond b (misses o g ps) (suc (misses o g ps)) ≡ suc (length ps)
    go rest true = omega arith
    go rest false = omega arith

more : (f : ℕ × ℕ → Bool) (ps : List (ℕ × ℕ)) (i : ℕ) (d : ℕ × ℕ) → i < length ps
    → length (picked f (take (suc i) ps)) ≡ length (picked f (take i ps)) + cond (f (get_or ps i d)) 1 0
more f [] i d h = absurd (omega arith)
more f (p ∷ ps) zero d h = elim (f p) as (λ b. length (cond b (p.0 ∷ []) []) ≡ 0 + cond b 1 0) [ true ↦ refl | false ↦ refl ]
more f (p ∷ ps) (suc i) d h =
    let r = more f ps i d (omega arith) in
    elim (f p) as (λ b. length (cond b (p.0 ∷ picked f (take (suc i) ps)) (picked f (take (suc i) ps))) ≡ length (cond b (p.0 ∷ picked f (take i ps)) (picked f (take i ps))) + cond (f (get_or ps i d)) 1 0)
    [ true ↦ omega arith | false ↦ r ]

pub picked_more : (f : ℕ × ℕ → Bool) (ps : List (ℕ × ℕ)) (i : ℕ) (d : ℕ × ℕ) → i < length ps
    → length (picked f (take (i + 1) ps)) ≡ length (picked f (take i ps)) + cond (f (get_or ps i d)) 1 0
picked_more f ps i d h = rw add-one (more f ps i d h)

among : (u : ℕ) (d : ℕ × ℕ) (qs : List (ℕ × ℕ)) (j : ℕ) → AllByRecursion (λ s. s ≢ u) (places qs) → j < length qs → (get_or qs j d).0 ≡ u → ⊥
among u d [] j h l e = absurd (omega arith)
among u d (q ∷ qs) zero h l e = h.0 e
among u d (q ∷ qs) (suc j) h l e = among u d qs j h.1 (omega arith) e

pub apart_at : (ps : List (ℕ × ℕ)) (i j : ℕ) (d : ℕ × ℕ) → Distinct (places ps) → i < j → j < length ps → (get_or ps j d).0 ≡ (get_or ps i d).0 → ⊥
apart_at [] i j d h k l e = absurd (omega arith)
apart_at (p ∷ ps) i zero d h k l e = absurd (omega arith)
apart_at (p ∷ ps) zero (suc j) d h k l e = among p.0 d ps j h.0 (omega arith) e
apart_at (p ∷ ps) (suc i) (suc j) d h k l e = apart_at ps i j d h.1 (omega arith) (omega arith) e

pub misses_counted : (o : Ops ℕ) (g : List ℕ) (ps : List (ℕ × ℕ)) → misses o g ps ≡ count_by (λ p. not (through o g p)) ps
misses_counted o g ps = is_count_by (misses o g) (λ p. not (through o g p)) refl (λ p qs. go (through o g p) (misses o g qs)) ps
  where
    go : (b : Bool) (n : ℕ) → cond b n (suc n) ≡ cond (not b) (1 + n) n
    go true n = refl
    go false n = omega arith
