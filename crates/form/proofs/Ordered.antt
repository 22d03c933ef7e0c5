-- The list of vectors has each vector of n exponents and sum d, no other, in descending order.
use Rattle.std.proofs.Common.{◌≡◌, ℕ, zero, suc, ◌+◌, ◌<◌, ◌≤◌, List, [], ◌∷◌, ◌++◌, map, length, sym, refl, ap, ◌∙◌, inl, inr, ⊎_elim, arith}
use Rattle.std.specs.List.{ContainsAt as Has, AllByRecursion}
use Rattle.std.proofs.lemmas.List.{length-map, get_or-map}
use Rattle.std.proofs.lemmas.Bool.{cases_eq}
use Rattle.std.proofs.ByRecursion.{has_append_left, has_append_right, All-append, All-weaker}
use Rattle.form.specs.Forms.{spread, vectors, degree, Before, Descending, VectorsListed, choose, coefficient_count}
use Rattle.form.specs.Evaluation.{terms}
use Rattle.form.proofs.Nested.{length_vectors}
use Rattle.form.proofs.OnForms.{good_vectors}

has_first : (e : ℕ) (vs : List (List ℕ)) (v : List ℕ) → Has vs v → Has (map (λ u. e ∷ u) vs) (e ∷ v)
has_first e vs v h =
    (h.0, omega (arith, h.1, length-map vs (λ u. e ∷ u)), λ d. get_or-map (λ u. e ∷ u) vs h.0 [] d h.1 ∙ ap (λ u. e ∷ u) (h.2 []))

-- every vector with a first exponent of at least e
has_spread : (n : ℕ) (f : ℕ → List (List ℕ)) → ((j : ℕ) (v : List ℕ) → length v ≡ n → degree v ≡ j → Has (f j) v)
    → (e d a : ℕ) (u : List ℕ) → length u ≡ n → e ≤ a → a + degree u ≡ e + d → Has (spread f e d) (a ∷ u)
has_spread n f h e zero a u l le s =
    let q : a ≡ e = omega arith in
    rw q (has_first e (f zero) u (h zero u l (omega arith)))
has_spread n f h e (suc d) a u l le s =
    ⊎_elim
    (λ (q : a ≡ e). rw q (has_append_right (spread f (suc e) d) (map (λ v. e ∷ v) (f (suc d))) (e ∷ u) (has_first e (f (suc d)) u (h (suc d) u l (omega arith)))))
    (λ (q : a ≡ e → ⊥). has_append_left (spread f (suc e) d) (map (λ v. e ∷ v) (f (suc d))) (a ∷ u) (has_spread n f h (suc e) d a u l (omega arith) (omega arith)))
    (cases_eq a e)

has_vectors : (n d : ℕ) (v : List ℕ) → length v ≡ n → degree v ≡ d → Has (vectors n d) v
has_vectors zero zero [] l s = (0, omega arith, λ d. refl)
has_vectors zero (suc d) [] l s = absurd (omega arith)
has_vectors zero d (a ∷ u) l s = absurd (omega arith)
has_vectors (suc n) d [] l s = absurd (omega arith)
has_vectors (suc n) d (a ∷ u) l s = has_spread n (vectors n) (has_vectors n) 0 d a u (omega arith) (omega arith) (omega arith)

-- a first exponent above e
abbrev Above : ℕ → List ℕ → Type 0
Above e [] = ⊥
Above e (a ∷ u) = e < a

above_less : (e : ℕ) (v : List ℕ) → Above (suc e) v → Above e v
above_less e [] h = h
above_less e (a ∷ u) h = omega arith

above_first : (e a : ℕ) (vs : List (List ℕ)) → e < a → AllByRecursion (Above e) (map (λ v. a ∷ v) vs)
above_first e a [] h = tt
above_first e a (v ∷ vs) h = (h, above_first e a vs h)

above_spread : (f : ℕ → List (List ℕ)) (e d : ℕ) → AllByRecursion (Above e) (spread f (suc e) d)
above_spread f e zero = above_first e (suc e) (f zero) (omega arith)
above_spread f e (suc d) =
    All-append (Above e) (spread f (suc (suc e)) d) (map (λ v. suc e ∷ v) (f (suc d)))
    (All-weaker (Above (suc e)) (Above e) (above_less e) (spread f (suc (suc e)) d) (above_spread f (suc e) d))
    (above_first e (suc e) (f (suc d)) (omega arith))

before_first : (e : ℕ) (u : List ℕ) → Above e u → (vs : List (List ℕ)) → AllByRecursion (Before u) (map (λ v. e ∷ v) vs)
before_first e u h [] = tt
before_first e [] h (v ∷ vs) = absurd h
before_first e (a ∷ u) h (v ∷ vs) = (inl h, before_first e (a ∷ u) h vs)

descending_append : (us vs : List (List ℕ)) → Descending us → Descending vs → AllByRecursion (λ u. AllByRecursion (Before u) vs) us → Descending (us ++ vs)
descending_append [] vs d e b = e
descending_append (u ∷ us) vs d e b = (All-append (Before u) us vs d.0 b.0, descending_append us vs d.1 e b.1)

before_same : (e : ℕ) (u : List ℕ) (vs : List (List ℕ)) → AllByRecursion (Before u) vs → AllByRecursion (Before (e ∷ u)) (map (λ v. e ∷ v) vs)
before_same e u [] h = tt
before_same e u (v ∷ vs) h = (inr (refl, h.0), before_same e u vs h.1)

descending_first : (e : ℕ) (vs : List (List ℕ)) → Descending vs → Descending (map (λ v. e ∷ v) vs)
descending_first e [] d = tt
descending_first e (v ∷ vs) d = (before_same e v vs d.0, descending_first e vs d.1)

descending_spread : (f : ℕ → List (List ℕ)) → ((j : ℕ) → Descending (f j)) → (e d : ℕ) → Descending (spread f e d)
descending_spread f h e zero = descending_first e (f zero) (h zero)
descending_spread f h e (suc d) =
    descending_append (spread f (suc e) d) (map (λ v. e ∷ v) (f (suc d))) (descending_spread f h (suc e) d) (descending_first e (f (suc d)) (h (suc d)))
    (All-weaker (Above e) (λ u. AllByRecursion (Before u) (map (λ v. e ∷ v) (f (suc d)))) (λ u a. before_first e u a (f (suc d))) (spread f (suc e) d) (above_spread f e d))

descending_vectors : (n d : ℕ) → Descending (vectors n d)
descending_vectors zero zero = (tt, tt)
descending_vectors zero (suc d) = tt
descending_vectors (suc n) d = descending_spread (vectors n) (descending_vectors n) 0 d

-- how many: Pascal's rule
choose_all : (n k : ℕ) → n < k → choose n k ≡ 0
choose_all zero zero h = absurd (omega arith)
choose_all zero (suc k) h = refl
choose_all (suc n) zero h = absurd (omega arith)
choose_all (suc n) (suc k) h = omega (arith, choose_all n k (omega arith), choose_all n (suc k) (omega arith))

choose_same : (n : ℕ) → choose n n ≡ 1
choose_same zero = refl
choose_same (suc n) = omega (arith, choose_same n, choose_all n (suc n) (omega arith))

terms_ones : (d : ℕ) → terms 1 d ≡ 1
terms_ones zero = refl
terms_ones (suc d) = omega (arith, terms_ones d)

terms_low : (m : ℕ) → terms (suc m) 0 ≡ 1
terms_low zero = refl
terms_low (suc m) = terms_low m

pub counted : (m d : ℕ) → terms (suc m) d ≡ coefficient_count m d
counted zero d =
    let e : zero + d ≡ d = omega arith in
    terms_ones d ∙ sym (choose_same d) ∙ ap (λ w. choose w d) (sym e)
counted (suc m) zero = terms_low m
counted (suc m) (suc d) =
    let e : suc m + suc d ≡ suc (suc m + d) = omega arith in
    let f : suc m + d ≡ m + suc d = omega arith in
    let a = counted (suc m) d in
    let b = counted m (suc d) ∙ ap (λ w. choose w (suc d)) (sym f) in
    rw e (omega (arith, a, b))

pub vectors_listed : (m d : ℕ) → VectorsListed m d
vectors_listed m d = record {
  listed = record { sound = good_vectors (suc m) d; complete = has_vectors (suc m) d; ordered = descending_vectors (suc m) d };
  counted = length_vectors (suc m) d ∙ counted m d;
}
