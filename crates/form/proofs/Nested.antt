-- The value by the first coordinate is the sum over the exponent vectors.
use Rattle.std.proofs.Common.{◌≡◌, ℕ, zero, suc, ◌+◌, List, [], ◌∷◌, ◌++◌, map, length, get_or, drop, sym, refl, ap, ◌∙◌, ap₂}
use Rattle.std.proofs.lemmas.List.{length-append, length-map}
use Rattle.field.specs.Algebra.{Ops, power}
use Rattle.field.proofs.Abstract.{IsField}
use Rattle.field.proofs.Ring.{ring, zero_mul, zero_add}
use Rattle.form.specs.Forms.{spread, vectors, monomial, total, value}
use Rattle.form.specs.Evaluation.{summed, terms, horner, nested}

length_spread : (f : ℕ → List (List ℕ)) (g : ℕ → ℕ) → ((j : ℕ) → length (f j) ≡ g j) → (e j : ℕ) → length (spread f e j) ≡ summed g j
length_spread f g h e zero = length-map (f zero) (λ v. e ∷ v) ∙ h zero
length_spread f g h e (suc j) =
    length-append (spread f (suc e) j) (map (λ v. e ∷ v) (f (suc j)))
    ∙ ap₂ (λ a b. a + b) (length_spread f g h (suc e) j) (length-map (f (suc j)) (λ v. e ∷ v) ∙ h (suc j))

pub length_vectors : (n d : ℕ) → length (vectors n d) ≡ terms n d
length_vectors zero zero = refl
length_vectors zero (suc d) = refl
length_vectors (suc n) d = length_spread (vectors n) (terms n) (length_vectors n) 0 d

module _ {K : Type 0} {o : Ops K} (L : IsField o) where
  open o use {zero as 𝟘, one as 𝟙, plus as ◌⊕◌, times as ◌⊗◌}

  infixl 60 ◌⊕◌
  infixl 70 ◌⊗◌
  total_none : (p cs : List K) → total o p cs [] ≡ 𝟘
  total_none p [] = refl
  total_none p (c ∷ cs) = refl

  pub total_append : (p cs : List K) (us vs : List (List ℕ)) → total o p cs (us ++ vs) ≡ total o p cs us ⊕ total o p (drop (length us) cs) vs
  total_append p cs [] vs = rw (total_none p cs) (sym (zero_add L (total o p cs vs)))
  total_append p [] (u ∷ us) vs = sym (L.add_zero 𝟘)
  total_append p (c ∷ cs) (u ∷ us) vs = rw (total_append p cs us vs) (sym (L.add_assoc _ _ _))

  factor : (c m t p : K) → c ⊗ (p ⊗ m) ⊕ t ⊗ p ≡ (c ⊗ m ⊕ t) ⊗ p
  factor c m t p = simp (ring, L)

  lone : (c p : K) → c ⊗ (p ⊗ 𝟙) ⊕ 𝟘 ≡ c ⊗ (𝟙 ⊗ p)
  lone c p = simp (ring, L)

  step : (h x g p : K) → h ⊗ (p ⊗ x) ⊕ g ⊗ p ≡ (h ⊗ x ⊕ g) ⊗ p
  step h x g p = simp (ring, L)

  shift : (c a b x : K) → c ⊗ (a ⊗ (b ⊗ x)) ⊕ 𝟘 ≡ c ⊗ (a ⊗ x ⊗ b)
  shift c a b x = simp (ring, L)

  only : (c a : K) → c ⊗ (a ⊗ 𝟙) ≡ c ⊗ a
  only c a = simp (ring, L)

  -- one exponent in front
  total_first : (x : K) (p cs : List K) (e : ℕ) (vs : List (List ℕ)) → total o (x ∷ p) cs (map (λ v. e ∷ v) vs) ≡ total o p cs vs ⊗ power o x e
  total_first x p [] e vs = sym (zero_mul L (power o x e))
  total_first x p (c ∷ cs) e [] = sym (zero_mul L (power o x e))
  total_first x p (c ∷ cs) e (v ∷ vs) = rw (total_first x p cs e vs) (factor c (monomial o p v) (total o p cs vs) (power o x e))

  total_spread : (x : K) (p : List K) (n : ℕ) (f : ℕ → List (List ℕ)) (g : ℕ → List K → K)
      → ((j : ℕ) → length (f j) ≡ terms n j) → ((j : ℕ) (cs : List K) → g j cs ≡ total o p cs (f j))
      → (e d : ℕ) (cs : List K) → total o (x ∷ p) cs (spread f e d) ≡ horner o x n g d cs ⊗ power o x e
  total_spread x p n f g l h e zero cs = total_first x p cs e (f zero) ∙ ap (λ w. w ⊗ power o x e) (sym (h zero cs))
  total_spread x p n f g l h e (suc d) cs =
      let us = spread f (suc e) d in
      let k = length_spread f (terms n) l (suc e) d in
      let rest = drop (terms (suc n) d) cs in
      let a = total_append (x ∷ p) cs us (map (λ v. e ∷ v) (f (suc d))) in
      let b = total_spread x p n f g l h (suc e) d cs in
      let c = total_first x p rest e (f (suc d)) in
      let s = h (suc d) rest in
      a ∙ rw (k, b, c, ← s) (step (horner o x n g d cs) x (g (suc d) rest) (power o x e))

  -- one coordinate has one coefficient
  ones : (x : K) (e d : ℕ) (cs : List K) → total o (x ∷ []) cs (spread (vectors 0) e d) ≡ get_or cs 0 𝟘 ⊗ (power o x d ⊗ power o x e)
  ones x e zero [] = sym (zero_mul L _)
  ones x e zero (c ∷ cs) = rw (total_none (x ∷ []) cs) (lone c (power o x e))
  ones x e (suc d) cs =
      let us = spread (vectors 0) (suc e) d in
      total_append (x ∷ []) cs us [] ∙ rw (ones x (suc e) d cs, total_none (x ∷ []) (drop (length us) cs)) (shift (get_or cs 0 𝟘) (power o x d) (power o x e) x)

  pub nested_is : (x : K) (p : List K) (d : ℕ) (cs : List K) → nested o (x ∷ p) d cs ≡ value o (x ∷ p) d cs
  nested_is x [] d cs = sym (ones x 0 d cs ∙ only (get_or cs 0 𝟘) (power o x d))
  nested_is x (y ∷ ys) d cs =
      let t = total_spread x (y ∷ ys) (suc (length ys)) (vectors (suc (length ys))) (nested o (y ∷ ys)) (length_vectors (suc (length ys))) (nested_is y ys) 0 d cs in
      sym (t ∙ L.mul_one _)
