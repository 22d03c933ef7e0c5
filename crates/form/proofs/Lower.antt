-- What is shown over any field holds on the codes below q.
use Rattle.std.proofs.Common.{◌≡◌, ℕ, zero, suc, ◌<◌, List, [], ◌∷◌, length, get_or, drop, sym, refl, ap, ◌∙◌, ap₂, arith}
use Rattle.field.specs.Algebra.{Algebra, Lawful, Codes, ops}
use Rattle.field.proofs.Elements.{Elem, elems, field_of, lift, lower, lower_lift, length_lower, power_lower}
use Rattle.form.specs.Forms.{vectors, monomial, total, value}
use Rattle.form.specs.Evaluation.{terms, horner, nested}
use Rattle.form.proofs.Nested.{nested_is}

module _ {q : ℕ} where
  drop_lower : (k : ℕ) (xs : List (Elem q)) → drop k (lower xs) ≡ lower (drop k xs)
  drop_lower zero xs = refl
  drop_lower (suc k) [] = refl
  drop_lower (suc k) (x ∷ xs) = drop_lower k xs

module _ {F : Algebra} (L : Lawful F) where
  pub monomial_lower : (xs : List (Elem F.size)) (es : List ℕ) → (monomial (elems L) xs es).0 ≡ monomial (ops F) (lower xs) es
  monomial_lower [] es = refl
  monomial_lower (x ∷ xs) [] = refl
  monomial_lower (x ∷ xs) (e ∷ es) = ap₂ F.times (power_lower L x e) (monomial_lower xs es)

  pub total_lower : (xs cs : List (Elem F.size)) (vs : List (List ℕ)) → (total (elems L) xs cs vs).0 ≡ total (ops F) (lower xs) (lower cs) vs
  total_lower xs [] vs = refl
  total_lower xs (c ∷ cs) [] = refl
  total_lower xs (c ∷ cs) (v ∷ vs) = ap₂ (λ a b. F.plus (F.times c.0 a) b) (monomial_lower xs v) (total_lower xs cs vs)

  pub value_lower : (xs : List (Elem F.size)) (d : ℕ) (cs : List (Elem F.size)) → (value (elems L) xs d cs).0 ≡ value (ops F) (lower xs) d (lower cs)
  value_lower xs d cs = total_lower xs cs (vectors (length xs) d) ∙ ap (λ n. total (ops F) (lower xs) (lower cs) (vectors n d)) (sym (length_lower xs))

  getD_lower : (cs : List (Elem F.size)) → (get_or cs 0 (elems L).zero).0 ≡ get_or (lower cs) 0 0
  getD_lower [] = refl
  getD_lower (c ∷ cs) = refl

  horner_lower : (x : Elem F.size) (n : ℕ) (f : ℕ → List (Elem F.size) → Elem F.size) (g : ℕ → List ℕ → ℕ)
      → ((d : ℕ) (cs : List (Elem F.size)) → (f d cs).0 ≡ g d (lower cs))
      → (d : ℕ) (cs : List (Elem F.size)) → (horner (elems L) x n f d cs).0 ≡ horner (ops F) x.0 n g d (lower cs)
  horner_lower x n f g h zero cs = h zero cs
  horner_lower x n f g h (suc d) cs =
      ap₂ (λ a b. F.plus (F.times a x.0) b) (horner_lower x n f g h d cs)
      (h (suc d) (drop (terms (suc n) d) cs) ∙ ap (g (suc d)) (sym (drop_lower (terms (suc n) d) cs)))

  nested_lower : (xs : List (Elem F.size)) (d : ℕ) (cs : List (Elem F.size)) → (nested (elems L) xs d cs).0 ≡ nested (ops F) (lower xs) d (lower cs)
  nested_lower [] d cs = refl
  nested_lower (x ∷ []) d cs = ap₂ F.times (getD_lower cs) (power_lower L x d)
  nested_lower (x ∷ (y ∷ ys)) d cs =
      horner_lower x (suc (length ys)) (nested (elems L) (y ∷ ys)) (nested (ops F) (y.0 ∷ lower ys)) (nested_lower (y ∷ ys)) d cs
      ∙ ap (λ n. horner (ops F) x.0 (suc n) (nested (ops F) (y.0 ∷ lower ys)) d (lower cs)) (sym (length_lower ys))

  lowered : (xs : List (Elem F.size)) (d : ℕ) (cs : List (Elem F.size)) → 0 < length xs → nested (ops F) (lower xs) d (lower cs) ≡ value (ops F) (lower xs) d (lower cs)
  lowered [] d cs h = absurd (omega arith)
  lowered (x ∷ xs) d cs h =
      sym (nested_lower (x ∷ xs) d cs) ∙ ap (λ w. w.0) (nested_is (field_of L) x xs d cs) ∙ value_lower (x ∷ xs) d cs

  pub nested_codes : (xs : List ℕ) (d : ℕ) (cs : List ℕ) → Codes F xs → Codes F cs → 0 < length xs
      → nested (ops F) xs d cs ≡ value (ops F) xs d cs
  nested_codes xs d cs in-xs in-cs h =
      let q = F.size in
      let a = lower_lift q xs in-xs in
      let b = lower_lift q cs in-cs in
      let n : 0 < length (lift q xs in-xs) = omega (arith, length_lower (lift q xs in-xs), ap length a) in
      let e = lowered (lift q xs in-xs) d (lift q cs in-cs) n in
      rw (a, b) at e
