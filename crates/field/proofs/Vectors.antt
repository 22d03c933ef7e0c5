-- Lists of codes and lists of elements, coordinate by coordinate.
use Rattle.std.proofs.Common.{◌≡◌, ℕ, zero, suc, ◌<◌, List, [], ◌∷◌, length, take, sym, refl, ap, ◌∙◌, ap₂, arith}
use Rattle.field.specs.Algebra.{Algebra, Lawful, Codes, ops}
use Rattle.field.specs.Vectors.{scale, add, along}
use Rattle.field.proofs.Elements.{Elem, elems, lower}
use Rattle.field.proofs.Inverses.{one_times}

module _ (F : Algebra) where
  pub length_scale : (k : ℕ) (p : List ℕ) → length (scale (ops F) k p) ≡ length p
  length_scale k [] = refl
  length_scale k (x ∷ p) = ap suc (length_scale k p)

  pub take_scale : (k n : ℕ) (p : List ℕ) → take n (scale (ops F) k p) ≡ scale (ops F) k (take n p)
  take_scale k zero p = refl
  take_scale k (suc n) [] = refl
  take_scale k (suc n) (x ∷ p) = ap (λ w. F.times k x ∷ w) (take_scale k n p)

  take_add : (n : ℕ) (w v : List ℕ) → length w ≡ length v → take n (add (ops F) w v) ≡ add (ops F) (take n w) (take n v)
  take_add zero w v l = refl
  take_add (suc n) [] [] l = refl
  take_add (suc n) [] (y ∷ v) l = absurd (omega arith)
  take_add (suc n) (x ∷ w) [] l = absurd (omega arith)
  take_add (suc n) (x ∷ w) (y ∷ v) l = ap (λ r. F.plus x y ∷ r) (take_add n w v (omega arith))

  pub take_along : (n : ℕ) (w v : List ℕ) (t : ℕ) → length w ≡ length v → take n (along (ops F) w v t) ≡ along (ops F) (take n w) (take n v) t
  take_along n w v t l =
      take_add n w (scale (ops F) t v) (l ∙ sym (length_scale t v)) ∙ ap (add (ops F) (take n w)) (take_scale t n v)

module _ {F : Algebra} (L : Lawful F) where
  pub scale_codes : (k : ℕ) (p : List ℕ) → Codes F (scale (ops F) k p)
  scale_codes k [] = tt
  scale_codes k (x ∷ xs) = (L.times_in k x, scale_codes k xs)

  pub add_codes : (w v : List ℕ) → Codes F w → Codes F v → Codes F (add (ops F) w v)
  add_codes [] v h k = k
  add_codes (x ∷ w) [] h k = h
  add_codes (x ∷ w) (y ∷ v) h k = (L.plus_in x y, add_codes w v h.1 k.1)

  pub along_codes : (w v : List ℕ) (t : ℕ) → Codes F w → Codes F (along (ops F) w v t)
  along_codes w v t h = add_codes w (scale (ops F) t v) h (scale_codes t v)

  pub scale_scale : (a b : ℕ) → a < F.size → b < F.size → (p : List ℕ) → Codes F p → scale (ops F) a (scale (ops F) b p) ≡ scale (ops F) (F.times a b) p
  scale_scale a b i j [] h = refl
  scale_scale a b i j (x ∷ xs) h = ap₂ (λ u v. u ∷ v) (sym (L.times_assoc a b x i j h.0)) (scale_scale a b i j xs h.1)

  pub scale_one : (p : List ℕ) → Codes F p → scale (ops F) 1 p ≡ p
  scale_one [] h = refl
  scale_one (x ∷ xs) h = ap₂ (λ u v. u ∷ v) (one_times L x h.0) (scale_one xs h.1)

  pub scale_lower : (k : Elem F.size) (xs : List (Elem F.size)) → lower (scale (elems L) k xs) ≡ scale (ops F) k.0 (lower xs)
  scale_lower k [] = refl
  scale_lower k (x ∷ xs) = ap (λ w. F.times k.0 x.0 ∷ w) (scale_lower k xs)

  pub add_lower : (w v : List (Elem F.size)) → lower (add (elems L) w v) ≡ add (ops F) (lower w) (lower v)
  add_lower [] v = refl
  add_lower (x ∷ w) [] = refl
  add_lower (x ∷ w) (y ∷ v) = ap (λ r. F.plus x.0 y.0 ∷ r) (add_lower w v)

  pub along_lower : (w v : List (Elem F.size)) (t : Elem F.size) → lower (along (elems L) w v t) ≡ along (ops F) (lower w) (lower v) t.0
  along_lower w v t = add_lower w (scale (elems L) t v) ∙ ap (add (ops F) (lower w)) (scale_lower t v)
