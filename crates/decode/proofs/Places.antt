-- The coefficients of a sum, a multiple and a product by X + a, by their places.
use Rattle.std.proofs.Common.{◌≡◌, ℕ, zero, suc, ◌<◌, List, [], ◌∷◌, length, get_or, sym, refl, ap, ◌∙◌, arith}
use Rattle.field.specs.Algebra.{Ops}
use Rattle.field.specs.Vectors.{scale}
use Rattle.poly.proofs.Evals.{length_scale, length_add}
use Rattle.decode.specs.Coefficients.{mix, raise, before}

module _ {K : Type 0} (o : Ops K) where
  pub length_mix : (p : K) (xs : List K) (q : K) (ys : List K) → length xs ≡ length ys → length (mix o p xs q ys) ≡ length xs
  length_mix p xs q ys l =
      length_add o (scale o p xs) (scale o q ys) (length_scale o p xs ∙ l ∙ sym (length_scale o q ys)) ∙ length_scale o p xs

  pub length_raise : (a p : K) (xs : List K) → length (raise o a p xs) ≡ length xs
  length_raise a p [] = refl
  length_raise a p (x ∷ xs) = ap suc (length_raise a x xs)

  pub getD_mix : (p : K) (xs : List K) (q : K) (ys : List K) (d : K) (k : ℕ) → k < length xs → k < length ys
      → get_or (mix o p xs q ys) k d ≡ o.plus (o.times p (get_or xs k d)) (o.times q (get_or ys k d))
  getD_mix p [] q ys d k h i = absurd (omega arith)
  getD_mix p (x ∷ xs) q [] d k h i = absurd (omega arith)
  getD_mix p (x ∷ xs) q (y ∷ ys) d zero h i = refl
  getD_mix p (x ∷ xs) q (y ∷ ys) d (suc k) h i = getD_mix p xs q ys d k (omega arith) (omega arith)

  pub getD_raise : (a p : K) (xs : List K) (d : K) (k : ℕ) → k < length xs
      → get_or (raise o a p xs) k d ≡ o.plus (o.times a (get_or xs k d)) (before p xs d k)
  getD_raise a p [] d k h = absurd (omega arith)
  getD_raise a p (x ∷ xs) d zero h = refl
  getD_raise a p (x ∷ xs) d (suc zero) h = getD_raise a x xs d zero (omega arith)
  getD_raise a p (x ∷ xs) d (suc (suc k)) h = getD_raise a x xs d (suc k) (omega arith)
