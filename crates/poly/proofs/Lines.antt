-- A product of k linear factors is a list of k + 1 coefficients, the last of them the product of the slopes.
use Rattle.std.proofs.Common.{◌≡◌, ℕ, zero, suc, List, [], ◌∷◌, length, replicate, sym, refl, ap, ◌∙◌, arith}
use Rattle.std.proofs.lemmas.List.{length-replicate}
use Rattle.field.specs.Algebra.{Ops}
use Rattle.field.proofs.Abstract.{IsField}
use Rattle.field.specs.Vectors.{add, scale}
use Rattle.poly.specs.Poly.{eval, last}
use Rattle.poly.proofs.Products.{linear, product_at, slopes, product, Represented}
use Rattle.field.proofs.Ring.{ring, mul_zero}
use Rattle.poly.proofs.Evals.{length_add, length_scale, eval_add, eval_scale, eval_linear}

module _ {K : Type 0} {o : Ops K} (L : IsField o) where
  open o use {zero as 𝟘, one as 𝟙, plus as ◌⊕◌, times as ◌⊗◌, minus as neg}

  infixl 60 ◌⊕◌
  infixl 70 ◌⊗◌
  length_linear : (a b p : K) (cs : List K) → length (linear o a b p cs) ≡ suc (length cs)
  length_linear a b p [] = refl
  length_linear a b p (c ∷ cs) = ap suc (length_linear a b c cs)

  last_linear : (a b p x : K) (cs : List K) → last x (linear o a b p cs) ≡ b ⊗ last p cs
  last_linear a b p x [] = refl
  last_linear a b p x (c ∷ cs) = last_linear a b c _ cs

  pub eval_product : (fs : List (K × K)) (t : K) → eval o (product o fs) t ≡ product_at o fs t
  eval_product [] t = simp (ring, L)
  eval_product (f ∷ fs) t = eval_linear L f.0 f.1 𝟘 (product o fs) t ∙ rw (eval_product fs t) (simp (ring, L))

  pub length_product : (fs : List (K × K)) → length (product o fs) ≡ suc (length fs)
  length_product [] = refl
  length_product (f ∷ fs) = length_linear f.0 f.1 𝟘 (product o fs) ∙ ap suc (length_product fs)

  -- a list that is not empty has a last whatever stands before it
  pub last_product : (fs : List (K × K)) (x : K) → last x (product o fs) ≡ slopes o fs
  last_product [] x = refl
  last_product (f ∷ fs) x = last_linear f.0 f.1 𝟘 x (product o fs) ∙ ap (λ w. f.1 ⊗ w) (last_product fs 𝟘)

  last_add : (x y : K) (cs ds : List K) → length cs ≡ length ds → last (x ⊕ y) (add o cs ds) ≡ last x cs ⊕ last y ds
  last_add x y [] [] l = refl
  last_add x y [] (d ∷ ds) l = absurd (omega arith)
  last_add x y (c ∷ cs) [] l = absurd (omega arith)
  last_add x y (c ∷ cs) (d ∷ ds) l = last_add c d cs ds (omega arith)

  last_scale : (k x : K) (cs : List K) → last (k ⊗ x) (scale o k cs) ≡ k ⊗ last x cs
  last_scale k x [] = refl
  last_scale k x (c ∷ cs) = last_scale k c cs

  pub line : (fs : List (K × K)) → Represented o (length fs) (product_at o fs) (slopes o fs)
  line fs = record {
    coefficients = product o fs;
    long = length_product fs;
    top = last_product fs 𝟘;
    at = λ t. sym (eval_product fs t);
  }

  pub plus_represented : (k : ℕ) (f g : K → K) (x y : K) → Represented o k f x → Represented o k g y
      → Represented o k (λ t. f t ⊕ g t) (x ⊕ y)
  plus_represented k f g x y r s = record {
    coefficients = add o r.coefficients s.coefficients;
    long = length_add o r.coefficients s.coefficients (r.long ∙ sym s.long) ∙ r.long;
    top =
        ap (λ w. last w (add o r.coefficients s.coefficients)) (sym (L.add_zero 𝟘))
        ∙ last_add 𝟘 𝟘 r.coefficients s.coefficients (r.long ∙ sym s.long) ∙ rw (r.top, s.top);
    at = λ t. rw (r.at t, s.at t) (sym (eval_add L r.coefficients s.coefficients t));
  }

  pub times_represented : (k : ℕ) (f : K → K) (x c : K) → Represented o k f x → Represented o k (λ t. c ⊗ f t) (c ⊗ x)
  times_represented k f x c r = record {
    coefficients = scale o c r.coefficients;
    long = length_scale o c r.coefficients ∙ r.long;
    top =
        ap (λ w. last w (scale o c r.coefficients)) (sym (mul_zero L c))
        ∙ last_scale c 𝟘 r.coefficients ∙ rw r.top;
    at = λ t. rw (r.at t) (sym (eval_scale L c r.coefficients t));
  }

  -- the same function and the same top, by another name
  pub renamed : {k j : ℕ} {f g : K → K} {x y : K} → k ≡ j → ((t : K) → g t ≡ f t) → x ≡ y → Represented o k f x → Represented o j g y
  renamed ek ef ex r = record {
    coefficients = r.coefficients;
    long = r.long ∙ ap suc ek;
    top = r.top ∙ ex;
    at = λ t. ef t ∙ r.at t;
  }

  last_zeros : (n : ℕ) → last 𝟘 (replicate n 𝟘) ≡ 𝟘
  last_zeros zero = refl
  last_zeros (suc n) = last_zeros n

  eval_zeros : (n : ℕ) (t : K) → 𝟘 ≡ eval o (replicate n 𝟘) t
  eval_zeros zero t = refl
  eval_zeros (suc n) t = rw (← eval_zeros n t) (simp (ring, L))

  pub nothing : (k : ℕ) → Represented o k (λ _. 𝟘) 𝟘
  nothing k = record {
    coefficients = replicate (suc k) 𝟘;
    long = length-replicate (suc k) 𝟘;
    top = last_zeros (suc k);
    at = eval_zeros (suc k);
  }
