-- What sums and multiples of lists of coefficients come to at a point, and their lengths.
use Rattle.std.proofs.Common.{◌≡◌, suc, List, [], ◌∷◌, length, refl, ap, ◌∙◌, arith}
use Rattle.field.specs.Algebra.{Ops}
use Rattle.field.proofs.Abstract.{IsField}
use Rattle.field.specs.Vectors.{add, scale}
use Rattle.poly.specs.Poly.{eval}
use Rattle.poly.proofs.Products.{linear}
use Rattle.field.proofs.Ring.{ring}

module _ {K : Type 0} (o : Ops K) where
  pub length_scale : (k : K) (cs : List K) → length (scale o k cs) ≡ length cs
  length_scale k [] = refl
  length_scale k (c ∷ cs) = ap suc (length_scale k cs)

  pub length_add : (cs ds : List K) → length cs ≡ length ds → length (add o cs ds) ≡ length cs
  length_add [] [] l = refl
  length_add [] (d ∷ ds) l = absurd (omega arith)
  length_add (c ∷ cs) [] l = refl
  length_add (c ∷ cs) (d ∷ ds) l = ap suc (length_add cs ds (omega arith))

module _ {K : Type 0} {o : Ops K} (L : IsField o) where
  open o use {zero as 𝟘, one as 𝟙, plus as ◌⊕◌, times as ◌⊗◌, minus as neg}

  infixl 60 ◌⊕◌
  infixl 70 ◌⊗◌
  pub eval_add : (cs ds : List K) (t : K) → eval o (add o cs ds) t ≡ eval o cs t ⊕ eval o ds t
  eval_add [] ds t = simp (ring, L)
  eval_add (c ∷ cs) [] t = simp (ring, L)
  eval_add (c ∷ cs) (d ∷ ds) t = rw (eval_add cs ds t) (simp (ring, L))

  pub eval_scale : (k : K) (cs : List K) (t : K) → eval o (scale o k cs) t ≡ k ⊗ eval o cs t
  eval_scale k [] t = simp (ring, L)
  eval_scale k (c ∷ cs) t = rw (eval_scale k cs t) (simp (ring, L))

  pub eval_linear : (a b p : K) (cs : List K) (t : K) → eval o (linear o a b p cs) t ≡ b ⊗ p ⊕ (a ⊕ b ⊗ t) ⊗ eval o cs t
  eval_linear a b p [] t = simp (ring, L)
  eval_linear a b p (c ∷ cs) t = rw (eval_linear a b c cs t) (simp (ring, L))

  -- (X − a) times the list
  pub eval_shift : (a : K) (cs : List K) (t : K) → eval o (linear o (neg a) 𝟙 𝟘 cs) t ≡ (t ⊕ neg a) ⊗ eval o cs t
  eval_shift a cs t = eval_linear (neg a) 𝟙 𝟘 cs t ∙ simp (ring, L)
