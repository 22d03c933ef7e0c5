-- Products of linear factors, and functions that are polynomials. Definitions that only proofs use.
use Rattle.std.proofs.Common.{◌≡◌, ℕ, suc, List, [], ◌∷◌, length}
use Rattle.field.specs.Algebra.{Ops}
use Rattle.poly.specs.Poly.{eval, last}

-- (a + b X) times the list, with p the coefficient before the list's first
abbrev pub linear : {K : Type 0} → Ops K → K → K → K → List K → List K
linear o a b p [] = o.times b p ∷ []
linear o a b p (c ∷ cs) = o.plus (o.times a c) (o.times b p) ∷ linear o a b c cs

-- a product of factors (a + b X) at a point, the product of the b, and the product's coefficients
abbrev pub product_at : {K : Type 0} → Ops K → List (K × K) → K → K
product_at o [] t = o.one
product_at o (f ∷ fs) t = o.times (o.plus f.0 (o.times f.1 t)) (product_at o fs t)

abbrev pub slopes : {K : Type 0} → Ops K → List (K × K) → K
slopes o [] = o.one
slopes o (f ∷ fs) = o.times f.1 (slopes o fs)

abbrev pub product : {K : Type 0} → Ops K → List (K × K) → List K
product o [] = o.one ∷ []
product o (f ∷ fs) = linear o f.0 f.1 o.zero (product o fs)

-- f is a polynomial of degree at most k, with the coefficient x at k
pub record Represented {K : Type 0} (o : Ops K) (k : ℕ) (f : K → K) (x : K) : Type 0 where
  pub coefficients : List K
  pub long : length coefficients ≡ suc k
  pub top : last o.zero coefficients ≡ x
  pub at : (t : K) → f t ≡ eval o coefficients t
