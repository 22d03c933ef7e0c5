-- Polynomials as lists of coefficients, the lowest first, over any carrier.
use Rattle.std.specs.Prelude.{◌≡◌, ℕ, suc, ◌<◌, ◌≤◌, ◌≢◌, List, [], ◌∷◌, length}
use Rattle.std.specs.List.{AllByRecursion}
use Rattle.field.specs.Algebra.{Algebra, Ops, Codes, ops}

-- c0 + c1 t + c2 t^2 + ..
abbrev pub eval : {K : Type 0} → Ops K → List K → K → K
eval o [] t = o.zero
eval o (c ∷ cs) t = o.plus c (o.times t (eval o cs t))

-- the last of the list, or p
abbrev pub last : {K : Type 0} → K → List K → K
last p [] = p
last p (c ∷ cs) = last c cs

-- no two are the same
abbrev pub Distinct : {K : Type 0} → List K → Type 0
Distinct [] = Unit {0}
Distinct (r ∷ rs) = AllByRecursion (λ s. s ≢ r) rs × Distinct rs

-- At codes, f is a polynomial of degree at most k, with the coefficient x at k.
pub record Degree (F : Algebra) (k : ℕ) (f : ℕ → ℕ) (x : ℕ) : Type 0 where
  pub coefficients : List ℕ
  pub codes : Codes F coefficients
  pub long : length coefficients ≡ suc k
  pub top : last 0 coefficients ≡ x
  pub at : (t : ℕ) → t < F.size → f t ≡ eval (ops F) coefficients t

-- A polynomial with as many distinct roots as coefficients is 0.
abbrev pub FewRoots : Algebra → Type 0
FewRoots F =
    (rs cs : List ℕ) → Codes F rs → Codes F cs → length cs ≤ length rs → Distinct rs
    → AllByRecursion (λ r. eval (ops F) cs r ≡ 0) rs → AllByRecursion (λ c. c ≡ 0) cs

-- Two polynomials of n coefficients that agree at n distinct points are the same.
abbrev pub Unique : Algebra → Type 0
Unique F =
    (rs cs ds : List ℕ) → Codes F rs → Codes F cs → Codes F ds → length cs ≡ length rs → length ds ≡ length rs → Distinct rs
    → AllByRecursion (λ r. eval (ops F) cs r ≡ eval (ops F) ds r) rs → cs ≡ ds
