-- Forms of degree d: their exponent vectors in order, and their value at a point.
use Rattle.std.specs.Prelude.{◌≡◌, ℕ, zero, suc, ◌+◌, ◌-◌, ◌*◌, ◌^◌, ◌<◌, ◌⊎◌, List, [], ◌∷◌, ◌++◌, map, length, take}
use Rattle.std.specs.List.{ContainsAt as Has, AllByRecursion}
use Rattle.field.specs.Algebra.{Algebra, Ops, Codes, ops, power}
use Rattle.field.specs.Vectors.{scale, along}
use Rattle.poly.specs.Poly.{Degree}
use Rattle.space.specs.Places.{point_of}

-- The exponent vectors with a first exponent from e + j down to e, each followed by the vectors of f for what is left of e + j.
abbrev pub spread : (ℕ → List (List ℕ)) → ℕ → ℕ → List (List ℕ)
spread f e zero = map (λ v. e ∷ v) (f zero)
spread f e (suc j) = spread f (suc e) j ++ map (λ v. e ∷ v) (f (suc j))

-- The exponent vectors of n coordinates and degree d: the highest first exponent first, among equals the highest second, and so on.
abbrev pub vectors : ℕ → ℕ → List (List ℕ)
vectors zero zero = [] ∷ []
vectors zero (suc d) = []
vectors (suc n) d = spread (vectors n) 0 d

-- x0^e0 .. xm^em
abbrev pub monomial : {K : Type 0} → Ops K → List K → List ℕ → K
monomial o [] es = o.one
monomial o (x ∷ xs) [] = o.one
monomial o (x ∷ xs) (e ∷ es) = o.times (power o x e) (monomial o xs es)

-- The sum of coefficient times monomial.
abbrev pub total : {K : Type 0} → Ops K → List K → List K → List (List ℕ) → K
total o p [] vs = o.zero
total o p (c ∷ cs) [] = o.zero
total o p (c ∷ cs) (v ∷ vs) = o.plus (o.times c (monomial o p v)) (total o p cs vs)

-- The value at p of the form of degree d with the coefficients cs.
abbrev pub value : {K : Type 0} → Ops K → List K → ℕ → List K → K
value o p d cs = total o p cs (vectors (length p) d)

-- The value at the point p of the form over x0 to xm of degree d with the coefficients cs.
abbrev pub value_at : Algebra → ℕ → ℕ → List ℕ → List ℕ → ℕ
value_at F m d cs p = value (ops F) (take (suc m) p) d cs

-- The symbol of the form's codeword at place i: its value at the normal point there.
abbrev pub symbol_at : Algebra → ℕ → ℕ → List ℕ → ℕ → ℕ
symbol_at F m d cs i = value_at F m d cs (point_of F.size m i)

-- n over k
abbrev pub choose : ℕ → ℕ → ℕ
choose n zero = 1
choose zero (suc k) = 0
choose (suc n) (suc k) = choose n k + choose n (suc k)

-- How many coefficients a form over x0 to xm of degree d has.
abbrev pub coefficient_count : ℕ → ℕ → ℕ
coefficient_count m d = choose (m + d) d

-- (q - d) q^(m - 1)
abbrev pub gap_of : ℕ → ℕ → ℕ → ℕ
gap_of q m d = (q - d) * q ^ (m - 1)

-- The sum of the exponents.
abbrev pub degree : List ℕ → ℕ
degree [] = 0
degree (e ∷ es) = e + degree es

-- u stands before v: at the first place where they differ u is greater.
abbrev pub Before : List ℕ → List ℕ → Type 0
Before [] v = ⊥
Before (a ∷ u) [] = ⊥
Before (a ∷ u) (b ∷ v) = (b < a) ⊎ ((a ≡ b) × Before u v)

-- each stands before all that follow
abbrev pub Descending : List (List ℕ) → Type 0
Descending [] = Unit {0}
Descending (u ∷ us) = AllByRecursion (Before u) us × Descending us

-- The list of vectors has every vector of n exponents with the sum d, no other, and in descending order.
pub record Listed (n d : ℕ) (vs : List (List ℕ)) : Type 0 where
  pub sound : AllByRecursion (λ v. (length v ≡ n) × (degree v ≡ d)) vs
  pub complete : (v : List ℕ) → length v ≡ n → degree v ≡ d → Has vs v
  pub ordered : Descending vs

-- What the value of a form over n coordinates is: the sum runs over exactly the exponent vectors of sum d, the highest power of x0 first,
-- among equals of x1, and so on; and there are n - 1 + d over d of them.
pub record VectorsListed (m d : ℕ) : Type 0 where
  pub listed : Listed (suc m) d (vectors (suc m) d)
  pub counted : length (vectors (suc m) d) ≡ coefficient_count m d

-- The value at k times p is the value at p times k to the degree.
abbrev pub Multiples : Algebra → ℕ → Type 0
Multiples F d =
    (p cs : List ℕ) → Codes F p → Codes F cs → (k : ℕ) → k < F.size
    → value (ops F) (scale (ops F) k p) d cs ≡ F.times (power (ops F) k d) (value (ops F) p d cs)

-- Along w + t v a form of degree d is a polynomial in t of degree at most d, with the form's value at v as its coefficient at d.
abbrev pub OnLines : Algebra → ℕ → Type 0
OnLines F d =
    (w v cs : List ℕ) → Codes F w → Codes F v → Codes F cs → length w ≡ length v
    → Degree F d (λ t. value (ops F) (along (ops F) w v t) d cs) (value (ops F) v d cs)

-- What v is as the value at p of a form: the form's value at k times p is k^d v, and along w + t p the form is a polynomial in t of degree at
-- most d with v as its coefficient at d.
pub record Leading (F : Algebra) (m d : ℕ) (cs p : List ℕ) (v : ℕ) : Type 0 where
  pub multiples : (k : ℕ) → k < F.size → value_at F m d cs (scale (ops F) k p) ≡ F.times (power (ops F) k d) v
  pub lines : (w : List ℕ) → length w ≡ length p → Codes F w → Degree F d (λ t. value_at F m d cs (along (ops F) w p t)) v
