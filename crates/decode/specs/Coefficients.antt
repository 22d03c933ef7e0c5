-- Lists of coefficients, the lowest first.
use Rattle.std.specs.Prelude.{ℕ, zero, suc, List, [], ◌∷◌, slice_index_or}
use Rattle.field.specs.Algebra.{Ops}
use Rattle.field.specs.Vectors.{add, scale}

-- p times the one and q times the other
abbrev pub mix : {K : Type 0} → Ops K → K → List K → K → List K → List K
mix o p xs q ys = add o (scale o p xs) (scale o q ys)

-- (X + a) times the list, cut to the list's length, with p the coefficient before the list's first
abbrev pub raise : {K : Type 0} → Ops K → K → K → List K → List K
raise o a p [] = []
raise o a p (c ∷ cs) = o.plus (o.times a c) p ∷ raise o a c cs

-- the coefficient before the place k, with p the one before the list's first
abbrev pub before : {K : Type 0} → K → List K → K → ℕ → K
before p xs d zero = p
before p xs d (suc k) = slice_index_or xs k d
