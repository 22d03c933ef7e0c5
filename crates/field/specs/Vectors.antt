-- Lists of field elements, coordinate by coordinate.
use Rattle.std.specs.Prelude.{List, [], ◌∷◌}
use Rattle.field.specs.Algebra.{Ops}

-- k times the list
abbrev pub scale : {K : Type 0} → Ops K → K → List K → List K
scale o k [] = []
scale o k (x ∷ xs) = o.times k x ∷ scale o k xs

-- the sum; where one list is longer, its rest stands as it is
abbrev pub add : {K : Type 0} → Ops K → List K → List K → List K
add o [] ys = ys
add o (x ∷ xs) [] = x ∷ xs
add o (x ∷ xs) (y ∷ ys) = o.plus x y ∷ add o xs ys

-- w + t v
abbrev pub along : {K : Type 0} → Ops K → List K → List K → K → List K
along o w v t = add o w (scale o t v)
