-- The value of a form as the code finds it.
use Rattle.std.specs.Prelude.{◌≡◌, ℕ, zero, suc, ◌+◌, ◌≤◌, List, [], ◌∷◌, length, drop, slice_index, slice_index_or}
use Rattle.field.specs.Algebra.{Ops, power}

-- f 0 + .. + f d
abbrev pub summed : (ℕ → ℕ) → ℕ → ℕ
summed f zero = f zero
summed f (suc d) = summed f d + f (suc d)

-- How many vectors of n coordinates and degree d there are.
abbrev pub terms : ℕ → ℕ → ℕ
terms zero zero = 1
terms zero (suc d) = 0
terms (suc n) d = summed (terms n) d

-- By the first coordinate: what f gives for each degree up to d, times x for each degree that is left; n is the number of coordinates of f.
abbrev pub horner : {K : Type 0} → Ops K → K → ℕ → (ℕ → List K → K) → ℕ → List K → K
horner o x n f zero cs = f zero cs
horner o x n f (suc d) cs = o.plus (o.times (horner o x n f d cs) x) (f (suc d) (drop (terms (suc n) d) cs))

-- The value as the code finds it.
abbrev pub nested : {K : Type 0} → Ops K → List K → ℕ → List K → K
nested o [] d cs = o.zero
nested o (x ∷ []) d cs = o.times (slice_index_or cs 0 o.zero) (power o x d)
nested o (x ∷ (y ∷ ys)) d cs = horner o x (suc (length ys)) (nested o (y ∷ ys)) d cs

-- A table of the powers of x up to d.
abbrev pub Powers : Ops ℕ → ℕ → ℕ → List ℕ → Type 0
Powers o x d t = (e : ℕ) → e ≤ d → slice_index t e ≡ power o x e
