-- Coefficients through one point more at a time.
use Rattle.std.specs.Prelude.{◌≡◌, ℕ, suc, ◌+◌, ◌<◌, ◌≤◌, true, List, length, take, Some, None, Option, unwrap_or, slice_index, slice_index_or}
use Rattle.std.specs.List.{AllByRecursion}
use Rattle.field.specs.Algebra.{Algebra, inverse, ops}
use Rattle.poly.specs.Poly.{eval}
use Rattle.decode.specs.Width.{width}
use Rattle.decode.specs.declared.newton.Fit.{Fit}
use Rattle.decode.specs.Coefficients.{mix, raise}
use Rattle.decode.specs.Near.{usable, picked}

-- what the point misses, over what m comes to there
abbrev pub factor_of : Algebra → Fit → ℕ × ℕ → ℕ
factor_of F f p = F.times (F.plus p.1 (F.minus (eval (ops F) f.p p.0))) (unwrap_or (inverse F (eval (ops F) f.m p.0)) 0)

abbrev pub fitted_of : Algebra → Fit → ℕ × ℕ → Fit
fitted_of F f p = record { p = mix (ops F) 1 f.p (factor_of F f p) f.m; m = raise (ops F) (F.minus p.0) 0 f.m; count = f.count + 1 }

-- p goes through the usable ones of the first i points; m vanishes there, and not at the points to come
pub record Fitting (F : Algebra) (es : List ℕ) (ps : List (ℕ × ℕ)) (i : ℕ) (f : Fit) : Type 0 where
  pub p_long : length f.p ≡ width
  pub m_long : length f.m ≡ width
  pub p_in : AllByRecursion (λ c. c < F.size) f.p
  pub m_in : AllByRecursion (λ c. c < F.size) f.m
  pub p_past : (k : ℕ) → f.count ≤ k → slice_index f.p k ≡ 0
  pub m_past : (k : ℕ) → f.count < k → slice_index f.m k ≡ 0
  pub at : (j : ℕ) → j < i → usable (ops F) es (slice_index_or ps j (0, 0)) ≡ true
      → (eval (ops F) f.p (slice_index_or ps j (0, 0)).0 ≡ (slice_index_or ps j (0, 0)).1) × (eval (ops F) f.m (slice_index_or ps j (0, 0)).0 ≡ 0)
  pub ahead : (j : ℕ) → i ≤ j → j < length ps → 0 < eval (ops F) f.m (slice_index_or ps j (0, 0)).0
  pub counts : length (picked (usable (ops F) es) (take i ps)) ≡ f.count

-- d + 1 coefficients through the first d + 1 usable points
pub record Through (F : Algebra) (es : List ℕ) (d : ℕ) (ps : List (ℕ × ℕ)) (g : List ℕ) : Type 0 where
  pub long : length g ≡ width
  pub small : AllByRecursion (λ c. c < F.size) g
  pub past : (k : ℕ) → d < k → slice_index g k ≡ 0
  pub upto : ℕ
  pub within : upto ≤ length ps
  pub at : (j : ℕ) → j < upto → usable (ops F) es (slice_index_or ps j (0, 0)) ≡ true → eval (ops F) g (slice_index_or ps j (0, 0)).0 ≡ (slice_index_or ps j (0, 0)).1
  pub many : length (picked (usable (ops F) es) (take upto ps)) ≡ suc d

abbrev pub Interpolated : Algebra → List ℕ → ℕ → List (ℕ × ℕ) → Option (List ℕ) → Type 0
Interpolated F es d ps (Some g) = Through F es d ps g
Interpolated F es d ps None = length (picked (usable (ops F) es) ps) ≤ d
