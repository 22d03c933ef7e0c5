-- The two pairs of the search, and one step of it.
use Rattle.std.specs.Prelude.{◌≡◌, ℕ, ◌+◌, ◌-◌, ◌/◌, ◌<◌, ◌≤◌, cond, List, length, ◌==◌, nat_le, slice_index, slice_index_or}
use Rattle.std.specs.List.{AllByRecursion}
use Rattle.field.specs.Algebra.{Algebra, ops}
use Rattle.poly.specs.Poly.{eval}
use Rattle.decode.specs.Width.{width}
use Rattle.decode.specs.declared.key.Pair.{Pair}
use Rattle.decode.specs.Coefficients.{mix, raise}
use Rattle.decode.specs.Near.{Meets, Fits}

-- n - value * e at the point
abbrev pub discrepancy_of : Algebra → Pair → ℕ × ℕ → ℕ
discrepancy_of F x p = F.plus (eval (ops F) x.n p.0) (F.minus (F.times p.1 (eval (ops F) x.e p.0)))

abbrev pub raised_of : Algebra → Pair → ℕ → Pair
raised_of F x u = record { n = raise (ops F) (F.minus u) 0 x.n; e = raise (ops F) (F.minus u) 0 x.e; weight = x.weight + 1 }

-- p x - q y
abbrev pub mixed_of : Algebra → ℕ → Pair → ℕ → Pair → Pair
mixed_of F p x q y = record { n = mix (ops F) p x.n (F.minus q) y.n; e = mix (ops F) p x.e (F.minus q) y.e; weight = x.weight }

abbrev pub step_of : Algebra → ℕ × ℕ → Pair → Pair → Pair × Pair
step_of F p a b =
    cond (discrepancy_of F a p == 0)
    (cond (discrepancy_of F b p == 0) (a, b) (a, raised_of F b p.0))
    (cond (discrepancy_of F b p == 0) (raised_of F a p.0, b)
    (cond (nat_le a.weight b.weight)
    (raised_of F a p.0, mixed_of F (discrepancy_of F a p) b (discrepancy_of F b p) a)
    (mixed_of F (discrepancy_of F b p) a (discrepancy_of F a p) b, raised_of F b p.0)))

-- a pair that meets the first i points
pub record Shaped (F : Algebra) (d : ℕ) (ps : List (ℕ × ℕ)) (i : ℕ) (x : Pair) : Type 0 where
  pub n_long : length x.n ≡ width
  pub e_long : length x.e ≡ width
  pub fit : Fits F d x.weight x.n x.e
  pub meets : (j : ℕ) → j < i → Meets F x.n x.e (slice_index_or ps j (0, 0))

-- n leads in a, and e in b
pub record Leads (F : Algebra) (d : ℕ) (ps : List (ℕ × ℕ)) (i : ℕ) (a b : Pair) : Type 0 where
  pub a_ok : Shaped F d ps i a
  pub b_ok : Shaped F d ps i b
  pub a_top : 0 < slice_index a.n a.weight
  pub a_low : (k : ℕ) → k + d ≡ a.weight → slice_index a.e k ≡ 0
  pub b_min : d ≤ b.weight
  pub b_top : 0 < slice_index b.e (b.weight - d)
  pub weights : a.weight + b.weight ≤ d + i

-- a pair that meets every point, of degree at most half of d and the number of points, and not zero
pub record Solution (F : Algebra) (d : ℕ) (ps : List (ℕ × ℕ)) (x : Pair) : Type 0 where
  pub e_long : length x.e ≡ width
  pub fit : Fits F d ((length ps + d) / 2) x.n x.e
  pub meets : AllByRecursion (Meets F x.n x.e) ps
  pub some : ((k : ℕ) → slice_index x.e k ≡ 0) → ((k : ℕ) → slice_index x.n k ≡ 0) → ⊥
