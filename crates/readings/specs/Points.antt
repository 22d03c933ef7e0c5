-- The readings as points of the search. With U for 1 / X the line is read from its other end: H of degree d becomes G(U) = U^d H(1 / U), whose
-- coefficients are those of H backwards, and infinity becomes the point 0.
use Rattle.std.specs.Prelude.{ℕ, Bool, false, cond, not, unwrap_or, List, [], ◌∷◌, ◌==◌}
use Rattle.field.specs.Algebra.{Algebra, inverse, ops, power}
use Rattle.cells.specs.declared.entries.Entry.{Entry}
use Rattle.cells.specs.declared.entries.Entry.TheVariants.{Symbol, Missing}
use Rattle.decode.specs.Near.{through}
use Rattle.readings.specs.declared.kinds.Reading.{Reading}
use Rattle.readings.specs.Readings.{value_of}

-- 1 / t, with 0 for what has no inverse
abbrev pub over_mark : Algebra → ℕ → ℕ
over_mark F t = unwrap_or (inverse F t) 0

-- The point (1 / t, (1 / t)^d times the value) of a symbol y read at mark t, and (0, the value) at infinity.
abbrev pub point_of : Algebra → ℕ → Reading → ℕ → ℕ × ℕ
point_of F d r y =
    cond (r.mark == F.size) (0, value_of F d r y)
    (over_mark F r.mark, F.times (power (ops F) (over_mark F r.mark) d) (value_of F d r y))

abbrev pub with_point : Algebra → ℕ → Reading → Entry → List (ℕ × ℕ) → List (ℕ × ℕ)
with_point F d r (Symbol y) ps = point_of F d r y ∷ ps
with_point F d r Missing ps = ps

-- the points of the symbols that were read
abbrev pub points_of : Algebra → ℕ → List Reading → List (ℕ × ℕ)
points_of F d [] = []
points_of F d (r ∷ rs) = with_point F d r r.entry (points_of F d rs)

abbrev pub misses_entry : Algebra → ℕ → List ℕ → Reading → Entry → Bool
misses_entry F d g r (Symbol y) = not (through (ops F) g (point_of F d r y))
misses_entry F d g r Missing = false

-- G does not go through the reading's point
abbrev pub misses_reading : Algebra → ℕ → List ℕ → Reading → Bool
misses_reading F d g r = misses_entry F d g r r.entry
