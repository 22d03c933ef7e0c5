-- The answers of the calls that go from points to places and back.
use Rattle.std.specs.Prelude.{◌≡◌, ℕ, suc, ◌<◌, Bool, cond, not, ◌&&◌, ◌||◌, List, [], ◌∷◌, Some, None, Ok, Err, Option, Result, ◌==◌, nat_le, nat_lt}
use Rattle.fault.specs.declared.code.FaultCode.{FaultCode}
use Rattle.fault.specs.declared.code.Part.{Part}
use Rattle.field.specs.Algebra.{Algebra, Ops, inverse, ops}
use Rattle.field.specs.Vectors.{scale}
use Rattle.space.specs.declared.faults.PointFault.{PointFault}
use Rattle.space.specs.declared.faults.PointFault.TheVariants.{OtherField, NotACoordinate, AllZero, NoPlace}
use Rattle.space.specs.declared.points.NormalForm.{NormalForm}
use Rattle.space.specs.declared.points.Location.{Location}
use Rattle.space.specs.Counts.{cells}
use Rattle.space.specs.Places.{divisor, normal, Normal, place_of, point_of}

abbrev pub point_fault_code : PointFault → FaultCode
point_fault_code OtherField = record { part = Part.Plate; number = 20; position = 0 }
point_fault_code (NotACoordinate i) = record { part = Part.Plate; number = 23; position = i }
point_fault_code AllZero = record { part = Part.Plate; number = 24; position = 0 }
point_fault_code (NoPlace p) = record { part = Part.Plate; number = 30; position = p }

-- x is q or more, or not 0 past xm, where x is coordinate i
abbrev pub bad_coordinate : ℕ → ℕ → ℕ → ℕ → Bool
bad_coordinate q m i x = nat_le q x || (nat_lt m i && not (x == 0))

-- the first such coordinate of those from i on
abbrev pub first_bad : ℕ → ℕ → ℕ → List ℕ → Option ℕ
first_bad q m i [] = None
first_bad q m i (x ∷ xs) = cond (bad_coordinate q m i x) (Some i) (first_bad q m (suc i) xs)

abbrev pub divided : List ℕ → Ops ℕ → Option ℕ → Option NormalForm
divided p o (Some k) = Some (record { point = scale o k p; divisor = divisor p })
divided p o None = None

-- a point over its divisor, where the divisor has an inverse
abbrev pub normal_form : Algebra → List ℕ → Option NormalForm
normal_form F p = divided p (ops F) (inverse F (divisor p))

-- What the normal form of a point is: the point is the divisor times the normal form, which is a normal point.
pub record Normalised (F : Algebra) (m : ℕ) (p : List ℕ) (n : NormalForm) : Type 0 where
  pub divides : n.divisor ≡ divisor p
  pub positive : 0 < n.divisor
  pub is : n.point ≡ normal F p
  pub back : scale (ops F) n.divisor n.point ≡ p
  pub point : Normal F.size m n.point

-- Only the point 0 has none.
abbrev pub NormalAnswer : Algebra → ℕ → List ℕ → Option NormalForm → Type 0
NormalAnswer F m p (Some n) = Normalised F m p n
NormalAnswer F m p None = divisor p ≡ 0

abbrev pub checked : {X : Type 0} → Result X PointFault → Option ℕ → Result X PointFault
checked r (Some i) = Err (NotACoordinate i)
checked r None = r

-- The answer r of a call on a point of a shape over q symbols, where the field has q symbols and the point is one of the shape.
abbrev pub at_point : {X : Type 0} → Algebra → ℕ → ℕ → List ℕ → Result X PointFault → Result X PointFault
at_point F q m p r = cond (q == F.size) (checked r (first_bad q m 0 p)) (Err OtherField)

-- The place is that of the normal form, and the divisor times the point there is p again.
pub record Stands (F : Algebra) (q m : ℕ) (p : List ℕ) (l : Location) : Type 0 where
  pub below : l.place < cells q m
  pub point : point_of q m l.place ≡ normal F p
  pub positive : 0 < l.divisor
  pub back : scale (ops F) l.divisor (point_of q m l.place) ≡ p

-- the place of a point's normal form, and the divisor
abbrev pub location : Algebra → ℕ → ℕ → List ℕ → Result Location PointFault
location F q m p =
    at_point F q m p (cond (divisor p == 0) (Err AllZero) (Ok (record { place = place_of q m (normal F p); divisor = divisor p })))

abbrev pub only_place : Result Location PointFault → Result ℕ PointFault
only_place (Ok l) = Ok l.place
only_place (Err f) = Err f

abbrev pub place_answer : Algebra → ℕ → ℕ → List ℕ → Result ℕ PointFault
place_answer F q m p = only_place (location F q m p)

-- The answer r of a call on a place of a shape over q symbols, where the field has q symbols and there is such a place.
abbrev pub at_place : {X : Type 0} → Algebra → ℕ → ℕ → ℕ → Result X PointFault → Result X PointFault
at_place F q m i r = cond (q == F.size) (cond (nat_lt i (cells q m)) r (Err (NoPlace i))) (Err OtherField)

abbrev pub point_answer : Algebra → ℕ → ℕ → ℕ → Result (List ℕ) PointFault
point_answer F q m i = at_place F q m i (Ok (point_of q m i))
