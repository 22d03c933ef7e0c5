-- Which numbers make a shape, and the faults of those that make none.
use Rattle.std.specs.Prelude.{◌≡◌, ℕ, cond, Some, None, Ok, Err, Option, Result}
use Rattle.fault.specs.declared.code.FaultCode.{FaultCode}
use Rattle.fault.specs.declared.code.Part.{Part}
use Rattle.space.specs.declared.faults.ShapeFault.{ShapeFault}
use Rattle.space.specs.declared.faults.ShapeFault.TheVariants.{NoColumn, WrongVariables, WrongDegree}
use Rattle.space.specs.declared.shape.Shape.{Shape}
use Rattle.space.specs.Counts.{has_column, wide, steep}

abbrev pub shape_fault_code : ShapeFault → FaultCode
shape_fault_code NoColumn = record { part = Part.Shape; number = 1; position = 0 }
shape_fault_code WrongVariables = record { part = Part.Shape; number = 2; position = 0 }
shape_fault_code WrongDegree = record { part = Part.Shape; number = 3; position = 0 }

-- the first refusal that q, m and d meet
abbrev pub shape_refusal : ℕ → ℕ → ℕ → Option ShapeFault
shape_refusal q m d = cond (has_column q) (cond (wide m) (cond (steep q d) None (Some WrongDegree)) (Some WrongVariables)) (Some NoColumn)

-- the shape of q, m and d where they meet none, else the first
abbrev pub ShapeAnswer : ℕ → ℕ → ℕ → Result Shape ShapeFault → Type 0
ShapeAnswer q m d (Ok s) = (shape_refusal q m d ≡ None) × (s.q ≡ q) × (s.m ≡ m) × (s.d ≡ d)
ShapeAnswer q m d (Err f) = shape_refusal q m d ≡ Some f
