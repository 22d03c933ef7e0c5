-- The answers of the calls on forms.
use Rattle.std.specs.Prelude.{ℕ, cond, List, Some, Ok, Err, Option, Result, ◌==◌}
use Rattle.fault.specs.declared.code.FaultCode.{FaultCode}
use Rattle.fault.specs.declared.code.Part.{Part}
use Rattle.field.specs.Algebra.{Algebra}
use Rattle.space.specs.declared.faults.PointFault.{PointFault}
use Rattle.space.specs.Points.{point_fault_code, at_point, at_place}
use Rattle.form.specs.declared.faults.FormFault.{FormFault}
use Rattle.form.specs.declared.faults.FormFault.TheVariants.{OtherField, WrongCount, NotACode, AtPoint}
use Rattle.form.specs.declared.sheet.Form.{Form}
use Rattle.form.specs.Forms.{value_at, symbol_at}
pub use Rattle.form.specs.Soundness.{excess, coefficient_fault, unless}

abbrev pub form_fault_code : FormFault → FaultCode
form_fault_code OtherField = record { part = Part.Plate; number = 20; position = 0 }
form_fault_code WrongCount = record { part = Part.Plate; number = 21; position = 0 }
form_fault_code (NotACode i) = record { part = Part.Plate; number = 22; position = i }
form_fault_code (AtPoint f) = point_fault_code f

-- the first refusal that coefficients meet as a form of the shape q, m, d over the field
abbrev pub form_fault : Algebra → ℕ → ℕ → ℕ → List ℕ → Option FormFault
form_fault F q m d cs = cond (q == F.size) (coefficient_fault q m d cs) (Some OtherField)

abbrev pub of_point : {X : Type 0} → Result X PointFault → Result X FormFault
of_point (Ok x) = Ok x
of_point (Err f) = Err (AtPoint f)

-- whether it is a form of its shape over the field
abbrev pub check_answer : Algebra → Form → Result (Unit {0}) FormFault
check_answer F f = unless (form_fault F f.shape.q f.shape.m f.shape.d f.coefficients.now) (Ok tt)

-- the value of a form at a point
abbrev pub value_answer : Algebra → Form → List ℕ → Result ℕ FormFault
value_answer F f p =
    unless (form_fault F f.shape.q f.shape.m f.shape.d f.coefficients.now)
    (of_point (at_point F f.shape.q f.shape.m p (Ok (value_at F f.shape.m f.shape.d f.coefficients.now p))))

-- the symbol of a form's codeword at a place
abbrev pub symbol_answer : Algebra → Form → ℕ → Result ℕ FormFault
symbol_answer F f i =
    unless (form_fault F f.shape.q f.shape.m f.shape.d f.coefficients.now)
    (of_point (at_place F f.shape.q f.shape.m i (Ok (symbol_at F f.shape.m f.shape.d f.coefficients.now i))))
