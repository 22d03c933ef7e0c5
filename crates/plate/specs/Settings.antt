-- What a plate is made of, and its refusals by case.
use Rattle.std.specs.Prelude.{ℕ, Bool, ◌&&◌, ◌==◌, nat_le}
use Rattle.fault.specs.declared.code.FaultCode.{FaultCode}
use Rattle.fault.specs.declared.code.Part.{Part}
use Rattle.field.specs.Algebra.{Algebra}
use Rattle.space.specs.Counts.{cells}
use Rattle.space.specs.declared.shape.Shape.{Shape}
use Rattle.form.specs.Sheets.{form_fault_code}
use Rattle.cells.specs.Stores.{Meaning, count_of}
use Rattle.cells.specs.Refusals.{store_fault_code}
use Rattle.line.specs.Asking.{line_fault_code}
use Rattle.plate.specs.declared.faults.PlateFault.{PlateFault}
use Rattle.plate.specs.declared.faults.PlateFault.TheVariants.{Unfit, AtForm, AtStore, AtLine}

abbrev pub plate_fault_code : PlateFault → FaultCode
plate_fault_code Unfit = record { part = Part.Plate; number = 20; position = 0 }
plate_fault_code (AtForm f) = form_fault_code f
plate_fault_code (AtStore f) = store_fault_code f
plate_fault_code (AtLine f) = line_fault_code f

-- A plate's setting: its field, its shape q, m and d, and the count and the alphabet of its store. No call changes it.
pub record Setting : Type 0 where
  pub field : Algebra
  pub q : ℕ
  pub m : ℕ
  pub d : ℕ
  pub count : ℕ
  pub alphabet : ℕ

abbrev pub setting_of : Algebra → Shape → Meaning → Setting
setting_of F shape store = record { field = F; q = shape.q; m = shape.m; d = shape.d; count = count_of store; alphabet = store.alphabet }

-- A plate fits: the shape's q is the field's, the store has as many cells as the shape places, and its alphabet has at least q symbols.
abbrev pub fits : Setting → Bool
fits s = s.q == s.field.size && (s.count == cells s.q s.m && nat_le s.q s.alphabet)
