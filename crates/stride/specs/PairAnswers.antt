-- What making a pair of n and step answers, and what its refusal tells.
use Rattle.std.specs.Prelude.{◌≡◌, ℕ, Ok, Err, Result}
use Rattle.fault.specs.declared.code.Part.TheVariants.{Store}
use Rattle.fault.specs.declared.code.FaultCode.{FaultCode}
use Rattle.stride.specs.declared.pair.StridePair.{StridePair}
use Rattle.stride.specs.declared.pair.StrideFault.{StrideFault}
use Rattle.stride.specs.declared.pair.StrideFault.TheVariants.{NoStride}
use Rattle.stride.specs.Strides.{MakesStride}

abbrev pub stride_fault_code : StrideFault → FaultCode
stride_fault_code NoStride = record { part = Store; number = 12; position = 0 }

-- a pair of the two where they make a stride, and else the refusal
abbrev pub PairAnswer : ℕ → ℕ → Result StridePair StrideFault → Type 0
PairAnswer n step (Ok pair) = MakesStride n step × (pair.n ≡ n) × (pair.step ≡ step)
PairAnswer n step (Err fault) = (MakesStride n step → ⊥) × (fault ≡ NoStride)
