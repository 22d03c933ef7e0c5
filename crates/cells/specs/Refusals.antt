-- Why a store refuses, by case.
use Rattle.std.specs.Prelude.{◌≡◌, ℕ, cond, Some, None, Ok, Err, Option, Result, nat_lt}
use Rattle.fault.specs.declared.code.Part.TheVariants.{Store}
use Rattle.fault.specs.declared.code.FaultCode.{FaultCode}
use Rattle.cells.specs.declared.faults.StoreFault.{StoreFault}
use Rattle.cells.specs.declared.faults.StoreFault.TheVariants.{NoEntry, NotASymbol}

-- the part, the number and the position that each refusal tells
abbrev pub store_fault_code : StoreFault → FaultCode
store_fault_code (NoEntry i) = record { part = Store; number = 10; position = i }
store_fault_code (NotASymbol i) = record { part = Store; number = 11; position = i }

-- the same refusal, told of entry i
abbrev pub fault_at : ℕ → StoreFault → StoreFault
fault_at i (NoEntry j) = NoEntry i
fault_at i (NotASymbol j) = NotASymbol i

-- why a read or a wipe of entry i is refused where there are so many entries
abbrev pub access_fault : ℕ → ℕ → Option StoreFault
access_fault count i = cond (nat_lt i count) None (Some (NoEntry i))

-- why a put of the symbol v into entry i is refused under such a count and alphabet: the first that applies
abbrev pub put_fault : ℕ → ℕ → ℕ → ℕ → Option StoreFault
put_fault count alphabet i v = cond (nat_lt i count) (cond (nat_lt v alphabet) None (Some (NotASymbol i))) (Some (NoEntry i))

-- a check: accepted where there is no refusal, so that `fits` holds, and else that refusal
abbrev pub Checked : Result (Unit {0}) StoreFault → Option StoreFault → Type 0 → Type 0
Checked (Ok u) refusal fits = (refusal ≡ None) × fits
Checked (Err f) refusal fits = refusal ≡ Some f
