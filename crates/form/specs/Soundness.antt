-- Which coefficients are a form of a shape.
use Rattle.std.specs.Prelude.{ℕ, suc, cond, List, [], ◌∷◌, length, Some, None, Err, Option, Result, ◌==◌, nat_le}
use Rattle.form.specs.declared.faults.FormFault.{FormFault}
use Rattle.form.specs.declared.faults.FormFault.TheVariants.{WrongCount, NotACode}
use Rattle.form.specs.Forms.{coefficient_count}

-- the first coefficient of q or more of those from i on
abbrev pub first_excess : ℕ → ℕ → List ℕ → Option ℕ
first_excess q i [] = None
first_excess q i (c ∷ cs) = cond (nat_le q c) (Some i) (first_excess q (suc i) cs)

abbrev pub excess : Option ℕ → Option FormFault
excess (Some i) = Some (NotACode i)
excess None = None

-- the first refusal that coefficients meet as a form of the shape q, m, d
abbrev pub coefficient_fault : ℕ → ℕ → ℕ → List ℕ → Option FormFault
coefficient_fault q m d cs = cond (length cs == coefficient_count m d) (excess (first_excess q 0 cs)) (Some WrongCount)

abbrev pub unless : {X : Type 0} → Option FormFault → Result X FormFault → Result X FormFault
unless (Some f) r = Err f
unless None r = r
