-- The remainders modulo q: sums, products and negatives of numbers below q, each replaced by its remainder.
use Rattle.std.specs.Prelude.{ℕ, ◌+◌, ◌-◌, ◌*◌, ◌%◌}
use Rattle.field.specs.Algebra.{Algebra}
use Rattle.field.specs.OnCodes.{on_codes}

abbrev pub residues : ℕ → Algebra
residues q = on_codes q (λ a b. (a + b) % q) (λ a b. (a * b) % q) (λ a. (q - a) % q)
