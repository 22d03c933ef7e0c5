use Rattle.std.proofs.Common.{◌≡◌, length}
use Rattle.field.specs.Algebra.{ops}
use Rattle.form.specs.Evaluation.{Powers}
use Rattle.form.proofs.evaluate.powers.Given as goal

abbrev pub invariant-loop-e : goal.invariant-loop-e
invariant-loop-e g l = (length l.table ≡ 16) × Powers (ops g.F.Field.algebra) l.x l.e l.table
