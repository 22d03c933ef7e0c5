use Rattle.std.proofs.Common.{◌≡◌, length}
use Rattle.field.specs.Algebra.{ops}
use Rattle.form.specs.Evaluation.{nested}
use Rattle.form.proofs.evaluate.over_two.Given as goal

abbrev pub invariant-loop-c : goal.invariant-loop-c
invariant-loop-c g l = l.total ≡ nested (ops g.F.Field.algebra) l.xs (length l.yielded) l.cs
