use Rattle.std.proofs.Common.{◌≡◌, length, drop}
use Rattle.field.specs.Algebra.{ops}
use Rattle.form.specs.Evaluation.{nested, terms}
use Rattle.form.proofs.evaluate.+over.Given as goal

abbrev pub decreases-over : goal.decreases-over
decreases-over g l = length l.xs.now

abbrev pub invariant-loop-j : goal.invariant-loop-j
invariant-loop-j g l =
    (l.total ≡ nested (ops g.F.Field.algebra) l.xs l.j l.cs)
    × (l.rest ≡ drop (terms (length l.xs) l.j) l.cs)
