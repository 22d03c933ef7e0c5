use Rattle.std.proofs.Common.{◌≡◌}
use Rattle.field.specs.Algebra.{ops, power}
use Rattle.field.proofs.power.Given as goal

abbrev pub invariant-loop-k : goal.invariant-loop-k
invariant-loop-k g l = l.product ≡ power (ops g.F.Field.algebra) l.x l._k
