use Rattle.space.proofs.Spells.{Spelled}
use Rattle.space.proofs.shape.Shape.spelled.Given as goal

abbrev pub invariant-loop-i : goal.invariant-loop-i
invariant-loop-i l = Spelled l.q l.initial.i l.first l.initial.rest l.i l.rest l.p
