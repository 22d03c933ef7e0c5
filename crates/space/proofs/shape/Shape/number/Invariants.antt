use Rattle.std.proofs.Common.{◌≡◌}
use Rattle.space.specs.Places.{number}
use Rattle.space.proofs.shape.Shape.number.Given as goal

abbrev pub invariant-loop-x : goal.invariant-loop-x
invariant-loop-x l = l.number ≡ number l.self.q l.x-index l.digits
