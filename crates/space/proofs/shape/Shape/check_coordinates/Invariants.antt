use Rattle.std.proofs.Common.{◌≡◌, drop}
use Rattle.space.specs.Points.{first_bad}
use Rattle.space.proofs.shape.Shape.check_coordinates.Given as goal

abbrev pub invariant-loop-position : goal.invariant-loop-position
invariant-loop-position l = first_bad l.self.q l.self.m l.position (drop l.position l.x-items) ≡ first_bad l.self.q l.self.m 0 l.x-items
