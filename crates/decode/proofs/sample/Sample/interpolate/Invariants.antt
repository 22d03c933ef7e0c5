use Rattle.std.proofs.Common.{◌≤◌}
use Rattle.decode.specs.Fitted.{Fitting}
use Rattle.decode.proofs.sample.Sample.interpolate.Given as goal

abbrev pub invariant-loop-point : goal.invariant-loop-point
invariant-loop-point g l = Fitting g.F.Field.algebra l.e l.self.points.now l.point-index l.fit × (l.fit.count ≤ l.self.d)
