use Rattle.decode.specs.Pairs.{Leads}
use Rattle.decode.proofs.sample.Sample.solve.Given as goal

abbrev pub invariant-loop-point : goal.invariant-loop-point
invariant-loop-point g l = Leads g.F.Field.algebra l.self.d l.self.points.now l.point-index l.a l.b
