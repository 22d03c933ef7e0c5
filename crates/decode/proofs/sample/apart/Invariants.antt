use Rattle.std.proofs.Common.{◌↔◌, length}
use Rattle.poly.specs.Poly.{Distinct}
use Rattle.decode.specs.Near.{places}
use Rattle.decode.proofs.sample.apart.Given as goal

abbrev pub invariant-loop-first : goal.invariant-loop-first
invariant-loop-first l = Distinct (places l.rest) ↔ Distinct (places l.points)

abbrev pub decreases-loop-first : goal.decreases-loop-first
decreases-loop-first l = length l.rest
