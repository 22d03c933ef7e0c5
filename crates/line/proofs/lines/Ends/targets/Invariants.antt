use Rattle.std.proofs.Common.{◌≡◌, map, take}
use Rattle.line.specs.Asking.{target_at}
use Rattle.line.proofs.lines.Ends.targets.Given as goal

abbrev pub invariant-loop-t : goal.invariant-loop-t
invariant-loop-t g l = l.targets.items ≡ map (target_at g.F.Field.algebra l.self.shape.m l.self.first l.self.second) (take l.t-index l.marks)
