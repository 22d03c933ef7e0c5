use Rattle.std.proofs.Common.{◌≡◌, ◌≤◌, ◌++◌, length, drop}
use Rattle.readings.specs.Points.{points_of}
use Rattle.readings.proofs.usable.Usable.points.Given as goal

abbrev pub invariant-loop-reading : goal.invariant-loop-reading
invariant-loop-reading g l =
    let F = g.F.Field.algebra in
    let rs = l.self.readings.now in
    (l.points.items ++ points_of F l.self.d (drop l.reading-index rs) ≡ points_of F l.self.d rs) × (length l.points.items ≤ l.reading-index)
