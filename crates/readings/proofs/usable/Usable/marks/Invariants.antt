use Rattle.std.proofs.Common.{◌≡◌, map, take}
use Rattle.readings.specs.Counts.{bits}
use Rattle.readings.specs.Readings.{is_missing}
use Rattle.readings.specs.Points.{misses_reading}
use Rattle.readings.proofs.usable.Usable.marks.Given as goal

abbrev pub invariant-loop-i : goal.invariant-loop-i
invariant-loop-i g l =
    let rs = l.self.readings.now in
    (l.wrong ≡ bits (map (misses_reading g.F.Field.algebra l.self.d l.g) (take l.i rs)))
    × (l.missing ≡ bits (map is_missing (take l.i rs)))
