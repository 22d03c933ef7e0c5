use Rattle.std.proofs.Common.{◌≡◌, ◌+◌, ◌-◌}
use Rattle.space.specs.Places.{group_of}
use Rattle.space.proofs.shape.Shape.group.Given as goal

abbrev pub invariant-loop-first : goal.invariant-loop-first
invariant-loop-first l =
    let g = group_of l.self.q (l.self.m - l.first) l.rest in
    group_of l.self.q l.self.m l.initial.rest ≡ (l.first + g.0, g.1)
