use Rattle.std.proofs.Common.{◌≡◌, ◌+◌, ◌-◌, drop}
use Rattle.space.specs.Places.{place_of}
use Rattle.space.proofs.shape.Shape.rank.Given as goal

abbrev pub invariant-loop-first : goal.invariant-loop-first
invariant-loop-first l = l.place + place_of l.self.q (l.self.m - l.first) (drop l.first l.p) ≡ place_of l.self.q l.self.m l.p
