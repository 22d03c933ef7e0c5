use Rattle.std.proofs.Common.{◌≡◌, suc, ◌+◌, ◌-◌, ◌^◌, ◌<◌, ◌≤◌, sym, refl, ◌∙◌, arith}
use Rattle.space.specs.Places.{group_of}
use Rattle.space.proofs.Spells.{group_here, group_there}
use Rattle.space.proofs.shape.Shape.group.Goals as goal

pub loop-first-preserved : goal.loop-first-preserved
loop-first-preserved c =
    let q = c.args.self.q in
    let n = c.args.self.m - c.loop-first.first in
    let h : q ^ n ≤ c.loop-first.rest = omega arith in
    let g = group_there q n c.loop-first.rest (omega arith) h in
    let e : c.args.self.m - (c.loop-first.first + 1) ≡ n - 1 = omega arith in
    let s = c.power-size.ensures.0 in
    let x = (group_of q (n - 1) (c.loop-first.rest - q ^ n)).0 in
    let f : c.loop-first.first + suc x ≡ c.loop-first.first + 1 + x = omega arith in
    c.loop-first.invariant ∙ rw (g, e, s, f) refl
