use Rattle.std.proofs.Common.{arith}
use Rattle.space.proofs.Spells.{spelled_start, spelled_next, spelled_end}
use Rattle.space.proofs.shape.Shape.spelled.Goals as goal

pub loop-i-init : goal.loop-i-init
loop-i-init c = spelled_start c.args.self.q c.args.self.m c.args.first c.args.number c.requires c.args.self.wide.1

pub loop-i-preserved : goal.loop-i-preserved
loop-i-preserved c =
    spelled_next c.args.self.q _ c.args.first c.args.number c.loop-i.i c.loop-i.rest c.loop-i.p c.loop-i.invariant (omega arith) (omega arith) (omega arith)
