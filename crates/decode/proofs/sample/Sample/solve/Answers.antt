use Rattle.std.proofs.Common.{◌+◌, sym, refl, subst, arith}
use Rattle.decode.specs.Width.{top}
use Rattle.decode.specs.declared.key.Pair.{Pair}
use Rattle.decode.specs.Pairs.{Leads}
use Rattle.decode.proofs.Start.{start_from, a_solves, b_solves}
use Rattle.decode.proofs.Steps.{stepped}
use Rattle.decode.proofs.sample.Sample.solve.Goals as goal

pub loop-point-init : goal.loop-point-init
loop-point-init g c =
    start_from g.met.F.Field.lawful c.args.self.now.d top c.args.self.now.points.now refl c.constant.result c.constant-2.result c.constant-3.result c.constant-4.result
    c.constant.ensures c.constant-2.ensures c.constant-3.ensures c.constant-4.ensures

pub loop-point-preserved : goal.loop-point-preserved
loop-point-preserved g c =
    let F = g.F.Field.algebra in
    let s = c.args.self.now in
    let ps = s.points.now in
    let i = c.loop-point.point-index in
    let P : Pair × Pair → Type 0 = λ r. Leads F s.d ps (i + 1) r.0 r.1 in
    subst P (sym c.step.ensures)
    (stepped g.met.F.Field.lawful s.d ps (record { small = s.codes; apart = s.apart }) i c.loop-point-test.true (omega arith) c.loop-point.a c.loop-point.b c.loop-point.invariant)

pub returns-then-a-b : goal.returns-then-a-b
returns-then-a-b g c =
    a_solves c.args.self.now.d c.args.self.now.points.now c.loop-point.point-index c.loop-point.a c.loop-point.b c.loop-point.invariant (omega arith) (omega arith) c.if-a-b.true

pub returns-else-a-b : goal.returns-else-a-b
returns-else-a-b g c =
    b_solves c.args.self.now.d c.args.self.now.points.now c.loop-point.point-index c.loop-point.a c.loop-point.b c.loop-point.invariant (omega arith) (omega arith) c.if-a-b.false
