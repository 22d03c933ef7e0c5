use Rattle.std.proofs.Common.{sym, subst, arith}
use Rattle.decode.specs.Near.{Decoded, Points}
use Rattle.decode.proofs.Final.{none_at_all, decided}
use Rattle.decode.proofs.sample.Sample.near.Goals as goal

pub returns-in_err-g : goal.returns-in_err-g
returns-in_err-g g c =
    let s = c.args.self.now in
    let ok : Points g.F.Field.algebra s.points.now = record { small = s.codes; apart = s.apart } in
    subst (Decoded g.F.Field.algebra s.d s.points.now) (sym c.from_residual.ensures)
    (none_at_all g.met.F.Field.lawful s.d s.points.now ok c.solve-pair.result c.solve-pair.ensures (omega arith) (omega arith) c.in_err-g.ensures)

pub returns : goal.returns
returns g c =
    let s = c.args.self.now in
    let ok : Points g.F.Field.algebra s.points.now = record { small = s.codes; apart = s.apart } in
    subst (Decoded g.F.Field.algebra s.d s.points.now) (sym c.then_some.ensures)
    (decided g.met.F.Field.lawful s.d s.points.now ok c.solve-pair.result c.solve-pair.ensures (omega arith) (omega arith) c.in_ok-g.g c.in_ok-g.ensures c.misses.result c.misses.ensures)
