use Rattle.std.proofs.Common.{◌<◌, ◌^◌, Some, sym, ap, ◌∙◌, arith}
use Rattle.field.proofs.Inverses.{inverse_at}
use Rattle.binary.specs.Polynomials.{inverse_looked_up}
use Rattle.binary.proofs.tables.BinaryField.inv.Goals as goal

pub returns-then-a-Q : goal.returns-then-a-Q
returns-then-a-Q g c =
    let d = g.T.Tables.degree in
    let m = g.T.Tables.modulus in
    let i : c.args.a < 2 ^ d = omega (arith, c.if-a-Q.true, c.Q.ensures, g.met.T.Tables.sized) in
    ap Some (inverse_looked_up d m _ c.inverse_table.ensures c.args.a i) ∙ sym (inverse_at g.met.T.Tables.lawful c.args.a c.if-a-gt0.true i)
