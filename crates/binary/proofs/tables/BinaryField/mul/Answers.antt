use Rattle.std.proofs.Common.{◌<◌, ◌^◌, sym, ◌∙◌, arith}
use Rattle.field.proofs.Within.{in2}
use Rattle.binary.specs.Binary.{product_by}
use Rattle.binary.specs.Polynomials.{LookedUp, looked_up}
use Rattle.binary.proofs.tables.BinaryField.mul.Goals as goal

pub returns-then-b-Q : goal.returns-then-b-Q
returns-then-b-Q g c =
    let d = g.T.Tables.degree in
    let m = g.T.Tables.modulus in
    let i : c.args.a < 2 ^ d = omega (arith, c.if-a-Q.true, c.Q.ensures, g.met.T.Tables.sized) in
    let j : c.args.b < 2 ^ d = omega (arith, c.if-b-Q.true, c.Q.ensures, g.met.T.Tables.sized) in
    let l : LookedUp d m _ c.args.a c.args.b = looked_up d m g.met.T.Tables.reduces _ c.product_table.ensures c.args.a c.args.b i j in
    record { exact = l.exact ∙ sym (in2 (2 ^ d) (product_by d m) c.args.a c.args.b i j); reduced = λ _ _. l.reduced }
