use Rattle.std.proofs.Common.{◌≡◌, arith}
use Rattle.std.proofs.lemmas.Bool.{eqb-true, eq-eqb}
use Rattle.stride.proofs.Divisors.{same_more, apart_from_one, one_from_apart}
use Rattle.stride.proofs.pairs.share_none.Goals as goal

pub loop-y-preserved : goal.loop-y-preserved
loop-y-preserved c = same_more c.loop-y.x c.loop-y.y c.args.a c.args.b c.loop-y.invariant

pub returns : goal.returns
returns c =
    let x = c.loop-y.x in
    let y = c.loop-y.y in
    let z : y ≡ 0 = omega arith in
    (λ e. apart_from_one x y c.args.a c.args.b c.loop-y.invariant (eqb-true x 1 e), λ s. eq-eqb x 1 (one_from_apart x y c.args.a c.args.b z c.loop-y.invariant s))
