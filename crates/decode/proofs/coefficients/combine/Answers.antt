use Rattle.std.proofs.Common.{get_or, ◌∙◌, arith, rules, tests}
use Rattle.field.specs.Algebra.{ops}
use Rattle.decode.specs.Width.{width}
use Rattle.decode.specs.Coefficients.{mix}
use Rattle.decode.proofs.Places.{length_mix, getD_mix}
use Rattle.decode.proofs.FromFn.{made}
use Rattle.decode.proofs.coefficients.combine.Goals as goal

pub returns : goal.returns
returns g c =
    let F = g.F.Field.algebra in
    let o = ops F in
    let p = c.args.p in
    let xs = c.args.xs.now in
    let q = c.args.q in
    let ys = c.args.ys.now in
    made _ _ c.from_fn.result (λ k. F.plus (F.times p (get_or xs k 0)) (F.times q (get_or ys k 0))) (λ k y f s. search (rules, tests)) width (mix o p xs q ys) 0
    (length_mix o p xs q ys (omega arith) ∙ omega arith) (λ k h. getD_mix o p xs q ys 0 k (omega arith) (omega arith)) c.from_fn.ensures.items
