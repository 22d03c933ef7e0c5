use Rattle.std.proofs.Common.{get_or, ◌∙◌, arith, rules, tests}
use Rattle.field.specs.Algebra.{ops}
use Rattle.decode.specs.Width.{width}
use Rattle.decode.specs.Coefficients.{raise, before}
use Rattle.decode.proofs.Places.{length_raise, getD_raise}
use Rattle.decode.proofs.FromFn.{made}
use Rattle.decode.proofs.coefficients.times_factor.Goals as goal

pub returns : goal.returns
returns g c =
    let F = g.F.Field.algebra in
    let o = ops F in
    let a = F.minus c.args.u in
    let p = c.args.p.now in
    made _ _ c.from_fn.result (λ k. F.plus (F.times a (get_or p k 0)) (before 0 p 0 k)) (λ k y f s. search (rules, tests)) width (raise o a 0 p) 0
    (length_raise o a 0 p ∙ omega arith) (λ k h. getD_raise o a 0 p 0 k (omega arith)) c.from_fn.ensures.items
