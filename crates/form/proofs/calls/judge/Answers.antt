use Rattle.std.proofs.Common.{Ok, Some, None, sym, ap, arith, rules}
use Rattle.form.specs.Soundness.{unless}
use Rattle.form.proofs.Sound.{judged}
use Rattle.form.proofs.calls.judge.Goals as goal

pub returns-in-Some : goal.returns-in-Some
returns-in-Some c =
    let s = c.args.shape in
    let h = c.in-Some.ensures in
    sym (ap (λ o. unless o (Ok tt)) (judged s.q s.m s.d c.args.coefficients.now (Some c.in-Some.position) (omega (arith, c.coefficient_count.ensures.count)) h))

pub returns : goal.returns
returns c =
    let s = c.args.shape in
    sym (ap (λ o. unless o (Ok tt)) (judged s.q s.m s.d c.args.coefficients.now None (omega (arith, c.coefficient_count.ensures.count)) (search rules)))
