use Rattle.std.proofs.Common.{◌≡◌, ℕ, ◌<◌, List, length, Some, None, Err, sym, refl, ap, ◌∙◌, subst, arith, rules}
use Rattle.decode.specs.Near.{DecodeAnswer}
use Rattle.readings.specs.declared.kinds.AnswerFault.TheVariants.{NoPolynomial}
use Rattle.readings.specs.Readings.{symbols_read}
use Rattle.readings.proofs.Agreed.{points_counted}
use Rattle.readings.proofs.Concluded.{Concluded, too_few, none_explains, found_explains, admissible}
use Rattle.readings.proofs.usable.Usable.decide.Goals as goal

pub returns-then-read-self : goal.returns-then-read-self
returns-then-read-self g c =
    let L = g.met.F.Field.lawful in
    let s = c.args.self.now in
    let e = ap length c.points-points.ensures in
    let k = too_few L s.d s.readings.now s.told (omega (arith, points_counted L s.d s.readings.now)) in
    record { answer = k.answer; one = k.one; near = k.near }

pub returns-in_err-g : goal.returns-in_err-g
returns-in_err-g g c =
    let F = g.F.Field.algebra in
    let L = g.met.F.Field.lawful in
    let s = c.args.self.now in
    let p = c.deref.ensures.0 ∙ c.points-points.ensures in
    let e = ap length c.points-points.ensures in
    let none : DecodeAnswer F s.d c.deref.result.now None = subst (DecodeAnswer F s.d c.deref.result.now) c.in_err-g.ensures.ok_part c.decode.ensures in
    let n = subst (λ (ps : List (ℕ × ℕ)). DecodeAnswer F s.d ps None) p none in
    let enough : s.d < symbols_read s.readings.now = omega (arith, points_counted L s.d s.readings.now) in
    let k = none_explains L s.d s.readings.now s.told enough (n (admissible L s.d s.readings.now s.told s.few enough)) in
    let r : c.from_residual.result ≡ Err NoPolynomial = search rules in
    let q : Concluded F s.d s.readings.now c.from_residual.result = subst (Concluded F s.d s.readings.now) (sym r) k in
    record { answer = q.answer; one = q.one; near = q.near }

pub returns : goal.returns
returns g c =
    let F = g.F.Field.algebra in
    let L = g.met.F.Field.lawful in
    let s = c.args.self.now in
    let p = c.deref.ensures.0 ∙ c.points-points.ensures in
    let e = ap length c.points-points.ensures in
    let found : DecodeAnswer F s.d c.deref.result.now (Some c.in_ok-g.g) = subst (DecodeAnswer F s.d c.deref.result.now) c.in_ok-g.ensures.ok_part c.decode.ensures in
    let f = subst (λ (ps : List (ℕ × ℕ)). DecodeAnswer F s.d ps (Some c.in_ok-g.g)) p found in
    let enough : s.d < symbols_read s.readings.now = omega (arith, points_counted L s.d s.readings.now) in
    let k = found_explains L s.d s.readings.now s.told c.in_ok-g.g f.1 enough _ _ _ refl c.marks-wrong.ensures.wrong c.marks-wrong.ensures.missing in
    record { answer = k.answer; one = k.one; near = k.near }
