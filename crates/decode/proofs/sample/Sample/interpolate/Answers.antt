use Rattle.std.proofs.Common.{◌≡◌, ◌+◌, ◌≤◌, true, false, not, get_or, sym, refl, ap, ◌∙◌, subst, arith}
use Rattle.std.proofs.lemmas.Bool.{eq-eqb, ne_eqb}
use Rattle.poly.specs.Poly.{eval}
use Rattle.decode.specs.Width.{top}
use Rattle.decode.specs.declared.newton.Fit.{Fit}
use Rattle.field.specs.Algebra.{ops}
use Rattle.decode.specs.Near.{usable, Points}
use Rattle.decode.specs.Fitted.{Fitting}
use Rattle.decode.proofs.OnePoint.{none_from, skipped, more, reached}
use Rattle.decode.proofs.sample.Sample.interpolate.Goals.{then-evaluate-ne0+else-fit-self, else-evaluate-ne0}
use Rattle.decode.proofs.sample.Sample.interpolate.Goals as goal

pub loop-point-init : goal.loop-point-init
loop-point-init g c =
    let s = c.args.self.now in (
      none_from g.met.F.Field.lawful c.args.e.now s.points.now (record { small = s.codes; apart = s.apart }) top refl c.constant.result c.constant-2.result c.constant.ensures c.constant-2.ensures,
      omega arith,
    )

pub returns-then-fit-self : goal.returns-then-fit-self
returns-then-fit-self g c =
    let F = g.F.Field.algebra in
    let self = c.args.self.now in
    let ps = self.points.now in
    let es = c.args.e.now in
    let i = c.loop-point.point-index in
    let taken : usable (ops F) es (get_or ps i (0, 0)) ≡ true = ap not (ne_eqb (eval (ops F) es (get_or ps i (0, 0)).0) 0 (λ e. c.if-evaluate-ne0.true (c.evaluate.ensures ∙ e))) in
    let fit = more g.met.F.Field.lawful es ps (record { small = self.codes; apart = self.apart }) i (omega arith) c.loop-point.fit c.loop-point.invariant.0 (omega arith) taken in
    let Q : Fit → Type 0 = λ f. Fitting F es ps (i + 1) f in
    let n = ap (λ (f : Fit). f.count) c.fitted-fit.ensures in
    reached es self.d ps (i + 1) c.fitted-fit.result (subst Q (sym c.fitted-fit.ensures) fit) (omega arith) (omega arith)

pub loop-point-preserved : goal.loop-point-preserved
loop-point-preserved g c =
    let F = g.F.Field.algebra in
    let self = c.args.self.now in
    let ps = self.points.now in
    let ok : Points F ps = record { small = self.codes; apart = self.apart } in
    let es = c.args.e.now in
    let i = c.loop-point.point-index in
    let P : Fit → Type 0 = λ f. Fitting F es ps (i + 1) f × (f.count ≤ self.d) in
    elim c.if-evaluate-ne0.branch [
      | then-evaluate-ne0+else-fit-self w ↦
          let taken : usable (ops F) es (get_or ps i (0, 0)) ≡ true = ap not (ne_eqb (eval (ops F) es (get_or ps i (0, 0)).0) 0 (λ e. w.if-evaluate-ne0.true (c.evaluate.ensures ∙ e))) in
          let fit = more g.met.F.Field.lawful es ps ok i (omega arith) c.loop-point.fit c.loop-point.invariant.0 (omega arith) taken in
          let Q : Fit → Type 0 = λ f. Fitting F es ps (i + 1) f in
          subst P (sym w.fit-is) (subst Q (sym w.fitted-fit.ensures) fit, omega arith)
      | else-evaluate-ne0 w ↦
          let left : usable (ops F) es (get_or ps i (0, 0)) ≡ false = ap not (eq-eqb (eval (ops F) es (get_or ps i (0, 0)).0) 0 (sym c.evaluate.ensures ∙ w.if-evaluate-ne0.false)) in
          subst P (sym w.fit-is)
          (skipped g.met.F.Field.lawful es ps ok i (omega arith) c.loop-point.fit c.loop-point.invariant.0 left, omega arith)
    ]
