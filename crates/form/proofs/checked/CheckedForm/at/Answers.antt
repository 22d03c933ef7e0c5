use Rattle.std.proofs.Common.{◌<◌, subst}
use Rattle.std.specs.List.{AllByRecursion}
use Rattle.form.proofs.Sound.{checked_form}
use Rattle.form.proofs.OnForms.{leading_value}
use Rattle.form.proofs.checked.CheckedForm.at.Goals as goal

pub value_of-requires : goal.value_of-requires
value_of-requires g c =
    let f = c.args.self.now.form in
    let s = checked_form g.F.Field.algebra f c.args.self.now.checked in
    record {
      whole = s.whole;
      point = subst (λ n. AllByRecursion (λ x. x < n) c.args.p) s.same c.requires.codes;
      codes = s.codes;
    }

pub returns : goal.returns
returns g c =
    let f = c.args.self.now.form in
    let p = c.args.p in
    let s = checked_form g.F.Field.algebra f c.args.self.now.checked in
    let e = c.value_of.ensures in
    record {
      exact = e.exact;
      leading = leading_value g.F.Field.algebra f.shape.m f.shape.d f.coefficients.now p _
          (subst (λ n. AllByRecursion (λ x. x < n) p) s.same c.requires.codes) s.codes e.exact e.multiples e.lines;
    }
