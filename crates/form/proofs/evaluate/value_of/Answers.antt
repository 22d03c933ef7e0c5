use Rattle.std.proofs.Common.{◌≡◌, suc, ◌+◌, ◌<◌, length, get_or, take, sym, ap, ◌∙◌, arith, rules}
use Rattle.std.proofs.lemmas.List.{length-take-le}
use Rattle.std.proofs.ByRecursion.{All-take}
use Rattle.field.specs.Algebra.{ops, power}
use Rattle.poly.specs.Poly.{last}
use Rattle.form.specs.Forms.{value}
use Rattle.form.specs.Evaluation.{nested, terms}
use Rattle.form.proofs.Steps.{last_front}
use Rattle.form.proofs.Lower.{nested_codes}
use Rattle.form.proofs.OnForms.{multiples, on_lines}
use Rattle.form.proofs.Ordered.{counted}
use Rattle.form.proofs.evaluate.value_of.Goals as goal

pub over-value-requires : goal.over-value-requires
over-value-requires g c =
    let p = c.args.p in
    let m = c.args.shape.m in
    let d = c.args.shape.d in
    let four : length p ≡ 4 = search rules in
    let n : length (take (m + 1) p) ≡ m + 1 = length-take-le (m + 1) p (omega arith) in
    let l : last 0 (take (m + 1) p) ≡ get_or p m 0 = last_front p 0 m (omega arith) in
    let e : m + 1 ≡ suc m = omega arith in
    let t : terms (m + 1) d ≡ length c.args.cs.now = ap (λ k. terms k d) e ∙ counted m d ∙ sym c.requires.whole in
    record {
      many = rw n (omega arith);
      low = omega arith;
      right = λ e h. c.powers-table.ensures e h ∙ ap (λ x. power (ops g.F.Field.algebra) x e) (sym l);
      enough = rw n (omega arith);
    }

pub returns : goal.returns
returns g c =
    let F = g.F.Field.algebra in
    let L = g.met.F.Field.lawful in
    let p = c.args.p in
    let m = c.args.shape.m in
    let d = c.args.shape.d in
    let four : length p ≡ 4 = search rules in
    let n : length (take (m + 1) p) ≡ m + 1 = length-take-le (m + 1) p (omega arith) in
    let e : c.over-value.result.0 ≡ nested (ops F) (take (m + 1) p) d c.args.cs.now = c.over-value.ensures.made in
    let s : m + 1 ≡ suc m = omega arith in
    record {
      exact = e ∙ nested_codes L (take (m + 1) p) d c.args.cs.now (All-take (λ x. x < F.size) (m + 1) p c.requires.point) c.requires.codes (omega arith)
          ∙ ap (λ k. value (ops F) (take k p) d c.args.cs.now) s;
      multiples = multiples L d;
      lines = on_lines L d;
    }
