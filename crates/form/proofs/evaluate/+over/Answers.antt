use Rattle.std.proofs.Common.{◌≡◌, suc, ◌+◌, ◌-◌, ◌≤◌, length, get_or, take, drop, sym, refl, ap, ◌∙◌, ap₂, arith, rules}
use Rattle.std.proofs.lemmas.List.{length-drop, drop-drop}
use Rattle.poly.specs.Poly.{last}
use Rattle.field.specs.Algebra.{ops, power}
use Rattle.form.specs.Evaluation.{nested, terms, Powers}
use Rattle.form.proofs.Steps.{nested_step, terms_start, terms_step, terms_more, later}
use Rattle.form.proofs.evaluate.+over.Goals as goal

pub over-total-requires : goal.over-total-requires
over-total-requires g t c κs within =
    let xs = c.args.xs.now in
    let two : 2 ≤ length xs = omega (arith, c.requires.many) in
    let ys = later xs two in
    let a = terms_start (length xs) (omega arith) in
    let b = terms_more (length xs) 0 c.args.d (omega arith) (omega arith) in
    let right : Powers (ops g.F.Field.algebra) (last 0 (take (length xs - 1) (drop 1 xs))) 0 c.args.table.now =
    λ e h. c.requires.right e (omega arith) ∙ ap (λ x. power (ops g.F.Field.algebra) x e) (sym ys.same_last) in
    let enough : terms (length (take (length xs - 1) (drop 1 xs))) 0 ≤ length c.args.cs.now = rw ys.long (omega (arith, c.requires.enough)) in
    (search rules, (within, (rw ys.long (omega (arith, c.requires.many, c.if-xs-eq2.false)), (omega arith, (right, enough)))))

pub over-more-requires : goal.over-more-requires
over-more-requires g t c κs within =
    let xs = c.args.xs.now in
    let two : 2 ≤ length xs = omega (arith, c.requires.many) in
    let ys = later xs two in
    let j = c.loop-j.j in
    let m : j + 1 ≡ suc j = omega arith in
    let a = terms_step (length xs) j (omega arith) in
    let b = terms_more (length xs) (suc j) c.args.d (omega arith) (omega arith) in
    let l = ap length c.loop-j.invariant.1 ∙ length-drop (terms (length xs) j) c.args.cs.now in
    let right : Powers (ops g.F.Field.algebra) (last 0 (take (length xs - 1) (drop 1 xs))) (j + 1) c.args.table.now =
    λ e h. c.requires.right e (omega arith) ∙ ap (λ x. power (ops g.F.Field.algebra) x e) (sym ys.same_last) in
    let enough : terms (length (take (length xs - 1) (drop 1 xs))) (j + 1) ≤ length c.loop-j.rest.now =
    rw (ys.long, m) (omega (arith, c.requires.enough, l)) in
    (search rules, (within, (rw ys.long (omega (arith, c.requires.many, c.if-xs-eq2.false)), (omega arith, (right, enough)))))

pub loop-j-preserved : goal.loop-j-preserved
loop-j-preserved g t c =
    let F = g.F.Field.algebra in
    let xs = c.args.xs.now in
    let two : 2 ≤ length xs = omega (arith, c.requires.many) in
    let ys = later xs two in
    let j = c.loop-j.j in
    let m : j + 1 ≡ suc j = omega arith in
    let k = terms (length xs) j in
    let cs = c.args.cs.now in
    let v : c.over-more.result.0 ≡ nested (ops F) (drop 1 xs) (suc j) (drop k cs) =
    c.over-more.ensures.made ∙ rw (ys.is, m, c.loop-j.invariant.1) refl in
    let e = c.over-more.ensures.rest in
    let a = terms_step (length xs) j (omega arith) in
    let n : k + terms (length xs - 1) (suc j) ≡ terms (length xs) (suc j) = omega arith in (
      c.add-total.ensures ∙ ap₂ F.plus (c.mul.ensures ∙ ap (λ w. F.times w (get_or xs 0 0)) c.loop-j.invariant.0) v ∙ sym (nested_step F xs j cs two) ∙ ap (λ w. nested (ops F) xs w cs) (sym m),
      e ∙ rw (ys.long, m, c.loop-j.invariant.1) (drop-drop (terms (length xs - 1) (suc j)) k cs ∙ rw n refl),
    )
