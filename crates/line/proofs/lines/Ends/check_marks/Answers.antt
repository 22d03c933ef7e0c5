use Rattle.std.proofs.Common.{Ok, Err, sym, ap, ◌∙◌, arith}
use Rattle.std.proofs.lemmas.List.{length-take-le}
use Rattle.std.proofs.lemmas.Result.{err_from_is_err_and}
use Rattle.line.specs.Asking.{unless}
use Rattle.line.proofs.Marks.{marks_later, marks_stop}
use Rattle.line.proofs.lines.Ends.check_marks.Goals as goal

pub returns-in_err-check_mark : goal.returns-in_err-check_mark
returns-in_err-check_mark g c =
    let s = c.args.self.now in
    let i = c.loop-i.i in
    let marks = c.args.marks.now in
    let said = rw (length-take-le i marks (omega arith)) at c.check_mark.ensures in
    let p = err_from_is_err_and c.from_residual.result c.from_residual.ensures.1 in
    let e = sym (marks_stop g.F.Field.algebra s.first s.second marks i c.loop-i-test.true _ (sym said ∙ c.in_err-check_mark.was)) ∙ c.loop-i.invariant in
    p.1 ∙ ap Err p.2 ∙ ap (λ o. unless o (Ok tt)) e

pub loop-i-preserved : goal.loop-i-preserved
loop-i-preserved g c =
    let s = c.args.self.now in
    let i = c.loop-i.i in
    let marks = c.args.marks.now in
    let said = rw (length-take-le i marks (omega arith)) at c.check_mark.ensures in
    sym (marks_later g.F.Field.algebra s.first s.second marks i c.loop-i-test.true _ (sym said ∙ c.in_ok-check_mark.was)) ∙ c.loop-i.invariant
