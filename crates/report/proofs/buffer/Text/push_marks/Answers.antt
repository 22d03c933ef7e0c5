use Rattle.std.proofs.Common.{sym, ◌∙◌, arith}
use Rattle.report.specs.Reports.{chosen}
use Rattle.report.specs.Written.{written}
use Rattle.report.proofs.Listed.{begun}
use Rattle.report.proofs.buffer.Text.push_marks.Goals as goal

pub loop-mark-init : goal.loop-mark-init
loop-mark-init c =
    let a = c.args in
    let all = sym c.in-Some.ensures.cases.0 ∙ c.deref.ensures.0 ∙ c.choose.ensures in
    (begun a.infinity c.in-Some.first.now c.in-Some.others.now (chosen a.marks.now a.bits) (written a.self.now) (written c.push_mark.new.self) all c.push_mark.ensures.text, omega (arith, c.push_mark.ensures.longer))
