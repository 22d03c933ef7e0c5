use Rattle.std.proofs.Common.{◌≡◌, ◌+◌, ◌*◌, ◌≤◌, ◌++◌, length}
use Rattle.report.specs.Reports.{marks_text}
use Rattle.report.specs.Meant.{meant_marks}
use Rattle.report.specs.Written.{written}
use Rattle.report.proofs.Listed.{from}
use Rattle.report.proofs.buffer.Text.push_marks.Given as goal

abbrev pub invariant-loop-mark : goal.invariant-loop-mark
invariant-loop-mark l =
    (written l.self ++ from l.infinity l.others l.mark-index ≡ written l.fn.self ++ marks_text (meant_marks l.marks l.infinity l.bits))
    × (length (written l.self) ≤ length (written l.fn.self) + 3 + 4 * l.mark-index)
