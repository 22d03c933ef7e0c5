use Rattle.std.proofs.Common.{◌≡◌, [], take, drop}
use Rattle.line.specs.Asking.{marks_fault}
use Rattle.line.proofs.lines.Ends.check_marks.Given as goal

abbrev pub invariant-loop-i : goal.invariant-loop-i
invariant-loop-i g l =
    marks_fault g.F.Field.algebra l.self.first l.self.second (take l.i l.marks) l.i (drop l.i l.marks)
    ≡ marks_fault g.F.Field.algebra l.self.first l.self.second [] 0 l.marks
