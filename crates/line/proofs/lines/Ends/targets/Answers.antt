use Rattle.std.proofs.Common.{[], arith}
use Rattle.line.proofs.Marks.{marks_sound}
use Rattle.line.proofs.lines.Ends.targets.Goals as goal

pub target-requires : goal.target-requires
target-requires g c =
    let e = c.args.self.now in
    (marks_sound g.F.Field.algebra e.first e.second [] 0 c.args.marks.now c.requires.sound c.loop-t.t-index (omega arith)).somewhere
