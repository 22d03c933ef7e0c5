use Rattle.std.proofs.Common.{rules}
use Rattle.space.proofs.Columns.{counted}
use Rattle.space.proofs.shape.Shape.new.Goals as goal

pub invariant_of-result : goal.invariant_of-result
invariant_of-result g c =
    let t = counted c.Q-q.result c.in_ok-counts.counts (search rules) in
    record { column = t.column; symbols = t.symbols; wide = search rules; steep = search rules; counted = t.cell c.args.m (search rules) (search rules) }
