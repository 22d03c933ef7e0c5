use Rattle.std.proofs.Common.{◌≡◌, ◌+◌, ◌≤◌, ◌++◌, length}
use Rattle.report.specs.Reports.{chosen, chosen_from}
use Rattle.report.proofs.puts.choose.Given as goal

abbrev pub invariant-loop-i : goal.invariant-loop-i
invariant-loop-i l =
    let at = l.i-iterator.iter.count in
    (l.list.items ++ chosen_from at l.i-iterator.iter.iter.rest.now l.bits ≡ chosen l.marks l.bits)
    × (length l.list.items ≤ at)
    × (at + l.i-iterator.n ≡ l.width)
