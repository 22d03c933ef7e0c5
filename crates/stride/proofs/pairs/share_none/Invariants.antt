use Rattle.stride.proofs.Divisors.{Same}
use Rattle.stride.proofs.pairs.share_none.Given as goal

abbrev pub invariant-loop-y : goal.invariant-loop-y
invariant-loop-y l = Same l.x l.y l.initial.x l.initial.y

abbrev pub decreases-loop-y : goal.decreases-loop-y
decreases-loop-y l = l.y
