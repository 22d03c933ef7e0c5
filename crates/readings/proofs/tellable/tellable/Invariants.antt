use Rattle.std.proofs.Common.{◌≡◌, length}
use Rattle.readings.specs.Readings.{marked}
use Rattle.readings.proofs.tellable.tellable.Given as goal

abbrev pub invariant-loop-first : goal.invariant-loop-first
invariant-loop-first l = marked l.q l.rest ≡ marked l.q l.readings

abbrev pub decreases-loop-first : goal.decreases-loop-first
decreases-loop-first l = length l.rest
