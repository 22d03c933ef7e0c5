use Rattle.std.proofs.Common.{◌≡◌, ◌++◌, take}
use Rattle.report.specs.Written.{written}
use Rattle.report.proofs.buffer.Text.push_number.Given as goal

abbrev pub invariant-loop-digit : goal.invariant-loop-digit
invariant-loop-digit g l = written l.self ≡ written l.fn.self ++ take l.digit-index l.digit-items
