use Rattle.std.proofs.Common.{sym, arith}
use Rattle.stride.specs.Shown.{stride_count}
use Rattle.stride.proofs.placing.StridePairPlacing.shown.Goals as goal

pub returns-else-below-self-clause-count : goal.returns-else-below-self-clause-count
returns-else-below-self-clause-count c = λ m e. sym (stride_count m c.args.self.now.n c.args.self.now.step (omega arith))
