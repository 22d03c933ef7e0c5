use Rattle.std.proofs.Common.{add-one}
use Rattle.field.proofs.power.Goals as goal

pub loop-k-preserved : goal.loop-k-preserved
loop-k-preserved g c = simp add-one (rw c.loop-k.invariant at c.mul-product.ensures)
