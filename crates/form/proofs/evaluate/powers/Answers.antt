use Rattle.std.proofs.Common.{◌+◌, ◌∙◌, arith}
use Rattle.std.proofs.lemmas.List.{length-set}
use Rattle.form.proofs.Steps.{powers_more}
use Rattle.form.proofs.evaluate.powers.Goals as goal

pub loop-e-preserved : goal.loop-e-preserved
loop-e-preserved g c = (
  length-set c.loop-e.table (c.loop-e.e + 1) c.mul.result ∙ c.loop-e.invariant.0,
  powers_more g.F.Field.algebra c.args.x c.loop-e.e c.loop-e.table c.mul.result (omega arith) c.loop-e.invariant.1 c.mul.ensures,
)
