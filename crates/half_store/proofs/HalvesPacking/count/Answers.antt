use Rattle.std.proofs.Common.{length, ap, arith}
use Rattle.std.proofs.lemmas.List.{length-take}
use Rattle.half_store.specs.Rows.{half_count}
use Rattle.half_store.proofs.HalvesPacking.count.Goals as goal

pub returns : goal.returns
returns c = omega (arith, half_count c.args.bytes.now, ap length c.front.ensures, length-take 32768 c.args.bytes.now)
