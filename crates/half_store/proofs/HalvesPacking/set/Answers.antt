use Rattle.std.proofs.Common.{arith}
use Rattle.half_store.specs.Rows.{half_count}
use Rattle.half_store.proofs.HalvesPacking.set.Goals as goal

pub bounds-bytes-i : goal.bounds-bytes-i
bounds-bytes-i c = omega (arith, half_count c.args.bytes.now)
