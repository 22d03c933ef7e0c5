use Rattle.std.proofs.Common.{arith}
use Rattle.byte_store.specs.Rows.{byte_count}
use Rattle.byte_store.proofs.BytesPacking.set.Goals as goal

pub bounds-bytes-i : goal.bounds-bytes-i
bounds-bytes-i c = omega (arith, byte_count c.args.bytes.now)
