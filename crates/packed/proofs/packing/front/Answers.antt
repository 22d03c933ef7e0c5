use Rattle.std.proofs.Common.{rules}
use Rattle.std.proofs.lemmas.List.{take_min}
use Rattle.packed.proofs.packing.front.Goals as goal

pub returns : goal.returns
returns c = let m = take_min c.args.most c.args.bytes.now in search rules
