use Rattle.half_store.specs.Rows.{halves_told}
use Rattle.half_store.proofs.halves_are_told.Goals as goal

pub returns : goal.returns
returns c = halves_told
