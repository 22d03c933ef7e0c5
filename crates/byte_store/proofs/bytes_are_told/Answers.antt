use Rattle.byte_store.specs.Rows.{bytes_told}
use Rattle.byte_store.proofs.bytes_are_told.Goals as goal

pub returns : goal.returns
returns c = bytes_told
