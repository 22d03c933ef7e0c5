use Rattle.std.proofs.Common.{ap, sym, ◌∙◌, Some}
use Rattle.half_store.specs.HalfStores.{half_entry}
use Rattle.half_store.proofs.HalfCells.{half_got, half_past}
use Rattle.half_store.proofs.HalvesPacking.entry.Goals as goal

pub returns-in_err-byte : goal.returns-in_err-byte
returns-in_err-byte c = c.from_residual.ensures ∙ sym (half_past c.args.bytes.now c.front.result.now c.args.i c.front.ensures c.in_err-byte.ensures.lookup.3)

pub returns : goal.returns
returns c =
    let found = c.in_ok-byte.ensures.lookup.3 in
    ap Some (c.of_code.ensures ∙ ap half_entry c.half_of.ensures) ∙ half_got c.args.bytes.now c.front.result.now c.args.i c.in_ok-byte.byte.now c.front.ensures found.0 (found.1 0)
