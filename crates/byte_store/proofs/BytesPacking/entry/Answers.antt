use Rattle.std.proofs.Common.{ap, sym, ◌∙◌, Some}
use Rattle.byte_store.proofs.ByteCells.{byte_got, byte_past}
use Rattle.byte_store.proofs.BytesPacking.entry.Goals as goal

pub returns-in_err-byte : goal.returns-in_err-byte
returns-in_err-byte c = c.from_residual.ensures ∙ sym (byte_past c.args.bytes.now c.front.result.now c.args.i c.front.ensures c.in_err-byte.ensures.lookup.3)

pub returns : goal.returns
returns c =
    let found = c.in_ok-byte.ensures.lookup.3 in
    ap Some c.of_code.ensures ∙ byte_got c.args.bytes.now c.front.result.now c.args.i c.in_ok-byte.byte.now c.front.ensures found.0 (found.1 0)
