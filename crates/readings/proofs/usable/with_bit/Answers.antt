use Rattle.std.proofs.Common.{◌≡◌, ◌*◌, ◌^◌, ap, ◌∙◌, one-mul, arith}
use lib.Bits.{bit_or, or_shifted_r}
use Rattle.std.proofs.lemmas.Nat.{one_shl}
use Rattle.readings.proofs.usable.with_bit.Goals as goal

pub returns-then-set : goal.returns-then-set
returns-then-set c =
    let m = c.args.marks in
    let i = c.args.i in
    let s = one_shl i 32 c.requires.few in
    let o = ap (bit_or m) (one-mul (2 ^ i)) in
    let r = or_shifted_r 1 i m c.requires.low in
    rw (s, c.if-set.true) (let e : 1 * 2 ^ i ≡ 2 ^ i = one-mul (2 ^ i) in (rw e at r) ∙ omega arith)
