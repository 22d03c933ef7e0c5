use Rattle.std.proofs.Common.{◌+◌, ◌*◌, ◌^◌, cond, sym, ◌∙◌, ap₂, arith}
use Rattle.readings.specs.Readings.{is_missing}
use Rattle.readings.specs.Points.{misses_reading}
use Rattle.readings.proofs.Told.{bits_more, bits_so_far}
use Rattle.readings.proofs.usable.Usable.marks.Goals as goal

pub with_bit-wrong-requires-clause-low : goal.with_bit-wrong-requires-clause-low
with_bit-wrong-requires-clause-low g c =
    let s = c.args.self.now in
    rw c.loop-i.invariant.0 (bits_so_far (misses_reading g.F.Field.algebra s.d c.args.g.now) s.readings.now c.loop-i.i (omega arith))

pub with_bit-missing-requires-clause-low : goal.with_bit-missing-requires-clause-low
with_bit-missing-requires-clause-low g c =
    rw c.loop-i.invariant.1 (bits_so_far is_missing c.args.self.now.readings.now c.loop-i.i (omega arith))

pub loop-i-preserved : goal.loop-i-preserved
loop-i-preserved g c =
    let s = c.args.self.now in
    let i = c.loop-i.i in (
      c.with_bit-wrong.ensures
          ∙ ap₂ (λ n b. n + cond b 1 0 * 2 ^ i) c.loop-i.invariant.0 c.misses.ensures
          ∙ sym (bits_more (misses_reading g.F.Field.algebra s.d c.args.g.now) s.readings.now i _ c.loop-i-test.true),
      c.with_bit-missing.ensures
          ∙ ap₂ (λ n b. n + cond b 1 0 * 2 ^ i) c.loop-i.invariant.1 c.lacks_symbol.ensures
          ∙ sym (bits_more is_missing s.readings.now i _ c.loop-i-test.true),
    )
