use Rattle.std.proofs.Common.{◌+◌, refl, ap, ◌∙◌, arith}
use Rattle.plate.specs.Settings.{Setting}
use Rattle.runs.proofs.More.{ran_next, ran_all, law}
use Rattle.runs.proofs.sequence.run.Goals as goal

pub loop-call-preserved : goal.loop-call-preserved
loop-call-preserved g c =
    let call = c.call-answer.ensures in
    let push = c.push_reserved.ensures in
    let inv = c.loop-call.invariant in
    let next = ran_next g.F.Field.algebra c.args.plate.now.shape c.loop-call.plate.shape c.call-answer.new.self.shape
    (g.S.Store.meaning c.args.plate.now.store) (g.S.Store.meaning c.loop-call.plate.store) (g.S.Store.meaning c.call-answer.new.self.store)
    c.args.calls.now c.loop-call.call-index _ _ _ _ inv.0 inv.1 c.loop-call-test.true call.acts call.shape push.items in
    (next.0, next.1, call.shape ∙ inv.2, call.kept ∙ inv.3, call.lent ∙ inv.4, push.len ∙ ap (λ n. n + 1) inv.5, omega (arith, inv.6, push.capacity))

pub returns : goal.returns
returns g c =
    let inv = c.loop-call.invariant in
    record {
      law = law _ g.met.F.Field.lawful c.args.plate.now.shape.wide.1 _ refl _ _ _ (ran_all _ _ c.args.calls.now c.loop-call.call-index _ _ c.loop-call-test.false inv.0);
      alphabet = ap (λ (s : Setting). s.alphabet) inv.1;
      shape = inv.2;
      kept = inv.3;
      lent = inv.4;
    }
