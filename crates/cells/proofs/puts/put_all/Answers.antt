use Rattle.std.proofs.Common.{get_or, Err, ap, ◌∙◌, arith}
use Rattle.std.proofs.lemmas.Result.{err_from_is_err_and}
use Rattle.cells.proofs.Cases.{put_ok, put_err}
use Rattle.cells.proofs.Laying.{all_more, all_stop, all_done}
use Rattle.cells.proofs.puts.put_all.Goals as goal

pub returns-in_err-put : goal.returns-in_err-put
returns-in_err-put g c =
    let n = g.S.Store.meaning c.loop-i.store in
    let vs = c.args.symbols.now in
    let i = c.loop-i.i in
    let inv = c.loop-i.invariant in
    let e = c.put.ensures in
    let p = err_from_is_err_and c.from_residual.result c.from_residual.ensures.1 in
    let q = put_err n i (get_or vs i 0) c.put.result e.answer _ c.in_err-put.was in
    let s = all_stop (g.S.Store.meaning c.args.store.now) n vs i inv.0 inv.1 _ c.loop-i-test.true q.0 in
    record {
      answer = p.1 ∙ ap Err p.2 ∙ s.0;
      done = e.done ∙ q.1 ∙ s.1;
      kept = e.kept ∙ inv.2;
      lent = e.lent ∙ inv.3;
    }

pub loop-i-preserved : goal.loop-i-preserved
loop-i-preserved g c =
    let n = g.S.Store.meaning c.loop-i.store in
    let vs = c.args.symbols.now in
    let i = c.loop-i.i in
    let inv = c.loop-i.invariant in
    let e = c.put.ensures in
    let q = put_ok n i (get_or vs i 0) c.put.result e.answer _ c.in_ok-put.was in
    let s = all_more (g.S.Store.meaning c.args.store.now) n vs i inv.0 inv.1 c.loop-i-test.true q.0 q.1 in
    (s.0, e.done ∙ q.2 ∙ s.1, e.kept ∙ inv.2, e.lent ∙ inv.3)

pub returns : goal.returns
returns g c =
    let inv = c.loop-i.invariant in
    let s = all_done (g.S.Store.meaning c.args.store.now) (g.S.Store.meaning c.loop-i.store) c.args.symbols.now c.loop-i.i inv.0 inv.1 (omega arith) in
    record { answer = s.0; done = s.1; kept = inv.2; lent = inv.3 }
