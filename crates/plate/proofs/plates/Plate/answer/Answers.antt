use Rattle.std.proofs.Common.{Ok, Err, sym, refl, ap, ◌∙◌}
use Rattle.std.proofs.lemmas.Result.{err_from_is_err_and}
use Rattle.plate.proofs.Answered.{lifted, told_by}
use Rattle.plate.proofs.plates.Plate.answer.Goals as goal

pub returns-in_err-correct : goal.returns-in_err-correct
returns-in_err-correct g c =
    let e = c.correct.ensures in
    let s = c.args.self.now in
    let r = c.args.request.now in
    let p = err_from_is_err_and c.from_residual-in_err-correct.result c.from_residual-in_err-correct.ensures.1 in
    let told = p.1 ∙ ap Err p.2 ∙ ap lifted (sym c.in_err-correct.was) in
    let k = told_by g.met.F.Field.lawful s.shape (g.S.Store.meaning s.store) (g.S.Store.meaning c.correct.new.store) r.place r.direction r.marks.now
    c.in_ok-check_fit.ensures.fit e.same c.correct.result e.answer c.from_residual-in_err-correct.result told in
    record { acts = k.acts; same = e.same; fitting = k.fitting; mends = k.mends; shape = refl; kept = e.kept; lent = e.lent }

pub returns : goal.returns
returns g c =
    let e = c.correct.ensures in
    let s = c.args.self.now in
    let r = c.args.request.now in
    let k = told_by g.met.F.Field.lawful s.shape (g.S.Store.meaning s.store) (g.S.Store.meaning c.correct.new.store) r.place r.direction r.marks.now
    c.in_ok-check_fit.ensures.fit e.same c.correct.result e.answer (Ok c.in_ok-correct.field-0) (ap lifted (sym c.in_ok-correct.was)) in
    record { acts = k.acts; same = e.same; fitting = k.fitting; mends = k.mends; shape = refl; kept = e.kept; lent = e.lent }
