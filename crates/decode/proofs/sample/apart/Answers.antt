use Rattle.std.proofs.Common.{◌∙◌, sym}
use Rattle.decode.proofs.Tests.{again, once}
use Rattle.decode.proofs.sample.apart.Goals as goal

pub returns-then-has_place : goal.returns-then-has_place
returns-then-has_place c =
    let h = again c.in-Some.first.now c.in-Some.others.now c.loop-first.rest.now c.in-Some.ensures.cases.0 (sym c.has_place.ensures ∙ c.if-has_place.true) in
    ((λ e. cc), (λ d. absurd (h (c.loop-first.invariant.1 d))))

pub loop-first-preserved : goal.loop-first-preserved
loop-first-preserved c =
    let h = once c.in-Some.first.now c.in-Some.others.now c.loop-first.rest.now c.in-Some.ensures.cases.0 (sym c.has_place.ensures ∙ c.if-has_place.false) in
    ((λ d. c.loop-first.invariant.0 (h.1 d)), (λ d. h.0 (c.loop-first.invariant.1 d)))
