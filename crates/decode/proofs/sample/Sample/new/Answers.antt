use Rattle.std.proofs.Common.{◌∙◌, sym, arith}
use Rattle.decode.proofs.Tests.{codes_of, not_codes}
use Rattle.decode.specs.Near.{Admissible}
use Rattle.decode.proofs.sample.Sample.new.Goals.{else-d-points-via-then-d-points+then-points-le-POINTS+then-coded+else-apart, else-d-points-via-then-d-points+then-points-le-POINTS+else-coded, else-d-points-via-then-d-points+else-points-le-POINTS, else-d-points-via-else-d-points}
use Rattle.decode.proofs.sample.Sample.new.Goals as goal

pub invariant_of-result : goal.invariant_of-result
invariant_of-result g c = record {
  few = omega arith;
  enough = omega arith;
  codes = codes_of g.F.Field.algebra g.F.Field.Q c.args.points.now g.met.F.Field.sized (sym c.coded.ensures ∙ c.if-coded.true);
  apart = c.apart.ensures.0 c.if-apart.true;
}

pub returns-else-d-points-clause-taken : goal.returns-else-d-points-clause-taken
returns-else-d-points-clause-taken g c =
    let F = g.F.Field.algebra in
    let ps = c.args.points.now in
    let not : Admissible F c.args.d ps → ⊥ = λ a. elim c.else-d-points.branch [
      | else-d-points-via-then-d-points+then-points-le-POINTS+then-coded+else-apart w ↦ let t = w.apart.ensures.1 a.points.apart in let f = w.if-apart.false in cc
      | else-d-points-via-then-d-points+then-points-le-POINTS+else-coded w ↦ not_codes F g.F.Field.Q ps g.met.F.Field.sized (sym w.coded.ensures ∙ w.if-coded.false) a.points
      | else-d-points-via-then-d-points+else-points-le-POINTS w ↦ omega (arith, a.few)
      | else-d-points-via-else-d-points w ↦ omega (arith, a.enough)
    ] in
    ((λ e. cc), (λ a. absurd (not a)))
