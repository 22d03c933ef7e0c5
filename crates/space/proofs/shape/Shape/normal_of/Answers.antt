use Rattle.std.proofs.Common.{sym, subst}
use Rattle.space.specs.Places.{Point}
use Rattle.space.specs.Points.{NormalAnswer}
use Rattle.space.proofs.Normals.{normal_answer}
use Rattle.space.proofs.shape.Shape.normal_of.Goals as goal

pub returns : goal.returns
returns g c =
    let F = g.F.Field.algebra in
    let m = c.args.self.m in
    let p = c.args.p in
    subst (NormalAnswer F m p) (sym c.normalise.ensures) (normal_answer g.met.F.Field.lawful m p (subst (λ q. Point q m p) c.requires.same c.requires.point))
