use Rattle.std.proofs.Common.{IsOk, sym, refl, ap, ◌∙◌, subst}
use Rattle.space.specs.Points.{location}
use Rattle.line.proofs.OnLine.{mark_located}
use Rattle.line.proofs.lines.Ends.target.Goals as goal

pub unwrap-location-requires : goal.unwrap-location-requires
unwrap-location-requires g c =
    let e = c.args.self.now in
    let o = mark_located g.met.F.Field.lawful e.shape.q e.shape.m c.args.t e.first e.second e.same e.normal.0 e.normal.1 c.requires in
    subst IsOk (sym (c.locate.ensures.answer ∙ ap (location g.F.Field.algebra e.shape.q e.shape.m) c.point_on.ensures ∙ o)) refl
