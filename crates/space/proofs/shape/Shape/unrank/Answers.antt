use Rattle.std.proofs.Common.{◌≡◌, ◌-◌, replicate, sym, ap, ◌∙◌, subst, arith}
use Rattle.space.specs.Places.{Normal, place_of, point_of}
use Rattle.space.proofs.Undone.{undone}
use Rattle.space.proofs.Spells.{group_within, group_point}
use Rattle.space.proofs.shape.Shape.unrank.Goals as goal

pub spelled-requires : goal.spelled-requires
spelled-requires c = rw c.group-first.ensures (group_within c.args.self.q c.args.self.m c.args.place)

pub returns : goal.returns
returns c =
    let q = c.args.self.q in
    let m = c.args.self.m in
    let p = group_point q (replicate (3 - m) 0) m c.args.place in
    let e : c.spelled.result ≡ point_of q m c.args.place = c.spelled.ensures ∙ rw c.group-first.ensures p in
    let u = undone q m c.args.self.symbols.0 c.args.self.wide.1 in
    record {
      exact = e;
      normal = subst (Normal q m) (sym e) (u.point_normal c.args.place);
      back = λ h. ap (place_of q m) e ∙ u.place_of_point c.args.place (omega (arith, c.args.self.counted));
    }
