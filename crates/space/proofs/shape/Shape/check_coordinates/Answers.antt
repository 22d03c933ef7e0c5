use Rattle.std.proofs.Common.{◌≡◌, length, Ok, sym, ap, ◌∙◌, arith, rules}
use Rattle.space.specs.Points.{checked}
use Rattle.space.proofs.Coordinates.{bad_here, bad_later, bad_none, none_bad}
use Rattle.space.proofs.shape.Shape.check_coordinates.Goals as goal

pub returns : goal.returns
returns c =
    let l : length c.args.p ≡ 4 = search rules in
    let e = sym c.loop-position.invariant ∙ none_bad c.args.self.q c.args.self.m c.loop-position.position c.args.p (omega arith) in
    record { exact = sym (ap (checked (Ok tt)) e); good = bad_none _ _ c.args.p l (omega arith) e }
