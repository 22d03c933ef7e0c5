use Rattle.std.proofs.Common.{◌≡◌, ℕ, ◌+◌, ◌-◌, ◌<◌, length, take, drop, sym, ap, ◌∙◌, arith, rules}
use Rattle.std.proofs.lemmas.List.{length-take, length-take-le, length-drop}
use Rattle.std.proofs.ByRecursion.{All-take, All-drop}
use Rattle.space.specs.Places.{place_of, point_of}
use Rattle.space.proofs.Undone.{undone}
use Rattle.space.proofs.Ranks.{number_front, place_here, place_later}
use Rattle.space.proofs.shape.Shape.rank.Goals as goal

-- the place where the loop stops
stops : (c : goal.After-number) → c.loop-first.place + c.number.result ≡ place_of c.args.self.q c.args.self.m c.args.p
stops c =
    let q = c.args.self.q in
    let m = c.args.self.m in
    let l = c.loop-first in
    let p = c.args.p in
    let four : length p ≡ 4 = c.requires.point.four in
    let k : m + 1 - (l.first + 1) ≡ m - l.first = omega arith in
    let n : length (take (m - l.first) (drop (l.first + 1) p)) ≡ m - l.first = length-take-le (m - l.first) (drop (l.first + 1) p) (omega (arith, length-drop (l.first + 1) p)) in
    let h = place_here q (m - l.first) l.first p (omega arith) (omega arith) c.if-p-first-ne0.true in
    let f = number_front q (m - l.first) (drop (l.first + 1) p) in
    let e : c.number.result ≡ place_of q (m - l.first) (drop l.first p) = (rw (k, n) at c.number.ensures) ∙ f ∙ sym h in
    omega (arith, e, l.invariant)

pub overflow_add-result : goal.overflow_add-result
overflow_add-result c =
    let u = undone c.args.self.q c.args.self.m c.args.self.symbols.0 c.args.self.wide.1 in
    omega (arith, stops c, u.place_below c.args.p c.requires, c.args.self.counted)

pub overflow_add-place : goal.overflow_add-place
overflow_add-place c =
    let l = c.loop-first in
    let four : length c.args.p ≡ 4 = search rules in
    let n = place_later c.args.self.q (c.args.self.m - l.first) l.first c.args.p (omega arith) (omega arith) c.if-p-first-ne0.false in
    let u = undone c.args.self.q c.args.self.m c.args.self.symbols.0 c.args.self.wide.1 in
    omega (arith, l.invariant, n, u.place_below c.args.p c.requires, c.args.self.counted)

pub returns-then-p-first-ne0 : goal.returns-then-p-first-ne0
returns-then-p-first-ne0 c =
    let u = undone c.args.self.q c.args.self.m c.args.self.symbols.0 c.args.self.wide.1 in
    let e = stops c in
    record {
      exact = e;
      below = omega (arith, e, u.place_below c.args.p c.requires, c.args.self.counted);
      back = ap (point_of c.args.self.q c.args.self.m) e ∙ u.point_of_place c.args.p c.requires;
    }

pub loop-first-preserved : goal.loop-first-preserved
loop-first-preserved c =
    let l = c.loop-first in
    let four : length c.args.p ≡ 4 = search rules in
    let n = place_later c.args.self.q (c.args.self.m - l.first) l.first c.args.p (omega arith) (omega arith) c.if-p-first-ne0.false in
    let k : c.args.self.m - (l.first + 1) ≡ c.args.self.m - l.first - 1 = omega arith in
    rw k (omega (arith, l.invariant, n))

pub returns : goal.returns
returns c =
    let l = c.loop-first in
    let k : c.args.self.m - l.first ≡ 0 = omega arith in
    let i : l.place + 0 ≡ place_of c.args.self.q c.args.self.m c.args.p = rw k at l.invariant in
    let e : l.place ≡ place_of c.args.self.q c.args.self.m c.args.p = omega arith in
    let u = undone c.args.self.q c.args.self.m c.args.self.symbols.0 c.args.self.wide.1 in
    record {
      exact = e;
      below = omega (arith, e, u.place_below c.args.p c.requires, c.args.self.counted);
      back = ap (point_of c.args.self.q c.args.self.m) e ∙ u.point_of_place c.args.p c.requires;
    }
