use Rattle.std.proofs.Common.{◌*◌, ◌%◌, ◌<◌, ◌≤◌, mul-le-mul, arith}
use Rattle.cells.specs.Stores.{count_of}
use Rattle.stride.specs.Strides.{stride_meaning, stride_hidden}
use Rattle.layer.proofs.Views.{of_count, passes_at}
use Rattle.stride.specs.Shown.{stride_has}
use Rattle.stride.proofs.StrideView.{stride_shows}
use Rattle.stride.proofs.placing.StridePairPlacing.place.Goals as goal

pub overflow_mul-result : goal.overflow_mul-result
overflow_mul-result c =
    let p = c.args.self.now in
    let i = c.args.i in
    let m = of_count c.args.below in
    let h = stride_has m.0 p.n p.step i (omega (arith, c.shown.ensures.count m.0 m.1)) in
    let a : p.step ≤ 65536 = omega (arith, p.within, p.most) in
    let b : i ≤ 65536 = omega (arith, h.1, p.most) in
    omega (arith, mul-le-mul a b)

pub returns-then-i-shown : goal.returns-then-i-shown
returns-then-i-shown c = λ m e.
    let p = c.args.self.now in
    let i = c.args.i in
    let h : i < count_of (stride_meaning m p.n p.step) = omega (arith, c.shown.ensures.count m e) in
    passes_at (λ x. stride_meaning x p.n p.step) (λ x. stride_hidden x p.n p.step) m i ((p.step * i) % p.n) h (stride_shows m p.n p.step i p.some p.apart h)
