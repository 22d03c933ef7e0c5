use Rattle.std.proofs.Common.{◌≡◌, not, ◌∙◌, sym, count_by, rules}
use Rattle.field.specs.Algebra.{ops}
use Rattle.decode.specs.Near.{through}
use Rattle.decode.proofs.Picked.{misses_counted}
use Rattle.decode.proofs.sample.Sample.misses.Goals as goal

pub returns : goal.returns
returns g c =
    let o = ops g.F.Field.algebra in
    let ps = c.args.self.now.points.now in
    let e : c.count.result ≡ count_by (λ p. not (through o c.args.g.now p)) ps = search rules in
    e ∙ sym (misses_counted o c.args.g.now ps)
