use Rattle.std.proofs.Common.{◌++◌, sym, ap, ◌∙◌, arith}
use Rattle.std.proofs.lemmas.List.{append-nil}
use Rattle.report.proofs.Chosen.{below_width, none_left}
use Rattle.report.proofs.puts.choose.Goals as goal

pub returns : goal.returns
returns c =
    let items = c.loop-i.list.items in
    let it = c.loop-i.i-iterator in
    let bits = c.args.bits in
    let below = below_width 32 bits (omega arith) in
    let none = none_left _ it.iter.count it.n it.iter.iter.rest.now bits below c.loop-i.invariant.2 (λ h. (c.in-None.ensures.steps h).0.0) in
    sym (append-nil items) ∙ ap (λ l. items ++ l) (sym none) ∙ c.loop-i.invariant.0
