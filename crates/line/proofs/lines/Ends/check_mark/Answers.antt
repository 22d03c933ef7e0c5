use Rattle.std.proofs.Common.{rules}
use Rattle.line.proofs.Marks.{contains_told}
use Rattle.line.proofs.lines.Ends.check_mark.Goals as goal

pub returns-then-contains : goal.returns-then-contains
returns-then-contains g c = let m = contains_told c.args.t c.args.before.now _ _ c.contains.ensures.value c.if-contains.true in search rules

pub returns-then-divisor_of-eq0 : goal.returns-then-divisor_of-eq0
returns-then-divisor_of-eq0 g c = let m = contains_told c.args.t c.args.before.now _ _ c.contains.ensures.value c.if-contains.false in search rules

pub returns : goal.returns
returns g c = let m = contains_told c.args.t c.args.before.now _ _ c.contains.ensures.value c.if-contains.false in search rules
