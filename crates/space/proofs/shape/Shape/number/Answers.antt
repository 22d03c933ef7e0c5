use Rattle.std.proofs.Common.{arith, sym}
use Rattle.space.proofs.Ranks.{number_more, number_room}
use Rattle.space.proofs.shape.Shape.number.Goals as goal

pub overflow_mul-number : goal.overflow_mul-number
overflow_mul-number c =
    let l = c.loop-x in
    let r = number_room c.args.self.q l.x-index c.args.digits.now c.args.self.symbols.0 c.args.self.symbols.1 (omega arith) c.requires.codes in
    rw l.invariant (omega arith)

pub overflow_add-number : goal.overflow_add-number
overflow_add-number c =
    let l = c.loop-x in
    let r = number_room c.args.self.q l.x-index c.args.digits.now c.args.self.symbols.0 c.args.self.symbols.1 (omega arith) c.requires.codes in
    let b = c.type_inv.digits l.x-index in
    rw l.invariant (omega arith)
