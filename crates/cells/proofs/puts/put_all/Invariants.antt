use Rattle.std.proofs.Common.{◌≡◌, ◌≤◌, take}
use Rattle.cells.specs.Puts.{accepted, laid}
use Rattle.cells.proofs.puts.put_all.Given as goal

-- those before i stand where they belong, and none of them was refused
abbrev pub invariant-loop-i : goal.invariant-loop-i
invariant-loop-i g l =
    (l.i ≤ accepted (g.S.Store.meaning l.initial.store) l.symbols)
    × (g.S.Store.meaning l.store ≡ laid (λ i. i) (g.S.Store.meaning l.initial.store) 0 (take l.i l.symbols))
    × (g.S.Store.kept l.store ≡ g.S.Store.kept l.initial.store)
    × (g.S.Store.lent l.store ≡ g.S.Store.lent l.initial.store)
