use Rattle.std.proofs.Common.{◌≡◌, map, take}
use Rattle.line.specs.Lines.{reading_of}
use Rattle.line.proofs.lines.AskedLine.gather.Given as goal

abbrev pub invariant-loop-target : goal.invariant-loop-target
invariant-loop-target g l = record {
  read : l.readings.items ≡ map (reading_of g.F.Field.algebra.size (g.S.Store.meaning l.initial.store).entries) (take l.target-index l.target-items);
  same : g.S.Store.meaning l.store ≡ g.S.Store.meaning l.initial.store;
  kept : g.S.Store.kept l.store ≡ g.S.Store.kept l.initial.store;
  lent : g.S.Store.lent l.store ≡ g.S.Store.lent l.initial.store;
}
