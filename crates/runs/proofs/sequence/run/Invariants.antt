use Rattle.std.proofs.Common.{◌≡◌, ◌≤◌, map, length, take, vec_items, vec_len, vec_capacity}
use Rattle.plate.specs.Settings.{setting_of}
use Rattle.plate.specs.Asked.{request}
use Rattle.runs.specs.Histories.{Ran}
use Rattle.runs.proofs.sequence.run.Given as goal

-- the calls so far are a run
abbrev pub invariant-loop-call : goal.invariant-loop-call
invariant-loop-call g l =
    let start = g.S.Store.meaning l.initial.plate.store in
    let store = g.S.Store.meaning l.plate.store in
    (Ran (setting_of g.F.Field.algebra l.initial.plate.shape start) start.entries (map request (take l.call-index l.calls)) (vec_items l.answers) store.entries)
    × (setting_of g.F.Field.algebra l.plate.shape store ≡ setting_of g.F.Field.algebra l.initial.plate.shape start)
    × (l.plate.shape ≡ l.initial.plate.shape)
    × (g.S.Store.kept l.plate.store ≡ g.S.Store.kept l.initial.plate.store)
    × (g.S.Store.lent l.plate.store ≡ g.S.Store.lent l.initial.plate.store)
    × (vec_len l.answers ≡ l.call-index)
    × (length l.calls ≤ vec_capacity l.answers)
