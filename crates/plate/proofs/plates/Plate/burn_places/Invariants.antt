use Rattle.std.proofs.Common.{◌≡◌, ℕ, map, length, take}
use Rattle.std.specs.List.{range_with_len}
use Rattle.cells.specs.declared.entries.Entry.{Entry}
use Rattle.cells.specs.declared.entries.Entry.TheVariants.{Symbol}
use Rattle.form.specs.Forms.{symbol_at}
use Rattle.plate.proofs.plates.Plate.burn_places.Given as goal

-- the places so far hold the form's symbols
abbrev pub invariant-loop-place : goal.invariant-loop-place
invariant-loop-place g l =
    let F = g.F.Field.algebra in
    let start = g.S.Store.meaning l.initial.self.store in
    let store = g.S.Store.meaning l.self.store in
    let symbol : ℕ → Entry = λ p. Symbol (symbol_at F l.initial.self.shape.m l.initial.self.shape.d l.form.form.coefficients.now p) in
    (take l.place store.entries ≡ map symbol (range_with_len 0 l.place))
    × (length store.entries ≡ length start.entries)
    × (store.alphabet ≡ start.alphabet)
    × (l.self.shape ≡ l.initial.self.shape)
    × (g.S.Store.kept l.self.store ≡ g.S.Store.kept l.initial.self.store)
    × (g.S.Store.lent l.self.store ≡ g.S.Store.lent l.initial.self.store)
