use Rattle.std.proofs.Common.{◌≡◌, ℕ, ◌+◌, ◌<◌, [], ◌∷◌, ◌++◌, IsOk, map, length, take, sym, refl, ap, ◌∙◌, ap₂, subst, arith}
use Rattle.std.specs.List.{range_with_len}
use Rattle.std.proofs.lemmas.List.{length-set, take_more_set, take_all}
use Rattle.std.proofs.lemmas.List.FromFn.{map-range_with_len_more}
use Rattle.cells.specs.declared.entries.Entry.{Entry}
use Rattle.cells.specs.declared.entries.Entry.TheVariants.{Symbol}
use Rattle.form.specs.Forms.{symbol_at}
use Rattle.plate.specs.Settings.{setting_of}
use Rattle.plate.proofs.Fitting.{fit, burns}
use Rattle.plate.proofs.plates.Plate.burn_places.Goals as goal

pub unwrap-requires : goal.unwrap-requires
unwrap-requires g c =
    let l = c.loop-place in
    let meaning = g.S.Store.meaning in
    let b = burns g.met.F.Field.lawful c.args.form.now.form c.args.self.now.shape (meaning c.args.self.now.store) (meaning l.self.store) l.place c.unwrap-symbol.result
    c.requires.fit c.requires.form c.args.form.now.checked l.invariant.1 l.invariant.2 (omega (arith, c.loop-place-test.true)) (sym c.symbol.ensures ∙ c.unwrap-symbol.ensures) in
    subst IsOk (sym (c.put.ensures.answer ∙ b.accepted)) refl

pub loop-place-preserved : goal.loop-place-preserved
loop-place-preserved g c =
    let F = g.F.Field.algebra in
    let l = c.loop-place in
    let p = l.place in
    let inv = l.invariant in
    let shape = c.args.self.now.shape in
    let start = g.S.Store.meaning c.args.self.now.store in
    let store = g.S.Store.meaning l.self.store in
    let e = c.put.ensures in
    let symbol : ℕ → Entry = λ p. Symbol (symbol_at F shape.m shape.d c.args.form.now.form.coefficients.now p) in
    let b = burns g.met.F.Field.lawful c.args.form.now.form shape start store p c.unwrap-symbol.result
    c.requires.fit c.requires.form c.args.form.now.checked inv.1 inv.2 (omega (arith, c.loop-place-test.true)) (sym c.symbol.ensures ∙ c.unwrap-symbol.ensures) in
    let f = fit (setting_of F shape start) c.requires.fit in
    let within : p < length store.entries = omega (arith, inv.1, f.counted, shape.counted, c.loop-place-test.true) in
    let put = ap (λ m. m.entries) (e.done ∙ b.put) in (
      ap (take (p + 1)) put
          ∙ take_more_set store.entries p (Symbol c.unwrap-symbol.result) within
          ∙ ap₂ (λ a b. a ++ (b ∷ [])) inv.0 (ap Symbol b.is)
          ∙ sym (map-range_with_len_more symbol 0 p p (omega arith)),
      ap length put ∙ length-set store.entries p _ ∙ inv.1,
      ap (λ m. m.alphabet) (e.done ∙ b.put) ∙ inv.2,
      inv.3,
      e.kept ∙ inv.4,
      e.lent ∙ inv.5,
    )
