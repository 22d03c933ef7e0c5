use Rattle.std.proofs.Common.{rules, arith, ◌≡◌, ◌∙◌}
use Rattle.std.proofs.lemmas.Iterator.{first_from_Range}
use Rattle.field.proofs.Inverses.{inverse_found}
use Rattle.field.proofs.Field.inv.Goals as goal

pub returns : goal.returns
returns g c =
    inverse_found g.met.Self.Field.lawful c.args.a _ _ (omega arith) (c.Q.ensures ∙ g.met.Self.Field.sized) c.find.result
    (first_from_Range _ _ _ _ (λ x. g.Self.Field.algebra.times c.args.a x ≡ 1) (λ x. g.Self.Field.algebra.times c.args.a x ≡ 1 → ⊥) c.find.ensures.ran (λ x q k. search rules) (λ x q k. search rules))
